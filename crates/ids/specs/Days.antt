-- The texts of days: `2026-11-30`.
use Rattle.std.specs.Prelude.{ℕ, List, [], ◌∷◌, ◌++◌, Option}
use Rattle.std.specs.Result.{result_ok}
use Rattle.jiff_fmt.specs.Temporal.{DateParts, parse_date}
use Rattle.jiff_fmt.specs.Text.{year_text, pad2}

-- the text of a day
abbrev pub day_text : DateParts → List ℕ
day_text d = year_text d.year ++ 45 ∷ [] ++ pad2 d.month ++ 45 ∷ [] ++ pad2 d.day

-- the day that a text is parsed as, if any
abbrev pub day_of : List ℕ → Option DateParts
day_of s = result_ok (parse_date s)
