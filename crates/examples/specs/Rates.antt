-- The texts of fractions.
use Rattle.std.specs.Prelude.{ℕ, List, Option, Some, None}
use Rattle.miniserde.specs.declared.json.Number.{Number}
use Rattle.miniserde.specs.declared.json.Number.TheVariants.{Text}

-- the text of a number that is kept as its text
abbrev pub kept_text : Number → Option (List ℕ)
kept_text (Text x) = Some x
kept_text n = None
