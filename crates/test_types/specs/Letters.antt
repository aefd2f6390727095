-- Names of letters, whatever their case.
use Rattle.std.specs.Prelude.{◌≡◌, ℕ, Bool, true, ◌&&◌, nat_lt, List, length, map, Option, Some, None, if◌then◌else◌}
use Rattle.std.specs.List.{list_all}
use Rattle.std.specs.Char.{is_ascii_alphabetic, to_ascii_lowercase}

-- one letter of ASCII or more, and nothing else
abbrev pub are_letters : List ℕ → Bool
are_letters s = nat_lt 0 (length s) && list_all is_ascii_alphabetic s

-- letters, each in lower case
abbrev pub AreLower : List ℕ → Type 0
AreLower s = (are_letters s ≡ true) × (map to_ascii_lowercase s ≡ s)

-- letters are read in lower case
abbrev pub read_letters : List ℕ → Option (List ℕ)
read_letters k = if are_letters k then Some (map to_ascii_lowercase k) else None
