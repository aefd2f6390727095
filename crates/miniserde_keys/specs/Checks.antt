-- Newtypes with a check, as values and as keys: the check says which contents are taken.
use Rattle.std.specs.Prelude.{ℕ, ℤ, pos, negsuc, Bool, false, List, [], ◌∷◌, Option, Some, None, option_and_then, if◌then◌else◌}
use Rattle.miniserde_keys.specs.Keys.{Key}

-- the content, if the check accepts it
abbrev pub if_accepted : {C : Type 0} → (C → Bool) → C → Option C
if_accepted accepts c = if accepts c then Some c else None

-- a check of unsigned integers, as one of integers
abbrev pub on_unsigned : (ℕ → Bool) → ℤ → Bool
on_unsigned accepts (pos n) = accepts n
on_unsigned accepts (negsuc n) = false

-- a check of unsigned integers, as one of their contents as keys
abbrev pub on_unsigned_key : (ℕ → Bool) → Key → Bool
on_unsigned_key accepts (n ∷ ns) = accepts n
on_unsigned_key accepts [] = false

-- the content of the key that a name is read as by `read`, if the check accepts it
abbrev pub checked_key : (Key → Bool) → (List ℕ → Option Key) → List ℕ → Option Key
checked_key accepts read name = option_and_then (if_accepted accepts) (read name)
