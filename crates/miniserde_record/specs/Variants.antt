-- The meaning of a unit enum, by the names of its values.
use Rattle.std.specs.Prelude.{◌≡◌, List, Some}
use Rattle.miniserde_model.specs.Tree.{str}
use Rattle.miniserde_read.specs.Meaning.{Meaning, meaning_with}
use Rattle.miniserde_read.specs.types.Objects.{Name}
use Rattle.miniserde_record.specs.Names.{find_variant, variant_of}
use Rattle.miniserde_record.specs.laws.Names.{variant-given}

-- The meaning of the type W, which contains a value of a unit enum, as `value` returns it: a string
-- means the value of which it is the name. f returns the name of a value, vs has all values, and
-- `found` says that each value is the first in vs that has its name.
abbrev pub variant_meaning : {T W : Type 0} (f : T → Name) (vs : List T)
    → ((v : T) → find_variant f vs (f v) ≡ Some v) → (W → T) → Meaning W
variant_meaning f vs found value =
    meaning_with value (variant_of f vs) (λ t w. t ≡ str (f (value w)))
    (λ t w. variant-given f vs found t (value w))
