-- The leaf of a number, and the number that a leaf means (RFC 8259, section 6).
use Rattle.std.specs.Prelude.{◌≡◌, Option, Some, None}
use Rattle.miniserde_model.specs.Tree.{Tree, nonneg, neg, num}
use Rattle.miniserde_value.specs.declared.json.number.Number.{Number}
use Rattle.miniserde_value.specs.declared.json.number.Number.TheVariants.{U64, I64, Text}

-- the leaf that means the number; that of an `I64` is `neg` even if it is not negative, to tell it from a `U64`; no
-- text spells a `neg` above 0
abbrev pub number_leaf : Number → Tree
number_leaf (U64 n) = nonneg n
number_leaf (I64 z) = neg z
number_leaf (Text x) = num x

-- the tree itself, if it is the leaf of a number
abbrev pub if_number : Tree → Option Tree
if_number (nonneg n) = Some (nonneg n)
if_number (neg z) = Some (neg z)
if_number (num x) = Some (num x)
if_number _ = None

-- the tree means the number v: an integer without a minus is a `U64`, one with a minus an `I64`, and a number text a
-- `Text`
abbrev pub ReadsNumber : Tree → Number → Type 0
ReadsNumber (nonneg n) v = v ≡ U64 n
ReadsNumber (neg z) v = v ≡ I64 z
ReadsNumber (num x) v = v ≡ Text x
ReadsNumber _ v = ⊥
