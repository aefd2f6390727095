-- The number that an integer is, and the tree that it is written as.
use Rattle.std.specs.Prelude.{ℤ, pos, negsuc, Bool, true, false}
use Rattle.miniserde_model.specs.Tree.{Tree, nonneg, neg}
use Rattle.miniserde_keys.specs.declared.integers.WideInteger.{WideInteger}
use Rattle.miniserde_keys.specs.declared.integers.WideInteger.TheVariants.{Unsigned, Signed}

-- the tree of an integer, which is written with a minus only if it is negative
abbrev pub integer : ℤ → Tree
integer (pos n) = nonneg n
integer (negsuc n) = neg (negsuc n)

-- the number that a wide integer is
abbrev pub number_of : WideInteger → ℤ
number_of (Unsigned n) = pos n
number_of (Signed z) = z

-- whether a wide integer is a number of a signed type
abbrev pub is_of_signed : WideInteger → Bool
is_of_signed (Unsigned n) = false
is_of_signed (Signed z) = true
