-- The trees of a writer's fragments, which are leaves.
use Rattle.miniserde_model.specs.Tree.{Tree, null, truth, nonneg, num, str}
use Rattle.miniserde_keys.specs.Integers.{integer}
use Rattle.miniserde_ser.specs.declared.ser.Fragment.{Fragment}
use Rattle.miniserde_ser.specs.declared.ser.Fragment.TheVariants.{Null, Bool, Str, U64, I64, Text}

-- the tree of a fragment; `Text` is a number that is kept as its text
abbrev pub fragment_tree : Fragment → Tree
fragment_tree Null = null
fragment_tree (Bool b) = truth b
fragment_tree (Str s) = str s.now
fragment_tree (U64 n) = nonneg n
fragment_tree (I64 n) = integer n
fragment_tree (Text n) = num n.now
