-- The arrays of n items that trees mean: lists of exactly n children (RFC 8259, section 5).
use Rattle.std.specs.Prelude.{◌≡◌, ℕ, List, length, nat_eq, if◌then◌else◌, Option, Some, None, option_and_then, [], ◌∷◌, true, refl}
use Rattle.miniserde_model.specs.Tree.{Tree, truth, list, no_trees, tree}
use Rattle.miniserde_read.specs.types.Lists.{ListReads, list_of}
use Rattle.miniserde_read.specs.types.Words.{boolean_of}

-- the tree is a list of exactly n children, and by R each means the item at its index
abbrev pub ArrayReads : {T : Type 0} → ℕ → (Tree → T → Type 0) → Tree → List T → Type 0
ArrayReads n R t xs = ListReads R t xs × (length xs ≡ n)

module _ {C : Type 0} (n : ℕ) where
  -- the list, if it has exactly n items
  abbrev pub exactly : List C → Option (List C)
  exactly xs = if nat_eq (length xs) n then Some xs else None

  -- the contents that f returns for the children of a list, if it returns one for each and they are exactly n
  abbrev pub array_of : (Tree → Option C) → Tree → Option (List C)
  array_of f t = option_and_then exactly (list_of f t)

-- Worked cases: `[true]` is an array of one boolean, and not of two.
pub exactly_one : array_of 1 boolean_of (list (tree (truth true) no_trees)) ≡ Some (true ∷ [])
exactly_one = refl

pub one_is_not_two : array_of 2 boolean_of (list (tree (truth true) no_trees)) ≡ None
one_is_not_two = refl
