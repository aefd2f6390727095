-- The pairs that trees mean: lists of exactly two children (RFC 8259, section 5).
use Rattle.std.specs.Prelude.{Option, None, option_and_then, option_map, ◌≡◌, Some, true, false, refl}
use Rattle.miniserde_model.specs.Tree.{Tree, list, no_trees, tree, truth}
use Rattle.miniserde_read.specs.types.Words.{boolean_of}

-- the tree is a list of exactly two children, and they mean the parts of the pair v, by R and by S
abbrev pub PairReads : {T U : Type 0} → (Tree → T → Type 0) → (Tree → U → Type 0) → Tree → T × U → Type 0
PairReads R S (list (tree t (tree u no_trees))) v = R t v.0 × S u v.1
PairReads R S _ v = ⊥

module _ {A B : Type 0} where
  -- the pair of two parts, if both are there
  abbrev pub both : Option A × Option B → Option (A × B)
  both s = option_and_then (λ a. option_map (λ b. (a, b)) s.1) s.0

  -- the contents that f and g return for the children of a list of exactly two, if both return one
  abbrev pub pair_of : (Tree → Option A) → (Tree → Option B) → Tree → Option (A × B)
  pair_of f g (list (tree t (tree u no_trees))) = both (f t, g u)
  pair_of f g _ = None

-- Worked cases: `[true,false]` is a pair of booleans, and `[true]` is none.
pub two_booleans : pair_of boolean_of boolean_of (list (tree (truth true) (tree (truth false) no_trees))) ≡ Some (true, false)
two_booleans = refl

pub one_boolean : pair_of boolean_of boolean_of (list (tree (truth true) no_trees)) ≡ None
one_boolean = refl
