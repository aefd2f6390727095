-- The tuples that trees mean: lists with a child for each item (RFC 8259, section 5).
use Rattle.std.specs.Prelude.{Option, Some, None, ⊤, ◌≡◌, true, refl}
use Rattle.miniserde_model.specs.Tree.{Tree, list, Trees, no_trees, tree, truth}
use Rattle.miniserde_read.specs.types.Pairs.{both}
use Rattle.miniserde_read.specs.types.Words.{boolean_of}

-- there are no children, since there are no items
abbrev pub NoneReads : Trees → Unit {0} → Type 0
NoneReads no_trees v = ⊤
NoneReads (tree t ts) v = ⊥

-- the content of no items, if there are no children
abbrev pub none_of : Trees → Option (Unit {0})
none_of no_trees = Some tt
none_of (tree t ts) = None

-- the first child means the first item, by R, and the later children mean the later items, by S
abbrev pub ItemReads : {T V : Type 0} → (Tree → T → Type 0) → (Trees → V → Type 0) → Trees → T × V → Type 0
ItemReads R S no_trees v = ⊥
ItemReads R S (tree t ts) v = R t v.0 × S ts v.1

-- the contents that f returns for the first child and g for the later ones, if both return one; `None` without
-- children
abbrev pub item_of : {A B : Type 0} → (Tree → Option A) → (Trees → Option B) → Trees → Option (A × B)
item_of f g no_trees = None
item_of f g (tree t ts) = both (f t, g ts)

-- the tree is a list, and its children mean the items v by R
abbrev pub TupleReads : {V : Type 0} → (Trees → V → Type 0) → Tree → V → Type 0
TupleReads R (list ts) v = R ts v
TupleReads R _ v = ⊥

-- what f returns for the children of a list; `None` for any other tree
abbrev pub tuple_of : {C : Type 0} → (Trees → Option C) → Tree → Option C
tuple_of f (list ts) = f ts
tuple_of f _ = None

-- Worked cases: `[true]` is a tuple of one boolean, and `[]` is none.
pub one_item : tuple_of (item_of boolean_of none_of) (list (tree (truth true) no_trees)) ≡ Some (true, tt)
one_item = refl

pub no_item : tuple_of (item_of boolean_of none_of) (list no_trees) ≡ None
no_item = refl
