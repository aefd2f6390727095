-- The lists that trees mean: each child of a list means an item, in order (RFC 8259, section 5).
use Rattle.std.specs.Prelude.{List, [], ◌∷◌, Option, Some, None, option_and_then, ⊤, ◌≡◌, true, refl}
use Rattle.miniserde_model.specs.Tree.{Tree, list, Trees, no_trees, tree, null, truth}
use Rattle.miniserde_read.specs.types.Words.{boolean_of}

-- there are as many items as children, and by R each child means the item at its index
abbrev pub EachReads : {T : Type 0} → (Tree → T → Type 0) → Trees → List T → Type 0
EachReads R no_trees [] = ⊤
EachReads R no_trees (x ∷ xs) = ⊥
EachReads R (tree t ts) [] = ⊥
EachReads R (tree t ts) (x ∷ xs) = R t x × EachReads R ts xs

-- the tree is a list, there are as many items as children, and by R each child means the item at its index
abbrev pub ListReads : {T : Type 0} → (Tree → T → Type 0) → Tree → List T → Type 0
ListReads R (list ts) xs = EachReads R ts xs
ListReads R _ xs = ⊥

-- the contents that f returns for the children, in order, if it returns one for each
abbrev pub each : {C : Type 0} → (Tree → Option C) → Trees → Option (List C)
each f no_trees = Some []
each f (tree t ts) = option_and_then (λ x. option_and_then (λ xs. Some (x ∷ xs)) (each f ts)) (f t)

-- the contents that f returns for the children of a list, in order, if it returns one for each
abbrev pub list_of : {C : Type 0} → (Tree → Option C) → Tree → Option (List C)
list_of f (list ts) = each f ts
list_of f _ = None

-- Worked cases: `[true]` is a list of booleans, and `[null]` is none.
pub one_boolean : list_of boolean_of (list (tree (truth true) no_trees)) ≡ Some (true ∷ [])
one_boolean = refl

pub no_boolean : list_of boolean_of (list (tree null no_trees)) ≡ None
no_boolean = refl
