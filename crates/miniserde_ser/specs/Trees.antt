-- The trees of lists, optional values and maps; f returns the tree of a part.
use Rattle.std.specs.Prelude.{◌≡◌, ℕ, List, [], ◌∷◌, Option, Some, None, ⊤}
use Rattle.miniserde_model.specs.Tree.{Tree, null, Trees, no_trees, tree, Members, no_members, member}
use Rattle.miniserde_model.specs.Normal.{norm, with_if_absent}

-- the trees of the items, in order
abbrev pub trees_of : {A : Type 0} → (A → Tree) → List A → Trees
trees_of f [] = no_trees
trees_of f (x ∷ xs) = tree (f x) (trees_of f xs)

-- the tree of the value, or null for `None`
abbrev pub option_tree : {A : Type 0} → (A → Tree) → Option A → Tree
option_tree f None = null
option_tree f (Some x) = f x

-- the members of the entries es in order: `text` returns the text of a key, and f the tree of a value
abbrev pub members_of : {K V : Type 0} → (K → List ℕ) → (V → Tree) → List (K × V) → Members
members_of text f [] = no_members
members_of text f (e ∷ es) = member (text e.0) (f e.1) (members_of text f es)

-- the members in rising byte order of their names; of equal names the last one stays
abbrev pub in_order : Members → Members
in_order no_members = no_members
in_order (member name t ms) = with_if_absent name t (in_order ms)

-- the tree of each member is in normal form
abbrev pub TreesAreNormal : Members → Type 0
TreesAreNormal no_members = ⊤
TreesAreNormal (member name t ms) = (norm t ≡ t) × TreesAreNormal ms
