-- What an open container has of children and of members that came one after another.
use Rattle.std.proofs.Common.{◌≡◌, List, [], ◌∷◌, refl, ap}
use Rattle.miniserde_model.specs.Tree.{Tree, neg, Trees, no_trees, tree, Members, no_members}
use Rattle.miniserde_model.specs.Normal.{put_all_by}
use Rattle.miniserde_model.proofs.OneNormal.{put_all_norm}
use Rattle.miniserde_ser.specs.Trees.{trees_of}
use Rattle.miniserde_value.specs.Retained.{retained_members}

-- the trees as a list
abbrev pub listed : Trees → List Tree
listed no_trees = []
listed (tree t ts) = t ∷ listed ts

-- the list of the children ts, made into children, is ts
pub trees_listed : (ts : Trees) → trees_of (λ t. t) (listed ts) ≡ ts
trees_listed no_trees = refl
trees_listed (tree t ts) = ap (tree t) (trees_listed ts)

-- ---- members that are put one after another

-- the first members with the retained forms of the second ones put in one by one, by `put`
abbrev pub put_retained : Members → Members → Members
put_retained = put_all_by neg

-- members that are put one by one into none are the retained members
pub puts_retained : (ms : Members) → put_retained no_members ms ≡ retained_members ms
puts_retained = put_all_norm neg
