-- The size of a tree: how many values it has.
use Rattle.std.specs.Prelude.{ℕ, ◌+◌, Bool, true, false, ◌≡◌, refl}
use Rattle.miniserde_model.specs.Tree.{Tree, list, members, Trees, no_trees, tree, Members, no_members, member, null}

abbrev mutual
  -- how many values the tree has, itself counted
  pub size : Tree → ℕ
  size (list ts) = 1 + size_of_children ts
  size (members ms) = 1 + size_of_members ms
  size leaf = 1

  -- how many values the children have in all, themselves counted
  pub size_of_children : Trees → ℕ
  size_of_children no_trees = 0
  size_of_children (tree t ts) = size t + size_of_children ts

  -- how many values the trees of the members have in all, themselves counted
  pub size_of_members : Members → ℕ
  size_of_members no_members = 0
  size_of_members (member name t ms) = size t + size_of_members ms

-- whether the tree is a leaf or an empty container
abbrev pub is_bare : Tree → Bool
is_bare (list (tree t ts)) = false
is_bare (members (member name t ms)) = false
is_bare t = true

-- Worked cases: `[null,[]]` has three values; `[]` is bare, and `[null]` is not.
pub three_values : size (list (tree null (tree (list no_trees) no_trees))) ≡ 3
three_values = refl

pub empty_is_bare : is_bare (list no_trees) ≡ true
empty_is_bare = refl

pub nonempty_is_not_bare : is_bare (list (tree null no_trees)) ≡ false
nonempty_is_not_bare = refl
