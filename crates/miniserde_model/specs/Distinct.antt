-- Trees without duplicate names in any object (RFC 8259, section 4).
use Rattle.std.specs.Prelude.{ℕ, Bool, true, not, ◌&&◌, List, is_some, codes, ◌≡◌, false, refl}
use Rattle.miniserde_model.specs.Tree.{Tree, list, members, Trees, no_trees, tree, Members, no_members, member, null}
use Rattle.miniserde_model.specs.Normal.{last_of}

-- whether the name, as decoded text, is the name of one of the members
abbrev pub has_name : List ℕ → Members → Bool
has_name name ms = is_some (last_of name ms)

abbrev mutual
  -- whether no object in the tree has duplicate names
  pub names_distinct : Tree → Bool
  names_distinct (list ts) = names_distinct_in_children ts
  names_distinct (members ms) = names_distinct_in_members ms
  names_distinct leaf = true

  -- whether no object in the children has duplicate names
  pub names_distinct_in_children : Trees → Bool
  names_distinct_in_children no_trees = true
  names_distinct_in_children (tree t ts) = names_distinct t && names_distinct_in_children ts

  -- whether the members have no duplicate names, and the objects in their trees have none
  pub names_distinct_in_members : Members → Bool
  names_distinct_in_members no_members = true
  names_distinct_in_members (member name t ms) = not (has_name name ms) && (names_distinct t && names_distinct_in_members ms)

-- Worked cases: `{"a":null,"b":null}` has no duplicate name, and `[{"a":null,"a":null}]` has one.
pub two_names : names_distinct (members (member (codes "a") null (member (codes "b") null no_members))) ≡ true
two_names = refl

pub one_name_twice : names_distinct (list (tree (members (member (codes "a") null (member (codes "a") null no_members))) no_trees)) ≡ false
one_name_twice = refl
