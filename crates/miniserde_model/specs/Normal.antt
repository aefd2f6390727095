-- The normal form of a tree, in which an object's names are unique and in byte order (RFC 8259, section 4).
use Rattle.std.specs.Prelude.{◌≡◌, ℕ, ℤ, pos, negsuc, List, Option, Some, None, bytes_eq, if◌then◌else◌, ⊤, refl, codes}
use Rattle.std.specs.Ordering.{nat_cmp, match_ordering}
use Rattle.std.specs.Cmp.Lexicographic.{slice_cmp}
use Rattle.std.specs.declared.cmp.Ordering.{Ordering}
use Rattle.std.specs.declared.cmp.Ordering.TheVariants.{Less}
use Rattle.miniserde_model.specs.Tree.{Tree, nonneg, neg, list, members, Trees, no_trees, tree, Members, no_members, member}

-- the order of two texts by their bytes
abbrev pub text_cmp : List ℕ → List ℕ → Ordering
text_cmp = slice_cmp nat_cmp

-- The sorted members with the tree t added under the name. If they have a tree u of that name, `choose t u` takes its
-- place.
abbrev pub insert_with : (Tree → Tree → Tree) → List ℕ → Tree → Members → Members
insert_with choose name t no_members = member name t no_members
insert_with choose name t (member other u ms) = match_ordering (text_cmp name other) (member name t (member other u ms))
    (member other (choose t u) ms) (member other u (insert_with choose name t ms))

-- the sorted members with the tree t added under the name, unless they have a member of that name
abbrev pub with_if_absent : List ℕ → Tree → Members → Members
with_if_absent = insert_with (λ t u. u)

-- the sorted members with the tree t added under the name; it replaces the tree of the same name
abbrev pub put : List ℕ → Tree → Members → Members
put = insert_with (λ t u. t)

-- the leaf in a normal form of an integer that is written with a minus: `-0` becomes 0
abbrev pub norm_neg : ℤ → Tree
norm_neg (pos n) = nonneg n
norm_neg (negsuc n) = neg (negsuc n)

abbrev mutual
  -- the normal form of a tree by f, which returns the leaf of each integer written with a minus
  pub norm_by : (ℤ → Tree) → Tree → Tree
  norm_by f (neg z) = f z
  norm_by f (list ts) = list (norm_children_by f ts)
  norm_by f (members ms) = members (norm_members_by f ms)
  norm_by f leaf = leaf

  -- the normal forms by f of a list's children, in order
  pub norm_children_by : (ℤ → Tree) → Trees → Trees
  norm_children_by f no_trees = no_trees
  norm_children_by f (tree t ts) = tree (norm_by f t) (norm_children_by f ts)

  -- the normal form by f of an object's members: of each name the normal form of its last tree, in
  -- byte order of the names
  pub norm_members_by : (ℤ → Tree) → Members → Members
  norm_members_by f no_members = no_members
  norm_members_by f (member name t ms) = with_if_absent name (norm_by f t) (norm_members_by f ms)

-- the normal form of a tree, in which no `-0` is left
abbrev pub norm : Tree → Tree
norm = norm_by norm_neg

-- the normal forms of a list's children, in order
abbrev pub norm_children : Trees → Trees
norm_children = norm_children_by norm_neg

-- the normal form of an object's members
abbrev pub norm_members : Members → Members
norm_members = norm_members_by norm_neg

-- ---- two facts that fix the normal form of members

-- the first tree if there is one, and else the second, if there is one
abbrev pub or_else : Option Tree → Option Tree → Option Tree
or_else None o = o
or_else (Some t) o = Some t

-- the tree of the last member of the name q, if there is one
abbrev pub last_of : List ℕ → Members → Option Tree
last_of q no_members = None
last_of q (member name t ms) = or_else (last_of q ms) (if bytes_eq name q then Some t else None)

-- there is no member, or the first one has a name above `name`
abbrev pub BeginsAbove : List ℕ → Members → Type 0
BeginsAbove name no_members = ⊤
BeginsAbove name (member other u ms) = text_cmp name other ≡ Less

-- the names of the members strictly rise by their bytes
abbrev pub Rise : Members → Type 0
Rise no_members = ⊤
Rise (member name t ms) = BeginsAbove name ms × Rise ms

-- ---- the normal form as a reader makes it, from the left

-- the members `made` with further members put in one by one, each with the normal form of its tree by f
abbrev pub put_all_by : (ℤ → Tree) → Members → Members → Members
put_all_by f made no_members = made
put_all_by f made (member name t ms) = put_all_by f (put name (norm_by f t) made) ms

-- the first members with the second ones put in one by one, each with the normal form of its tree
abbrev pub put_all : Members → Members → Members
put_all = put_all_by norm_neg

-- Worked cases: `{"b":1,"a":-0,"b":2}` has the normal form `{"a":0,"b":2}`, and `-0` is not in normal form.
abbrev unordered : Members
unordered = member (codes "b") (nonneg 1) (member (codes "a") (neg (pos 0)) (member (codes "b") (nonneg 2) no_members))

abbrev ordered : Members
ordered = member (codes "a") (nonneg 0) (member (codes "b") (nonneg 2) no_members)

pub last_and_in_order : norm (members unordered) ≡ members ordered
last_and_in_order = refl

pub negated_zero_is_not_normal : norm (neg (pos 0)) ≡ neg (pos 0) → ⊥
negated_zero_is_not_normal e = cc
