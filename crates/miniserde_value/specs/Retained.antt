-- The part of a tree that a `Value` retains: of each name the last member, in byte order (RFC 8259, section 4).
use Rattle.std.specs.Prelude.{Bool, not, ◌||◌, Option, Some, None, if◌then◌else◌}
use Rattle.std.specs.Prelude.{◌≡◌, true, pos, refl, codes}
use Rattle.miniserde_model.specs.Tree.{Tree, null, nonneg, neg, Trees, members, Members, no_members, member}
use Rattle.miniserde_model.specs.Normal.{norm_by, norm_children_by, norm_members_by}
use Rattle.miniserde_model.specs.Distinct.{names_distinct}

-- the part of the tree that a `Value` retains: the normal form, but with the sign of `-0`
abbrev pub retained_tree : Tree → Tree
retained_tree = norm_by neg

-- the retained trees of a list's children
abbrev pub retained_children : Trees → Trees
retained_children = norm_children_by neg

-- the retained members of an object: of each name the last one's retained tree, in the order of the names
abbrev pub retained_members : Members → Members
retained_members = norm_members_by neg

-- the retained tree; with `once`, a tree with duplicate names gives nothing
abbrev pub retained_if : Bool → Tree → Option Tree
retained_if once t = if not once || names_distinct t then Some (retained_tree t) else None

-- Worked cases: `-0` keeps its sign, the last of equal names stays, and with `once` duplicate names
-- give nothing. `duplicate` is the tree of `{"a":null,"a":1}`.
abbrev duplicate : Tree
duplicate = members (member (codes "a") null (member (codes "a") (nonneg 1) no_members))

pub sign_is_retained : retained_tree (neg (pos 0)) ≡ neg (pos 0)
sign_is_retained = refl

pub last_is_retained : retained_tree duplicate ≡ members (member (codes "a") (nonneg 1) no_members)
last_is_retained = refl

pub duplicate_gives_nothing : retained_if true duplicate ≡ None
duplicate_gives_nothing = refl
