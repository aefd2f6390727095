-- Externally tagged enums: `"Ping"` is a variant without data, and `{"Text":"a"}` is one with data.
use Rattle.std.specs.Prelude.{◌≡◌, Option, Some, None, codes, refl}
use Rattle.miniserde_model.specs.Tree.{Tree, str, members, no_members, member, null}
use Rattle.miniserde_read.specs.types.Objects.{Name}

-- the tree of the variant of the name n: without data the string n, and with data an object of one member, with the
-- name n and the data
abbrev pub external_tree : Name → Option Tree → Tree
external_tree n None = str n
external_tree n (Some u) = members (member n u no_members)

-- t is the tree of the variant of the name n, with the data o or without data
abbrev pub IsExternal : Tree → Name → Option Tree → Type 0
IsExternal t n o = t ≡ external_tree n o

-- the name and the data of the variant whose tree this is, if it is the tree of a variant
abbrev pub external_variant : Tree → Option (Name × Option Tree)
external_variant (str n) = Some (n, None)
external_variant (members (member n u no_members)) = Some (n, Some u)
external_variant _ = None

-- Worked cases: `{"Text":null}` is the variant `Text` with the data `null`, and `{}` is no variant.
pub one_member : external_variant (members (member (codes "Text") null no_members)) ≡ Some (codes "Text", Some null)
one_member = refl

pub no_member : external_variant (members no_members) ≡ None
no_member = refl
