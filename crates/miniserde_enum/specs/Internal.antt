-- Internally tagged enums: in `{"kind":"Move","x":1}` the member `kind` is the tag, and the others are the data.
use Rattle.std.specs.Prelude.{◌≡◌, false, Option, Some, None, option_map, option_and_then, codes, refl}
use Rattle.miniserde_model.specs.Tree.{Tree, null, str, members, Members, no_members, member}
use Rattle.miniserde_read.specs.types.Objects.{Name}
use Rattle.miniserde_read.specs.types.Words.{string_of}
use Rattle.miniserde_record.specs.Fields.{other_members, last_content, LastMemberReads}

-- by the tag's name, the tree is the variant of the name n with the data o: it is an object of which
-- each member of the tag's name is a string and the last one is n, and the data are the object of
-- its other members; no tree is a variant without data
abbrev pub IsInternal : Name → Tree → Name → Option Tree → Type 0
IsInternal tag (members ms) n (Some u) = LastMemberReads ⊥ (λ t. t ≡ str n) string_of tag ms × (u ≡ members (other_members tag ms))
IsInternal tag t n o = ⊥

-- the text of the last member of the tag's name, if there is one and each member of that name is a string
abbrev pub tag_of : Name → Members → Option Name
tag_of tag ms = option_and_then (λ o. o) (last_content false string_of tag None ms)

-- the name and the data of the variant that the tree is, if it is an object with the tag: the tag's
-- text, and the object of the members that do not have the tag's name
abbrev pub internal_variant : Name → Tree → Option (Name × Option Tree)
internal_variant tag (members ms) = option_map (λ n. (n, Some (members (other_members tag ms)))) (tag_of tag ms)
internal_variant tag _ = None

-- the members of an object; any other tree has none
abbrev pub object_members : Tree → Members
object_members (members ms) = ms
object_members _ = no_members

-- the object whose first member is the tag, with the string n, and whose others are the members of the data; null if
-- there are no data
abbrev pub internal_tree : Name → Name → Option Tree → Tree
internal_tree tag n None = null
internal_tree tag n (Some u) = members (member tag (str n) (object_members u))

-- Worked cases: `{"kind":"Ping"}` is the variant `Ping` by the tag `kind`, and `{}` has no tag.
pub tag_is_name : internal_variant (codes "kind") (members (member (codes "kind") (str (codes "Ping")) no_members))
    ≡ Some (codes "Ping", Some (members no_members))
tag_is_name = refl

pub no_tag : internal_variant (codes "kind") (members no_members) ≡ None
no_tag = refl
