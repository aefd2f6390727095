-- The kinds of JSON values, and sets of kinds (RFC 8259, section 3).
use Rattle.std.specs.Prelude.{◌≡◌, ◌||◌, ◌&&◌, not, Bool, true, false, Option, None, refl}
use Rattle.miniserde_model.specs.Tree.{Tree, truth, nonneg, neg, num, str, list, members}
use Rattle.miniserde_model.specs.Tree as tree
use Rattle.miniserde_text.specs.declared.json.lex.Event.{Event}
use Rattle.miniserde_text.specs.declared.json.lex.Event.TheVariants as event

-- a kind of JSON values; `true` and `false` are of one kind
pub data ValueKind : Type 0 where
  null : ValueKind
  boolean : ValueKind
  number : ValueKind
  string : ValueKind
  array : ValueKind
  object : ValueKind

-- the kind of a tree
abbrev pub tree_kind : Tree → ValueKind
tree_kind tree.null = null
tree_kind (truth b) = boolean
tree_kind (nonneg n) = number
tree_kind (neg z) = number
tree_kind (num x) = number
tree_kind (str s) = string
tree_kind (list ts) = array
tree_kind (members ms) = object

-- the kind of the values that begin with a token
abbrev pub token_kind : Event → ValueKind
token_kind event.Null = null
token_kind (event.Bool b) = boolean
token_kind (event.Negative z) = number
token_kind (event.Nonnegative n) = number
token_kind (event.Number x) = number
token_kind (event.Str t) = string
token_kind event.SeqStart = array
token_kind event.MapStart = object

-- ---- sets of kinds

-- a set of kinds: whether a kind is in it
abbrev pub Kinds : Type 0
Kinds = ValueKind → Bool

abbrev pub no_kinds : Kinds
no_kinds k = false

abbrev pub null_kind : Kinds
null_kind null = true
null_kind _ = false

abbrev pub boolean_kind : Kinds
boolean_kind boolean = true
boolean_kind _ = false

abbrev pub number_kind : Kinds
number_kind number = true
number_kind _ = false

abbrev pub string_kind : Kinds
string_kind string = true
string_kind _ = false

abbrev pub array_kind : Kinds
array_kind array = true
array_kind _ = false

abbrev pub object_kind : Kinds
object_kind object = true
object_kind _ = false

-- the kinds of two sets
abbrev pub either_kinds : Kinds → Kinds → Kinds
either_kinds a b k = a k || b k

-- whether the kind is not in both sets
abbrev pub apart_at : Kinds → Kinds → ValueKind → Bool
apart_at a b k = not (a k && b k)

-- whether no kind is in both sets
abbrev pub apart : Kinds → Kinds → Bool
apart a b =
    apart_at a b null && (apart_at a b boolean && (apart_at a b number
    && (apart_at a b string && (apart_at a b array && apart_at a b object))))

-- `of` returns no content for a tree of another kind
pub record OfKinds {C : Type 0} (kinds : Kinds) (of : Tree → Option C) : Type 0 where
  pub none : (t : Tree) → kinds (tree_kind t) ≡ false → of t ≡ None

-- Worked cases: strings and arrays have no kind in common, and a number is of the kind of an optional number.
pub strings_and_arrays : apart string_kind array_kind ≡ true
strings_and_arrays = refl

pub optional_numbers : apart number_kind (either_kinds null_kind number_kind) ≡ false
optional_numbers = refl
