-- Values as trees: the parts of a value, and its content.
use Rattle.std.specs.Prelude.{◌≡◌, List, [], Vec, String, string_bytes}
use Rattle.std.specs.BTreeMap.{BTreeMap}
use Rattle.std.specs.Map.{values_of}
use Rattle.std.specs.declared.alloc.Global.{Global}
use Rattle.miniserde_model.specs.Tree.{Tree, null, truth, str, list, members, Trees, Members}
use Rattle.miniserde_model.specs.Normal.{norm}
use Rattle.miniserde_ser.specs.Trees.{trees_of, members_of}
use Rattle.miniserde_value.specs.declared.json.value.Value.{Value, fold-Value, out-Value}
use Rattle.miniserde_value.specs.declared.json.value.Value.TheOpen.{Value-F, Array-F, Object-F}
use Rattle.miniserde_value.specs.declared.json.array.Array.{Array}
use Rattle.miniserde_value.specs.declared.json.object.Object.{Object}
use Rattle.miniserde_value.specs.Numbers.{number_leaf}
use Rattle.miniserde_value.specs.Retained.{retained_tree}

-- ---- the parts of a value

-- `Value-F`, `Array-F` and `Object-F` are one level of a `Value`, an `Array` and an `Object`. Their three arguments are
-- the types that stand inside instead of a `Value`, an `Array` and an `Object`.

-- the items of an array
abbrev pub array_items : Array → List Value
array_items a = a.items.items

-- the names and values of an object, in the order of the names
abbrev pub object_entries : Object → List (String Global × Value)
object_entries o = o.members.entries

-- the values of an object, in the order of their names
abbrev pub object_values : Object → List Value
object_values o = values_of (object_entries o)

-- the array with the items vs
abbrev pub with_items : Vec Value Global → Array
with_items vs = record { items = vs }

-- the object with the map m of its members
abbrev pub with_members : BTreeMap (String Global) Value → Object
with_members m = record { members = m }

-- the children of one level of a value: the items of an array or the values of an object; a leaf
-- has none
abbrev pub children_step : Value-F Value Array Object → List Value
children_step (Value-F.Array a) = array_items a
children_step (Value-F.Object o) = object_values o
children_step _ = []

-- the children of the value
abbrev pub children : Value → List Value
children v = children_step (out-Value v)

-- the value is bare: it is a leaf or an empty container
abbrev pub IsBare : Value → Type 0
IsBare v = children v ≡ []

-- ---- the tree of a value

-- one step of `content_of`: the tree of one level of a value, whose parts are trees already
abbrev pub content_step : Value-F Tree Trees Members → Tree
content_step Value-F.Null = null
content_step (Value-F.Bool b) = truth b
content_step (Value-F.Number n) = number_leaf n
content_step (Value-F.String s) = str (string_bytes s)
content_step (Value-F.Array ts) = list ts
content_step (Value-F.Object ms) = members ms

-- one step of `content_of`: the children of a list, from one level of an array, whose items are trees
-- already
abbrev pub array_step : Array-F Tree Trees Members → Trees
array_step a = trees_of (λ t. t) a.items.items

-- one step of `content_of`: the members, from one level of an object, whose values are trees already
abbrev pub object_step : Object-F Tree Trees Members → Members
object_step o = members_of string_bytes (λ t. t) o.members.entries

-- the content of the value, as a tree: the leaf of each number, and the parts of each container in order; `fold-Value`
-- applies the three steps from the innermost levels outwards
unfoldable pub content_of : Value → Tree
content_of = fold-Value Tree Trees Members content_step array_step object_step

-- the content of the array, as a tree
abbrev pub array_content : Array → Tree
array_content a = list (trees_of content_of (array_items a))

-- the names of the object, each with the content of its value, in the order of the names
abbrev pub object_members : Object → Members
object_members o = members_of string_bytes content_of (object_entries o)

-- the content of the object, as a tree
abbrev pub object_content : Object → Tree
object_content o = members (object_members o)

-- the tree that a value is written as: the normal form of its content
abbrev pub tree_of : Value → Tree
tree_of v = norm (content_of v)

-- the tree t means the value v: the content of v is the part of t that a `Value` retains
abbrev pub ReadsValue : Tree → Value → Type 0
ReadsValue t v = content_of v ≡ retained_tree t
