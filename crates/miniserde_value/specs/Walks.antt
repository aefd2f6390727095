-- The tokens that a walk has left, and the order of names in them.
use Rattle.std.specs.Prelude.{List, [], ◌∷◌, reverse, Option, Some, None, String, string_bytes, ⊤}
use Rattle.std.specs.Borrow.{Bor}
use Rattle.std.specs.Slice.Iter.{iter_rest}
use Rattle.std.specs.declared.alloc.Global.{Global}
use Rattle.std.specs.declared.slice.Iter.{Iter}
use Rattle.miniserde_model.specs.Tree.{null, truth, str}
use Rattle.miniserde_model.specs.Tokens.{Token, leaf, array, element, array_end, object, name, object_end, tokens}
use Rattle.miniserde_model.specs.Tokens.{child_tokens, member_tokens}
use Rattle.miniserde_ser.specs.Trees.{trees_of, members_of}
use Rattle.miniserde_value.specs.declared.json.value.Value.{Value}
use Rattle.miniserde_value.specs.declared.json.walk.Visit.{Visit}
use Rattle.miniserde_value.specs.declared.json.walk.Visit.TheVariants as visit
use Rattle.miniserde_value.specs.declared.json.walk.frames.Frame.{Frame}
use Rattle.miniserde_value.specs.declared.json.walk.frames.Frame.TheVariants as frame
use Rattle.miniserde_value.specs.declared.json.walk.frames.Frames.{Frames}
use Rattle.miniserde_value.specs.declared.json.walk.frames.Part.{Part}
use Rattle.miniserde_value.specs.declared.json.walk.frames.Part.TheVariants as part
use Rattle.miniserde_value.specs.declared.json.walk.Walk.{Walk}
use Rattle.miniserde_value.specs.Numbers.{number_leaf}
use Rattle.miniserde_value.specs.Values.{content_of}
use Rattle.miniserde_value.specs.Tokens.{IsOrdered, AreOrdered, AreOrderedMembers}

-- the token for a `Visit` of Rust: a number or a text that it borrows becomes a leaf or a name
abbrev pub token_of : Visit → Token
token_of visit.Null = leaf null
token_of (visit.Bool b) = leaf (truth b)
token_of (visit.Number n) = leaf (number_leaf n.now)
token_of (visit.String s) = leaf (str s.now)
token_of visit.Array = array
token_of visit.Element = element
token_of visit.ArrayEnd = array_end
token_of visit.Object = object
token_of (visit.Name n) = name n.now
token_of visit.ObjectEnd = object_end

-- the tokens of the items that an open array has left, the token of its end, and then those in `rest`
abbrev pub items_left : Iter Value → List Token → List Token
items_left it rest = child_tokens (trees_of content_of (iter_rest it)) (array_end ∷ rest)

-- the tokens of the members that an open object has left, the token of its end, and then those in `rest`
abbrev pub members_left : List (String Global × Value) → List Token → List Token
members_left ms rest = member_tokens (members_of string_bytes content_of ms) (object_end ∷ rest)

-- the tokens that the open containers have left, innermost first; each open object takes its members from the list
-- `objects`, which has them in the same order; nothing is left from an object on for which the list has no members
abbrev pub stack_left : List Frame → List (List (String Global × Value)) → List Token
stack_left [] objects = []
stack_left (frame.Array a ∷ frames) objects = items_left a (stack_left frames objects)
stack_left (frame.Object ∷ frames) [] = []
stack_left (frame.Object ∷ frames) (o ∷ objects) = members_left o (stack_left frames objects)

-- the tokens that the open containers of the walk have left
abbrev pub frames_left : Frames → List Token
frames_left f = stack_left (reverse f.open.items) (reverse f.objects.items)

-- the tokens of a part of a container, and then those in `rest`
abbrev pub part_left : Part → List Token → List Token
part_left (part.Element v) rest = element ∷ tokens (content_of v.now) rest
part_left part.ArrayEnd rest = array_end ∷ rest
part_left (part.Member n v) rest = name n.now ∷ tokens (content_of v.now) rest
part_left part.ObjectEnd rest = object_end ∷ rest

-- the tokens of the child that is due, if one is, and then those in `rest`
abbrev pub due_left : Option (Bor Value) → List Token → List Token
due_left None rest = rest
due_left (Some v) rest = tokens (content_of v.now) rest

-- the tokens that a walk has left
abbrev pub left : Walk → List Token
left w = due_left w.due (frames_left w.frames)

-- ---- the order of names in what is left

-- in the items that an open array has left, the names of each object strictly rise
abbrev pub ItemsNamesRise : Iter Value → Type 0
ItemsNamesRise it = AreOrdered (trees_of content_of (iter_rest it))

-- in the values of the members that an open object has left, the names of each object strictly rise
abbrev pub ValuesNamesRise : List (String Global × Value) → Type 0
ValuesNamesRise ms = AreOrderedMembers (members_of string_bytes content_of ms)

-- in what the open containers have left, the names of each object strictly rise; `objects` has the members that the
-- open objects have left, and nothing is said from an object on for which it has none
abbrev pub StackNamesRise : List Frame → List (List (String Global × Value)) → Type 0
StackNamesRise [] objects = ⊤
StackNamesRise (frame.Array a ∷ frames) objects = ItemsNamesRise a × StackNamesRise frames objects
StackNamesRise (frame.Object ∷ frames) [] = ⊤
StackNamesRise (frame.Object ∷ frames) (o ∷ objects) = ValuesNamesRise o × StackNamesRise frames objects

-- in each child that the open containers of the walk have left, the names of each object strictly rise; of the names
-- that the open objects themselves have left it says nothing
abbrev pub NestedNamesRise : Frames → Type 0
NestedNamesRise f = StackNamesRise (reverse f.open.items) (reverse f.objects.items)

-- in the child of a part, if it has one, the names of each object strictly rise
abbrev pub PartNamesRise : Part → Type 0
PartNamesRise (part.Element v) = IsOrdered (content_of v.now)
PartNamesRise part.ArrayEnd = ⊤
PartNamesRise (part.Member n v) = IsOrdered (content_of v.now)
PartNamesRise part.ObjectEnd = ⊤

-- in the child that is due, the names of each object strictly rise
abbrev pub DueNamesRise : Option (Bor Value) → Type 0
DueNamesRise None = ⊤
DueNamesRise (Some v) = IsOrdered (content_of v.now)

-- in the child that is due and in each child that the open containers have left, the names of each object strictly
-- rise; of the names that the open objects themselves have left it says nothing
abbrev pub NamesToComeRise : Walk → Type 0
NamesToComeRise w = DueNamesRise w.due × NestedNamesRise w.frames
