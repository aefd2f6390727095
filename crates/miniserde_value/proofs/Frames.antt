-- If the innermost container gives an item, a member or its end, that is the first token that was left. Each lemma
-- rewrites the lists of open containers by the equations of the step (`GaveItem`, `GaveMember`, `Ended`).
use Rattle.std.proofs.Common.{◌≡◌, ℕ, List, [], ◌∷◌, reverse, sym, ap, ◌∙◌, subst}
use Rattle.std.specs.Prelude.{String, string_bytes}
use Rattle.std.specs.Slice.Iter.{iter_rest}
use Rattle.std.specs.declared.alloc.Global.{Global}
use Rattle.std.specs.declared.slice.Iter.{Iter}
use Rattle.miniserde_model.specs.Tokens.{element, array_end, name, object_end, tokens, child_tokens, member_tokens}
use Rattle.miniserde_ser.specs.Trees.{trees_of, members_of}
use Rattle.miniserde_value.specs.declared.json.value.Value.{Value}
use Rattle.miniserde_value.specs.declared.json.walk.frames.Frame.{Frame}
use Rattle.miniserde_value.specs.declared.json.walk.frames.Frame.TheVariants as frame
use Rattle.miniserde_value.specs.Values.{content_of}
use Rattle.miniserde_value.specs.Tokens.{IsOrdered, AreOrdered, AreOrderedMembers}
use Rattle.miniserde_value.specs.Walks.{stack_left, StackNamesRise}

-- ---- the innermost container gave a child

-- the entries of an object
abbrev pub Entries : Type 0
Entries = List (String Global × Value)

-- an array, whose iterator gave an item: the open containers before and after
pub record GaveItem (frames frames_after : List Frame) (it next : Iter Value) (item : Value) : Type 0 where
  pub others : List Frame
  pub before : reverse frames ≡ frame.Array it ∷ others
  pub after : reverse frames_after ≡ frame.Array next ∷ others
  pub gave : iter_rest it ≡ item ∷ iter_rest next

-- if the innermost array gives an item, `element` and the tokens of the item are the first ones that were left
pub item_left : {frames frames_after : List Frame} {it next : Iter Value} {item : Value} (objects : List Entries)
    → GaveItem frames frames_after it next item → stack_left (reverse frames) objects ≡ element ∷ tokens (content_of item)
    (stack_left (reverse frames_after) objects)
item_left {item = item} objects g =
    let rest = stack_left g.others objects in
    ap (λ (x : List Frame). stack_left x objects) g.before
    ∙ ap (λ (xs : List Value). child_tokens (trees_of content_of xs) (array_end ∷ rest)) g.gave
    ∙ ap (λ (x : List Frame). element ∷ tokens (content_of item) (stack_left x objects)) (sym g.after)

-- if the item that was given is ordered, and all that is left is, all that was left is ordered
pub item_ordered : {frames frames_after : List Frame} {it next : Iter Value} {item : Value} (objects : List Entries)
    → GaveItem frames frames_after it next item → IsOrdered (content_of item) → StackNamesRise (reverse frames_after) objects
    → StackNamesRise (reverse frames) objects
item_ordered objects g o p =
    let r = subst (λ (x : List Frame). StackNamesRise x objects) g.after p in
    let items = subst (λ (xs : List Value). AreOrdered (trees_of content_of xs)) (sym g.gave) (o, r.0) in
    subst (λ (x : List Frame). StackNamesRise x objects) (sym g.before) (items, r.1)

-- an object, whose iterator gave a member: the open containers and objects before and after
pub record GaveMember (frames frames_after : List Frame) (objects objects_after : List Entries) (text : List ℕ)
    (value : Value) : Type 0 where
  -- the members of the object that were left, before and after
  pub members : Entries
  pub members_after : Entries
  pub below : List Frame
  pub others : List Entries
  pub key : String Global
  pub is_object : reverse frames ≡ frame.Object ∷ below
  pub is_still : reverse frames_after ≡ frame.Object ∷ below
  pub before : reverse objects ≡ members ∷ others
  pub after : reverse objects_after ≡ members_after ∷ others
  pub gave : members ≡ (key, value) ∷ members_after
  pub named : text ≡ string_bytes key

-- if the innermost object gives a member, its name and the tokens of its value are the first ones that were left
pub member_left : {frames frames_after : List Frame} {objects objects_after : List Entries} {text : List ℕ} {value : Value}
    → GaveMember frames frames_after objects objects_after text value
    → stack_left (reverse frames) (reverse objects) ≡ name text ∷ tokens (content_of value)
    (stack_left (reverse frames_after) (reverse objects_after))
member_left {objects = objects} {objects_after = objects_after} {text = text} {value = value} g =
    let rest = stack_left g.below g.others in
    ap (λ (x : List Frame). stack_left x (reverse objects)) g.is_object
    ∙ ap (λ (x : List Entries). stack_left (frame.Object ∷ g.below) x) g.before
    ∙ ap (λ (xs : Entries). member_tokens (members_of string_bytes content_of xs) (object_end ∷ rest)) g.gave
    ∙ ap (λ (t : List ℕ). name t ∷ tokens (content_of value) (stack_left (frame.Object ∷ g.below) (g.members_after ∷ g.others)))
    (sym g.named)
    ∙ ap (λ (x : List Entries). name text ∷ tokens (content_of value) (stack_left (frame.Object ∷ g.below) x)) (sym g.after)
    ∙ ap (λ (x : List Frame). name text ∷ tokens (content_of value) (stack_left x (reverse objects_after))) (sym g.is_still)

-- if the value of the member that was given is ordered, and all that is left is, all that was left is ordered
pub member_ordered : {frames frames_after : List Frame} {objects objects_after : List Entries} {text : List ℕ} {value : Value}
    → GaveMember frames frames_after objects objects_after text value → IsOrdered (content_of value)
    → StackNamesRise (reverse frames_after) (reverse objects_after) → StackNamesRise (reverse frames) (reverse objects)
member_ordered {objects = objects} {objects_after = objects_after} g o p =
    let r = subst (λ (x : List Entries). StackNamesRise (frame.Object ∷ g.below) x) g.after
    (subst (λ (x : List Frame). StackNamesRise x (reverse objects_after)) g.is_still p) in
    let members = subst (λ (xs : Entries). AreOrderedMembers (members_of string_bytes content_of xs)) (sym g.gave) (o, r.0) in
    subst (λ (x : List Frame). StackNamesRise x (reverse objects)) (sym g.is_object)
    (subst (λ (x : List Entries). StackNamesRise (frame.Object ∷ g.below) x) (sym g.before) (members, r.1))

-- an object that has no member left ends
pub record Ended (frames frames_after : List Frame) (objects objects_after : List Entries) : Type 0 where
  pub below : List Frame
  pub others : List Entries
  pub is_object : reverse frames ≡ frame.Object ∷ below
  pub popped : reverse frames_after ≡ below
  pub before : reverse objects ≡ [] ∷ others
  pub after : reverse objects_after ≡ others

-- if the innermost object ends, its end is the first token that was left
pub ended_left : (frames frames_after : List Frame) (objects objects_after : List Entries)
    → Ended frames frames_after objects objects_after
    → stack_left (reverse frames) (reverse objects) ≡ object_end ∷ stack_left (reverse frames_after) (reverse objects_after)
ended_left frames frames_after objects objects_after g =
    ap (λ (x : List Frame). stack_left x (reverse objects)) g.is_object
    ∙ ap (λ (x : List Entries). stack_left (frame.Object ∷ g.below) x) g.before
    ∙ ap (λ (x : List Frame). object_end ∷ stack_left x g.others) (sym g.popped)
    ∙ ap (λ (x : List Entries). object_end ∷ stack_left (reverse frames_after) x) (sym g.after)

-- when an object ends: if the names in what is left after its end rise, they rise in what was left before
pub ended_ordered : (frames frames_after : List Frame) (objects objects_after : List Entries)
    → Ended frames frames_after objects objects_after
    → StackNamesRise (reverse frames_after) (reverse objects_after) → StackNamesRise (reverse frames) (reverse objects)
ended_ordered frames frames_after objects objects_after g p =
    let r = subst (λ (x : List Frame). StackNamesRise x g.others) g.popped
    (subst (λ (x : List Entries). StackNamesRise (reverse frames_after) x) g.after p) in
    subst (λ (x : List Frame). StackNamesRise x (reverse objects)) (sym g.is_object)
    (subst (λ (x : List Entries). StackNamesRise (frame.Object ∷ g.below) x) (sym g.before) (tt, r))
