-- The meaning of a struct's fields that are read from events, and of the struct's collector. The current field is the
-- one whose member is being read. A member whose name no field has is skipped, by a place at the end of the fields.
use Rattle.std.specs.Prelude.{◌≡◌, refl, Bool, true, false, List, Option, Some, None, option_map}
use Rattle.miniserde_model.specs.Tree.{Tree}
use Rattle.miniserde_model.specs.Step.{Step, element, key, events}
use Rattle.miniserde_place.specs.Place.{PlaceView, PlaceMeaning}
use Rattle.miniserde_place.specs.Container.{CollectorMeaning, view_through}
use Rattle.miniserde_read.specs.types.Objects.{Name}
use Rattle.miniserde_places.specs.Objects.{object_rules}
use Rattle.miniserde_places.specs.Tied.{type_meaning}
use Rattle.miniserde_places.specs.laws.Objects.{object-meant}
use Rattle.miniserde_record.specs.Fields.{MemberRule, field_member}
use Rattle.miniserde_record.specs.FieldsMeaning.{FieldsMeaning, no_fields, field_and, struct_meaning}
use Rattle.miniserde_record.specs.laws.Fields.{none-refused, field-refused, field-meant}

-- the meaning of a struct's fields that are read from events: F is the type of the fields so far,
-- with the current field's place, and V the type of the fields' values
pub record FieldPlacesMeaning (F V : Type 0) : Type 1 where
  -- the meaning of the fields by trees
  pub by_trees : FieldsMeaning V
  -- the state of the fields so far
  pub state : F → by_trees.State
  -- the state after one more member, if the member is no error, by the fields' names, the state before it, the member's
  -- name and the events of its value
  pub by_events : List Name → by_trees.State → Name → List Step → Option by_trees.State
  -- a member's events lead to the same state as its tree
  pub events_agree : (names : List Name) (s : by_trees.State) (k : Name) (t : Tree)
      → by_events names s k (events t) ≡ by_trees.next_state names s k t
  -- a member for whose name `by_trees.refuses` holds gives no state, whatever its events
  pub refuses_agrees : (names : List Name) (s : by_trees.State) (k : Name) → by_trees.refuses names s k ≡ true → (es : List Step)
      → by_events names s k es ≡ None
  -- the view of the current field's place, or of the place of a skipped member; its outcome is the state after that
  -- member
  pub child : F → PlaceView by_trees.State

-- the meaning of no field: a place skips each member, and `skipped` returns the view of that place
abbrev pub no_field_places : {F : Type 0} → (F → PlaceView (Unit {0})) → FieldPlacesMeaning F (Unit {0})
no_field_places skipped = record {
  by_trees = no_fields;
  state = λ _. tt;
  by_events = λ ns s k es. Some tt;
  events_agree = λ ns s k t. refl;
  refuses_agrees = λ ns s k h es. none-refused (Some tt) h;
  child = λ f. view_through (λ _. Some tt) (skipped f);
}

-- The view of the current place among a field and those after it, with their state for its outcome: v is the field's
-- content so far, and s the state of the later fields. If the field is current, the last argument is its place, `view`
-- gives its view, and its outcome replaces v. Else `later` is the view of the current place, whose outcome replaces s.
abbrev pub field_view : {P A S : Type 0} → (P → PlaceView A) → Option A → S → PlaceView S → Option P → PlaceView (Option A × S)
field_view view v s later None = view_through (λ r. Some (v, r)) later
field_view view v s later (Some p) = view_through (λ a. Some (Some a, s)) (view p)

-- what the events of a member do to a field, whose place has the meaning m, and to the later ones, with the meaning n
abbrev events_rule : {P T R V : Type 0} → Bool → (m : PlaceMeaning P T) (n : FieldPlacesMeaning R V)
    → MemberRule m.Content n.by_trees.State (List Step)
events_rule once m n = record { once = once; of = m.from_events; later = n.by_events }

-- a field of the type T, with places P, and the fields R after it, among fields F
pub record FieldParts (F T P R : Type 0) : Type 0 where
  -- the field's value so far, if it has one
  pub value : F → Option T
  -- the field's place, if it is the current field
  pub child : F → Option P
  -- the later fields
  pub rest : F → R

-- The meaning of a field and of the fields after it. `once` says whether a duplicate of its name fails, m is the
-- meaning of its place, and `absent` its value if it is missing, if it has one then. The later fields have the meaning n.
abbrev pub field_place_and : {P T F R V : Type 0} → Bool → PlaceMeaning P T → Option T → FieldParts F T P R
    → FieldPlacesMeaning R V → FieldPlacesMeaning F (T × V)
field_place_and once m absent parts n = record {
  by_trees = field_and once None (type_meaning m) absent n.by_trees;
  state = λ f. (option_map m.content (parts.value f), n.state (parts.rest f));
  by_events = field_member (events_rule once m n);
  events_agree = field-meant once m.from_events m.from_tree n.by_events n.by_trees.next_state m.events_agree n.events_agree;
  refuses_agrees = field-refused (events_rule once m n) n.by_trees.refuses n.refuses_agrees;
  child = λ f. field_view m.view (option_map m.content (parts.value f)) (n.state (parts.rest f)) (n.child (parts.rest f))
      (parts.child f);
}

-- the meaning of a wrapper around fields: `inner` returns the fields, and n is their meaning
abbrev pub wrapper_field_places : {F G V : Type 0} → (G → F) → FieldPlacesMeaning F V → FieldPlacesMeaning G V
wrapper_field_places inner n = record {
  by_trees = n.by_trees;
  state = λ g. n.state (inner g);
  by_events = n.by_events;
  events_agree = n.events_agree;
  refuses_agrees = n.refuses_agrees;
  child = λ g. n.child (inner g);
}

-- whether the event begins an element, which no object has, or a member for whose name `refuses` holds
abbrev pub refuses_member : (Name → Bool) → Step → Bool
refuses_member refuses (key k) = refuses k
refuses_member refuses element = true
refuses_member refuses _ = false

-- the meaning of a struct's collector, by the meaning n of its fields and by their names; `values`
-- returns the fields' values of a struct, and `fields` a collector's fields so far
abbrev pub struct_collector : {F V C W : Type 0} → FieldPlacesMeaning F V → List Name → (W → V) → (C → F) → CollectorMeaning C W
struct_collector n names values fields = record {
  by_trees = struct_meaning n.by_trees names values;
  State = n.by_trees.State;
  state = λ c. n.state (fields c);
  empty = n.by_trees.empty;
  is_object = true;
  rules = object_rules (n.by_events names) n.by_trees.end;
  events_agree = object-meant (n.by_events names) (n.by_trees.next_state names) n.by_trees.end (n.events_agree names)
      n.by_trees.empty (n.by_trees.from_members names n.by_trees.empty) (n.by_trees.members_agree names n.by_trees.empty);
  child = λ c. n.child (fields c);
  refuses = λ s e. refuses_member (n.by_trees.refuses names s) e;
}
