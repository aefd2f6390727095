-- The meanings of the places of std's types, by the meanings of their parts' places. A part is an
-- item of a list or an array, one of the two values of a pair, a value of a map, or the value
-- inside an option or a box. P is the place of a part, V the type of the part, C the collector, and
-- W the whole. `child_view` and `view_through` make of the view of a child's place one whose
-- outcome is the state after that child.
use Rattle.std.specs.Prelude.{◌≡◌, ℕ, false, true, List, [], ◌∷◌, ◌++◌, map, length, nat_le, ◌&&◌, ◌||◌, is_some}
use Rattle.std.specs.Prelude.{Option, Some, None, option_map, Result, Err, ⊤}
use Rattle.miniserde_model.specs.Step.{Step}
use Rattle.miniserde_model.specs.declared.error.Error.{Error}
use Rattle.miniserde_model.specs.declared.error.Error.TheVariants.{Invalid}
use Rattle.miniserde_model.specs.Position.{start, complete}
use Rattle.miniserde_keys.specs.Keys.{Key}
use Rattle.miniserde_place.specs.Leaf.{nothing_more}
use Rattle.miniserde_place.specs.Place.{PlaceView, PlaceMeaning, place_meaning}
use Rattle.miniserde_place.specs.Container.{CollectorMeaning, no_child, view_through, child_view}
use Rattle.miniserde_places.specs.Tied.{type_meaning}
use Rattle.miniserde_places.specs.declared.options.OptionPlace.{OptionPlace}
use Rattle.miniserde_places.specs.declared.options.OptionState.{OptionState}
use Rattle.miniserde_places.specs.declared.options.OptionState.TheVariants.{Fresh, Null, Inner, Refused}
use Rattle.miniserde_places.specs.declared.pairs.Part.{Part}
use Rattle.miniserde_places.specs.declared.pairs.Part.TheVariants.{Neither, First, Second}
use Rattle.miniserde_places.specs.Lists.{list_rules, is_member}
use Rattle.miniserde_places.specs.laws.Lists.{list-meant}
use Rattle.miniserde_places.specs.Arrays.{array_rules}
use Rattle.miniserde_places.specs.laws.Arrays.{array-meant}
use Rattle.miniserde_places.specs.Pairs.{pair_rules}
use Rattle.miniserde_places.specs.laws.Pairs.{pair-meant}
use Rattle.miniserde_places.specs.Options.{option_mean}
use Rattle.miniserde_places.specs.laws.Options.{option-meant}
use Rattle.miniserde_places.specs.Objects.{object_rules, is_element}
use Rattle.miniserde_read.specs.Meanings.{list_meaning, array_meaning, pair_meaning, option_meaning, box_meaning, map_meaning}
use Rattle.miniserde_read.specs.types.Maps.{KeyMeaning, map_member, map_content, no_entries, with_entry}
use Rattle.miniserde_places.specs.laws.Maps.{map-meant}

-- the meaning of a list's collector, by the meaning m of an item's place: `items` returns the items
-- so far, `child` the current item's place, and `whole` the items of a complete list
abbrev pub list_collector : {P V C W : Type 0} → PlaceMeaning P V → (C → List V) → (C → Option P) → (W → List V) → CollectorMeaning C W
list_collector m items child whole = record {
  by_trees = list_meaning (type_meaning m) whole;
  State = List m.Content;
  state = λ c. map m.content (items c);
  empty = [];
  is_object = false;
  rules = list_rules m.from_events;
  events_agree = list-meant m.from_events m.from_tree m.events_agree;
  child = λ c. child_view (λ _ x. Some (map m.content (items c) ++ x ∷ [])) m.view (child c);
  refuses = λ _ e. is_member e;
}

-- The meaning of the collector of an array of n items, by the meaning m of an item's place: `items`
-- returns the items so far, `child` the current item's place, and `whole` the items of a complete
-- array. An item after the n-th fails, and so does a member.
abbrev pub array_collector : {P V C W : Type 0} → ℕ → PlaceMeaning P V → (C → List V) → (C → Option P) → (W → List V) → CollectorMeaning C W
array_collector n m items child whole = record {
  by_trees = array_meaning n (type_meaning m) whole;
  State = List m.Content;
  state = λ c. map m.content (items c);
  empty = [];
  is_object = false;
  rules = array_rules n m.from_events;
  events_agree = array-meant n m.from_events m.from_tree m.events_agree;
  child = λ c. child_view (λ _ x. Some (map m.content (items c) ++ x ∷ [])) m.view (child c);
  refuses = λ s e. is_member e || nat_le n (length s);
}

-- the view of the place of a pair's current part, or `no_child` if there is none; f and g return
-- the views of the first and the second part's place, and a and b are the contents of the parts so
-- far
abbrev pub part_view : {P Q A B : Type 0} → (P → PlaceView A) → (Q → PlaceView B) → Option A → Option B → Part P Q
    → PlaceView (Option A × Option B)
part_view f g a b Neither = no_child
part_view f g a b (First p) = view_through (λ x. Some (Some x, b)) (f p)
part_view f g a b (Second q) = view_through (λ y. Some (a, Some y)) (g q)

-- what a pair's collector C has: the parts of the types V and U, with places P and Q
pub record PairParts (C V U P Q : Type 0) : Type 0 where
  -- the parts so far
  pub first : C → Option V
  pub second : C → Option U
  -- the current part's place
  pub child : C → Part P Q

-- The meaning of a pair's collector, by the meanings m and n of its parts' places: `one` and `two` return the parts of a
-- complete pair. A third part fails, and so does a member.
abbrev pub pair_collector : {P Q V U C W : Type 0} → PlaceMeaning P V → PlaceMeaning Q U → PairParts C V U P Q
    → (W → V) → (W → U) → CollectorMeaning C W
pair_collector m n parts one two = record {
  by_trees = pair_meaning (type_meaning m) (type_meaning n) one two;
  State = Option m.Content × Option n.Content;
  state = λ c. (option_map m.content (parts.first c), option_map n.content (parts.second c));
  empty = (None, None);
  is_object = false;
  rules = pair_rules m.from_events n.from_events;
  events_agree = pair-meant m.from_events n.from_events m.from_tree n.from_tree m.events_agree n.events_agree;
  child = λ c. part_view m.view n.view (option_map m.content (parts.first c)) (option_map n.content (parts.second c))
      (parts.child c);
  refuses = λ s e. is_member e || (is_some s.0 && is_some s.1);
}

-- The meaning of a map's collector, by the meanings k of its keys and m of a value's place. `entries` returns the entries
-- so far, `child` the current value's key and place, and `whole` a complete map's entries.
abbrev pub map_collector : {K P V C W : Type 0} → KeyMeaning K → PlaceMeaning P V → (C → List (K × V))
    → (C → Option (K × P)) → (W → List (K × V)) → CollectorMeaning C W
map_collector k m entries child whole = record {
  by_trees = map_meaning k (type_meaning m) whole;
  State = Key → Option (Key × m.Content);
  state = λ c. map_content k.code k.content m.content (entries c);
  empty = no_entries;
  is_object = true;
  rules = object_rules (map_member k.read k.code m.from_events) (λ s. Some s);
  events_agree = map-meant k.read k.code m.from_events m.from_tree m.events_agree;
  child = λ c. child_view (λ q x. Some (with_entry k.code (map_content k.code k.content m.content (entries c)) (k.content q.0) x))
      (λ q. m.view q.1) (child c);
  refuses = λ _ e. is_element e;
}

-- The view of the place of an optional value by its state: f is the outcome of a fresh place of the
-- value inside, and `view` returns the view of that place. If an error came while there was no such
-- place, the position is `start`, and nothing has an outcome.
abbrev pub option_view : {P A : Type 0} → (List Step → Option A) → (P → PlaceView A) → OptionState P → PlaceView (Option A)
option_view f view (Fresh _) = record { at = start; outcome = option_mean f; refused = None }
option_view f view Null = record { at = complete; outcome = nothing_more None; refused = None }
option_view f view (Inner p) =
    record { at = (view p).at; outcome = λ es. option_map Some ((view p).outcome es); refused = (view p).refused }
option_view f view (Refused r) = record { at = start; outcome = λ _. None; refused = Some r }

-- A call hands the event e to the place of an optional value. If the place inside has begun, the event goes to it, and f
-- holds of that call; after `null`, the call fails with `Invalid`. Of a first event nothing is said.
abbrev pub OptionTakes : {P : Type 0} → (P → Step → Result (Unit {0}) Error → P → Type 0)
    → OptionState P → Step → Result (Unit {0}) Error → OptionState P → Type 0
OptionTakes {P} f (Inner p) e answer s = (q : P) × (s ≡ Inner q) × f p e answer q
OptionTakes f Null e answer s = answer ≡ Err Invalid
OptionTakes f _ e answer s = ⊤

-- the meaning of the place of an optional value, by the meaning m of the place of the value inside
abbrev pub option_place_meaning : {P V : Type 0} → PlaceMeaning P V → PlaceMeaning (OptionPlace P) (Option V)
option_place_meaning m = place_meaning (option_meaning (type_meaning m)) (option_mean m.from_events)
    (option-meant m.from_events m.from_tree m.events_agree) (λ p. option_view m.from_events m.view p.state)

-- the meaning of the place of a box, a place of the type Q: `place` returns the place of the value inside, which has the
-- meaning m, and `value` returns the value inside a box
abbrev pub box_place_meaning : {P Q V W : Type 0} → (Q → P) → (W → V) → PlaceMeaning P V → PlaceMeaning Q W
box_place_meaning place value m = place_meaning (box_meaning (type_meaning m) value) m.from_events m.events_agree (λ q. m.view (place q))
