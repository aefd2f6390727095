-- The meanings of the places of documents and numbers, and what an event does to such a place. The first flag of
-- `outcome` and of `after_step_once` says whether a duplicate name gives nothing; the second flag says whether a value
-- is due.
use Rattle.std.specs.Prelude.{◌≡◌, Bool, true, false, [], Option, Some, None, Result, Err, OnOk, refl}
use Rattle.miniserde_model.specs.Tree.{Tree}
use Rattle.miniserde_model.specs.Step.{Step}
use Rattle.miniserde_model.specs.Position.{Position, start, complete}
use Rattle.miniserde_read.specs.Events.{on_leaf}
use Rattle.miniserde_model.specs.declared.error.Error.{Error}
use Rattle.miniserde_model.specs.declared.error.Error.TheVariants.{Invalid}
use Rattle.miniserde_place.specs.Place.{PlaceView, PlaceMeaning, place_meaning, first_refusal}
use Rattle.miniserde_value.specs.declared.json.value.Value.{Value}
use Rattle.miniserde_de.specs.declared.documents.value_place.ValuePlace.{ValuePlace}
use Rattle.miniserde_value.specs.declared.json.unique.Unique.{Unique}
use Rattle.miniserde_de.specs.declared.documents.unique_place.UniquePlace.{UniquePlace}
use Rattle.miniserde_de.specs.declared.documents.document_types.DocumentTypePlace.{DocumentTypePlace}
use Rattle.miniserde_value.specs.Hole.{Hole, outside, depth, after_step, after_step_once, outcome, repeats}
use Rattle.miniserde_value.specs.Builders.{hole_in}
use Rattle.miniserde_place.specs.Leaf.{from_one_event, leaf_at, leaf_view}
use Rattle.miniserde_place.specs.LeafPlace.{value_of, refusal_of as leaf_refusal}
use Rattle.miniserde_place.specs.laws.Leaf.{one-event}
use Rattle.miniserde_value.specs.declared.json.number.Number.{Number}
use Rattle.miniserde_de.specs.declared.documents.number_place.NumberPlace.{NumberPlace}
use Rattle.miniserde_value.specs.Numbers.{number_leaf, if_number}
use Rattle.miniserde_value.specs.Meanings.{value_meaning, unique_meaning, number_meaning}
use Rattle.miniserde_de.specs.DocumentMeanings.{DocumentMeaning, document_outcome}
use Rattle.miniserde_value.specs.laws.Unique.{once-whole}
use Rattle.miniserde_value.specs.laws.Outcomes.{outcome-whole}

-- the hole that the place has so far
abbrev pub hole_at : ValuePlace → Hole
hole_at p = hole_in p.builder

-- whether a value is due in the place
abbrev pub due_in : ValuePlace → Bool
due_in p = p.due

-- the first error of the place, if there was one
abbrev pub refusal_of : ValuePlace → Option Error
refusal_of p = p.refused

-- the view of the place of a `Value`: its outcome is what the events to come make of its hole
abbrev pub value_view : ValuePlace → PlaceView Tree
value_view p = record { at = (depth (hole_at p), due_in p); outcome = outcome false (due_in p) (hole_at p); refused = refusal_of p }

-- the meaning of the place of a `Value`: every tree means the values whose content is the retained tree
abbrev pub value_place_meaning : PlaceMeaning ValuePlace Value
value_place_meaning = place_meaning value_meaning (outcome false true (outside [])) outcome-whole value_view

-- the result of a call that hands an event to a place
abbrev pub Answer : Type 0
Answer = Result (Unit {0}) Error

-- the position of the place: how many containers are open, and whether a value is due
abbrev pub place_at : ValuePlace → Position
place_at p = (depth (hole_at p), due_in p)

-- A call hands the event e to the place of a `Value`. If it succeeds, the new hole is the one after
-- e. If it returns `Invalid` and the place had no error before, e does not fit the old hole. If e
-- does not fit the old hole, the call returns `Invalid`, or the earlier error of the place.
abbrev pub ValueTakes : ValuePlace → Step → Result (Unit {0}) Error → ValuePlace → Type 0
ValueTakes old e answer new =
    OnOk answer (after_step (due_in old) (hole_at old) e ≡ Some (due_in new, hole_at new))
    × (answer ≡ Err Invalid → refusal_of old ≡ None → after_step (due_in old) (hole_at old) e ≡ None)
    × (after_step (due_in old) (hole_at old) e ≡ None → answer ≡ Err (first_refusal (refusal_of old) Invalid))

-- A call hands the event e to the place of a `Unique`. If e is a duplicate name, the call returns
-- `Invalid`, or the earlier error of the place. If it succeeds, the new hole is the one after e. If
-- it returns `Invalid` and the place had no error before, e is a duplicate name or does not fit the
-- old hole. If e does not fit the old hole, the call returns `Invalid`, or the earlier error of the
-- place.
abbrev pub UniqueTakes : UniquePlace → Step → Result (Unit {0}) Error → UniquePlace → Type 0
UniqueTakes old e answer new =
    (repeats e (hole_at old.place) ≡ true → answer ≡ Err (first_refusal (refusal_of old.place) Invalid))
    × OnOk answer (after_step_once true (due_in old.place) (hole_at old.place) e ≡ Some (due_in new.place, hole_at new.place))
    × (answer ≡ Err Invalid → refusal_of old.place ≡ None → after_step_once true (due_in old.place) (hole_at old.place) e ≡ None)
    × (after_step (due_in old.place) (hole_at old.place) e ≡ None → answer ≡ Err (first_refusal (refusal_of old.place) Invalid))

-- A call hands the event e to a place, which is `old` before it and `new` after it, and builds documents of the meaning
-- k. An event for which `begins` holds does what it does in the place of a `Value`. The call returns `Invalid`, or the
-- earlier error of the place, if e is the first event and `begins` does not hold for it, if e does not fit the old hole,
-- and if the document is complete.
pub record DocumentTakes {V : Type 0} (k : DocumentMeaning V) (old : ValuePlace) (e : Step) (answer : Answer)
    (new : ValuePlace) : Type 0 where
  pub value : k.begins e ≡ true → ValueTakes old e answer new
  pub first : place_at old ≡ start → k.begins e ≡ false → answer ≡ Err (first_refusal (refusal_of old) Invalid)
  pub unfit : after_step (due_in old) (hole_at old) e ≡ None → answer ≡ Err (first_refusal (refusal_of old) Invalid)
  pub ended : place_at old ≡ complete → answer ≡ Err (first_refusal (refusal_of old) Invalid)

-- A call hands the event e to the place of a `Number`. It returns `Invalid`, or the earlier error of the place, if e is
-- no number, or if the place has its number already.
abbrev pub NumberTakes : NumberPlace → Step → Result (Unit {0}) Error → Type 0
NumberTakes old e answer =
    (on_leaf if_number e ≡ None → answer ≡ Err (first_refusal (leaf_refusal old.place) Invalid))
    × (leaf_at (value_of old.place) ≡ complete → answer ≡ Err (first_refusal (leaf_refusal old.place) Invalid))

-- the meaning of the place of a `Unique`: a tree without duplicate names means those whose content is the retained
-- tree
abbrev pub unique_place_meaning : PlaceMeaning UniquePlace Unique
unique_place_meaning = place_meaning unique_meaning (outcome true true (outside [])) once-whole
    (λ p. record {
      at = (depth (hole_at p.place), due_in p.place);
      outcome =
          outcome true (due_in p.place) (hole_at p.place);
      refused = refusal_of p.place;
    })

-- the view of the place of a type of documents: its outcome is what the events to come make of its hole
abbrev pub document_view : {K V : Type 0} (k : DocumentMeaning V) → DocumentTypePlace K → PlaceView k.by_trees.Content
document_view k p = record {
  at = place_at p.place;
  outcome = λ es. k.only (document_outcome k.begins (due_in p.place) (hole_at p.place) es);
  refused = refusal_of p.place;
}

-- the meaning of the place of a type of documents (`Array`, `Object` or `Document`), by the meaning k of that type; K
-- is the type's marker
abbrev pub document_place_meaning : {K V : Type 0} → DocumentMeaning V → PlaceMeaning (DocumentTypePlace K) V
document_place_meaning k = place_meaning k.by_trees (λ es. k.only (document_outcome k.begins true (outside []) es)) k.events_agree
    (document_view k)

-- the meaning of the place of a `Number`: the leaf of a number means that number
abbrev pub number_place_meaning : PlaceMeaning NumberPlace Number
number_place_meaning = place_meaning number_meaning (from_one_event if_number) (one-event if_number (λ ts. refl, λ ms. refl))
    (λ p. leaf_view number_leaf if_number (value_of p.place) (leaf_refusal p.place))
