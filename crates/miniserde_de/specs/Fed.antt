-- The view of a place that took all events of one value.
use Rattle.miniserde_model.specs.Tree.{Tree}
use Rattle.miniserde_model.specs.Step.{events}
use Rattle.miniserde_place.specs.Place.{PlaceMeaning, PlaceView, IsFresh, AdvancesBy}

-- p is the view of a place that was fresh, by its meaning m, and then advanced by the events of the tree t
abbrev pub IsFed : {P V : Type 0} (m : PlaceMeaning P V) → Tree → PlaceView m.Content → Type 0
IsFed m t p = (fresh : PlaceView m.Content) × IsFresh m.from_events fresh × AdvancesBy fresh (events t) p
