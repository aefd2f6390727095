-- What a contract sees of the place that counts.
use Rattle.std.specs.Prelude.{ℕ, ◌+◌, Bool, true, false, List, Option, Some}
use Rattle.miniserde.specs.Step.{Step}
use Rattle.miniserde.specs.Position.{Position, start}
use Rattle.miniserde.specs.Place.{PlaceView}
use Rattle.examples.specs.declared.counter.Counter.{Counter}
use Rattle.examples.specs.Elements.{more, counted}

-- how many containers are open, and whether a value is due
abbrev pub position_by : Bool → Position → Position
position_by true p = p
position_by false p = start

-- what the events that are still to come give
abbrev pub outcome_by : Bool → ℕ → ℕ → List Step → Option ℕ
outcome_by true count depth es = Some (count + more depth es)
outcome_by false count depth es = counted es

-- what the place shows
abbrev pub counter_view : Counter → PlaceView ℕ
counter_view c = record { at = position_by c.begun (c.depth, c.due); outcome = outcome_by c.begun c.count c.depth; refused = c.refused }
