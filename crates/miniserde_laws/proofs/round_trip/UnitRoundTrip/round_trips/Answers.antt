-- The tree null means exactly the unit, whose tree it is (`leaf-round_trips`).
use Rattle.miniserde_model.specs.Tree.{null}
use Rattle.miniserde_laws.specs.laws.Scalars.{leaf-round_trips}
use Rattle.miniserde_laws.proofs.round_trip.UnitRoundTrip.round_trips.Goals as goal

pub returns : goal.returns
returns c = λ v r. leaf-round_trips (λ _. null) v
