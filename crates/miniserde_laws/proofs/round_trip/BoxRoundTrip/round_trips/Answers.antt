-- A box is written as its value, so the round trip of the value gives that of the box (`round_trips-inner`).
use Rattle.std.proofs.Common.{refl}
use Rattle.std.specs.Box.{with_value}
use Rattle.miniserde_laws.proofs.RoundTrips.{round_trips-inner}
use Rattle.miniserde_laws.proofs.round_trip.BoxRoundTrip.round_trips.Goals as goal

pub returns : goal.returns
returns g c = λ v r. round_trips-inner g.T.Ranged.valid g.T.Serialize.tree g.T.FromJson.means.reads (λ b. b.value)
    (with_value v) (λ x. refl) v (c.round_trips.ensures v.value r)
