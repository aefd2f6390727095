-- A pair is read as two parts, each by the round trip of its type (`round_trips-pair`).
use Rattle.miniserde_laws.proofs.RoundTrips.{round_trips-pair}
use Rattle.miniserde_laws.proofs.round_trip.Tuple2RoundTrip.round_trips.Goals as goal

pub returns : goal.returns
returns g c = λ v r. round_trips-pair g.A.Ranged.valid g.B.Ranged.valid g.A.Serialize.tree g.B.Serialize.tree
    g.A.FromJson.means.reads g.B.FromJson.means.reads v (c.round_trips.ensures v.0 r.0)
    (c.round_trips-2.ensures v.1 r.1)
