-- An array is read as N items, each by the round trip of its type (`round_trips-array`).
use Rattle.miniserde_laws.proofs.RoundTrips.{round_trips-array}
use Rattle.miniserde_laws.proofs.round_trip.ArrayRoundTrip.round_trips.Goals as goal

pub returns : goal.returns
returns g c = λ v r. round_trips-array g.T.Ranged.valid g.T.Serialize.tree g.T.FromJson.means.reads c.round_trips.ensures g.row.N v r
