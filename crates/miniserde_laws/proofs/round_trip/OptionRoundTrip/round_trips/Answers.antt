-- `None` is written as null, and `Some` as its value, which is read by the round trip of its type
-- (`round_trips-option`).
use Rattle.miniserde_laws.proofs.RoundTrips.{round_trips-option}
use Rattle.miniserde_laws.proofs.round_trip.OptionRoundTrip.round_trips.Goals as goal

pub returns : goal.returns
returns g c = λ v r. round_trips-option g.T.Ranged.valid g.T.Serialize.tree g.T.FromJson.means.reads c.round_trips.ensures v r
