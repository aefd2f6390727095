-- The items are read by the round trip of their type (`round_trips-list`). `with_items` makes a `Vec` of the items
-- that were read, of which there are as many as before.
use Rattle.std.proofs.Common.{sym, ◌∙◌}
use Rattle.std.specs.Vec.{with_items}
use Rattle.std.proofs.lemmas.List.{with_items_is}
use Rattle.miniserde_laws.proofs.RoundTrips.{round_trips-list}
use Rattle.miniserde_laws.proofs.round_trip.VecRoundTrip.round_trips.Goals as goal

pub returns : goal.returns
returns g c = λ v r. round_trips-list g.T.Ranged.valid g.T.Serialize.tree g.T.FromJson.means.reads
    c.round_trips.ensures (λ v. v.items) with_items (λ v ws e. with_items_is v ws (e ∙ sym v.ok.0)) v r
