-- The items are read by the round trip of their type (`round_trips-list`). `deque_with_items` makes a queue of the
-- items that were read, of which there are as many as before.
use Rattle.std.proofs.Common.{◌≡◌, length, sym, ◌∙◌, arith}
use Rattle.std.specs.VecDeque.{deque_with_items}
use Rattle.std.proofs.lemmas.List.{take-append-le, take_all}
use Rattle.miniserde_laws.proofs.RoundTrips.{round_trips-list}
use Rattle.miniserde_laws.proofs.round_trip.VecDequeRoundTrip.round_trips.Goals as goal

pub returns : goal.returns
returns g c =
    λ q r. round_trips-list g.T.Ranged.valid g.T.Serialize.tree g.T.FromJson.means.reads c.round_trips.ensures
    (λ q. q.items) deque_with_items
    (λ q ws e. let len : q.len ≡ length ws = q.ok.0 ∙ sym e in take-append-le q.len ws _ (omega arith)
    ∙ take_all q.len ws (omega arith)) q r
