-- The newtype of the value that the tree means.
use Rattle.miniserde_laws.proofs.RoundTrips.{round_trips-inner}
use Rattle.miniserde_laws.proofs.newtypes.transparent_round_trips.Goals as goal

pub returns : goal.returns
returns g c = λ v r.
    let n = g.N.Transparent in
    round_trips-inner g.T.Ranged.valid g.T.Serialize.tree g.T.FromJson.means.reads
    n.inner n.wrapped n.unwraps v (c.round_trips.ensures (n.inner v) r)
