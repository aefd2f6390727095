-- The normal form of a list has the normal forms of its items, as many as before (`stable-array`).
use Rattle.miniserde_stored.proofs.Types.{stable-array}
use Rattle.miniserde_stored.proofs.stable.ArrayStable.stable.Goals as goal

pub returns : goal.returns
returns g c = stable-array g.T.FromJson.means.from_tree c.stable.ensures g.row.N
