-- The normal form of a list has the normal forms of its items, in their order (`stable-list`).
use Rattle.miniserde_stored.proofs.Types.{stable-list}
use Rattle.miniserde_stored.proofs.stable.VecDequeStable.stable.Goals as goal

pub returns : goal.returns
returns g c = stable-list g.T.FromJson.means.from_tree c.stable.ensures
