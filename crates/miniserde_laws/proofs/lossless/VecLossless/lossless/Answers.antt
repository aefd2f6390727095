-- Vectors with one tree have items with the same trees, and so with the same contents (`one_list`).
use Rattle.miniserde_laws.proofs.LosslessLists.{one_list}
use Rattle.miniserde_laws.proofs.lossless.VecLossless.lossless.Goals as goal

pub returns : goal.returns
returns g c = λ v w p q e. one_list g.T.Ranged.valid g.T.Serialize.tree g.T.FromJson.means.content c.lossless.ensures v.items w.items p q e
