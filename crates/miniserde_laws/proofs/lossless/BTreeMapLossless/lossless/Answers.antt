-- Sorted maps with one tree have the same members, and so the same entry at each code (`one_sorted`). The code tells
-- the content of a key, since the key is injective.
use Rattle.std.proofs.Common.{sym, ◌∙◌}
use Rattle.miniserde_laws.proofs.LosslessMaps.{one_sorted}
use Rattle.miniserde_laws.proofs.lossless.BTreeMapLossless.lossless.Goals as goal

pub returns : goal.returns
returns g c = λ v w p q e.
    let k = g.K.MapKey in
    let laws = g.met.K.MapKey in
    one_sorted k.read k.code k.content k.text g.V.Serialize.tree g.V.FromJson.means.content g.K.Ranged.valid
    g.V.Ranged.valid laws.back g.met.K.InjectiveKey.injective c.lossless.ensures g.K.Ord.cmp
    (λ a b. sym (g.met.K.Ord.matches_eq a b) ∙ laws.alike a b) v.entries w.entries p q e
