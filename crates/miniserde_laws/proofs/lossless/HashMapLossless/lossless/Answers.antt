-- Hashed maps with one tree have the same members in the order of names, and so the same entry at each code
-- (`one_hashed`). The code tells the content of a key, since the key is injective.
use Rattle.miniserde_laws.proofs.LosslessMaps.{one_hashed}
use Rattle.miniserde_laws.proofs.lossless.HashMapLossless.lossless.Goals as goal

pub returns : goal.returns
returns g c = λ v w p q e.
    let k = g.K.MapKey in
    let laws = g.met.K.MapKey in
    one_hashed k.read k.code k.content k.text g.V.Serialize.tree g.V.FromJson.means.content g.K.Ranged.valid
    g.V.Ranged.valid laws.back g.met.K.InjectiveKey.injective c.lossless.ensures g.K.PartialEq.eq laws.alike
    v.entries w.entries p q e
