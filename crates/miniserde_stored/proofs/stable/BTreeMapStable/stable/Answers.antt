-- Each key has one name, so the last member of a key is the last one in normal form too (`stable-map`).
use Rattle.miniserde_stored.proofs.Maps.{stable-map}
use Rattle.miniserde_stored.proofs.stable.BTreeMapStable.stable.Goals as goal

pub returns : goal.returns
returns g c = let k = g.K.MapKey in stable-map k.read k.code g.V.FromJson.means.from_tree c.stable.ensures g.met.K.ExactKey.one_name
