-- The place of a `HashMap` means what the type does, by `map_agree` from the law of the values.
use Rattle.miniserde_places.specs.Tied.{type_meaning}
use Rattle.miniserde_read.specs.types.Maps.{key_meaning}
use Rattle.miniserde_de.proofs.Agrees.{map_agree}
use Rattle.miniserde_de.proofs.de.impls.containers.HashMapDeserialize.tied.Goals as goal

pub returns : goal.returns
returns g c = map_agree (key_meaning g.K.MapKey.read g.K.MapKey.code g.K.MapKey.content) (type_meaning g.V.Place.Visitor.meaning)
    g.V.FromJson.means (λ v. v.entries) c.tied.ensures
