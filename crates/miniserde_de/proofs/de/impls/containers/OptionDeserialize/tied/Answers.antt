-- The place of an optional value means what the type does, by `option_agree` from the law of the value inside.
use Rattle.miniserde_places.specs.Tied.{type_meaning}
use Rattle.miniserde_de.proofs.Agrees.{option_agree}
use Rattle.miniserde_de.proofs.de.impls.containers.OptionDeserialize.tied.Goals as goal

pub returns : goal.returns
returns g c = option_agree (type_meaning g.T.Place.Visitor.meaning) g.T.FromJson.means c.tied.ensures
