-- The place of a box means what the type does, by `box_agree` from the law of the value inside.
use Rattle.miniserde_places.specs.Tied.{type_meaning}
use Rattle.miniserde_de.proofs.Agrees.{box_agree}
use Rattle.miniserde_de.proofs.de.impls.containers.BoxDeserialize.tied.Goals as goal

pub returns : goal.returns
returns g c = box_agree (type_meaning g.T.Place.Visitor.meaning) g.T.FromJson.means (λ b. b.value) c.tied.ensures
