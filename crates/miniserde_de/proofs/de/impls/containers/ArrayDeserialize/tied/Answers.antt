-- The place of an array means what the type does, by `array_agree` from the law of the items.
use Rattle.miniserde_places.specs.Tied.{type_meaning}
use Rattle.miniserde_de.proofs.Agrees.{array_agree}
use Rattle.miniserde_de.proofs.de.impls.containers.ArrayDeserialize.tied.Goals as goal

pub returns : goal.returns
returns g c = array_agree g.row.N (type_meaning g.T.Place.Visitor.meaning) g.T.FromJson.means (λ v. v) c.tied.ensures
