-- The place of a `Vec` means what the type does, by `list_agree` from the law of the items.
use Rattle.miniserde_places.specs.Tied.{type_meaning}
use Rattle.miniserde_de.proofs.Agrees.{list_agree}
use Rattle.miniserde_de.proofs.de.impls.containers.VecDeserialize.tied.Goals as goal

pub returns : goal.returns
returns g c = list_agree (type_meaning g.T.Place.Visitor.meaning) g.T.FromJson.means (λ v. v.items) c.tied.ensures
