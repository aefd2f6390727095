-- The place of a pair means what the type does, by `pair_agree` from the laws of both parts.
use Rattle.miniserde_places.specs.Tied.{type_meaning}
use Rattle.miniserde_de.proofs.Agrees.{pair_agree}
use Rattle.miniserde_de.proofs.de.impls.containers.Tuple2Deserialize.tied.Goals as goal

pub returns : goal.returns
returns g c = pair_agree (type_meaning g.A.Place.Visitor.meaning) g.A.FromJson.means
    (type_meaning g.B.Place.Visitor.meaning) g.B.FromJson.means (λ v. v.0) (λ v. v.1) c.tied.ensures
    c.tied-2.ensures
