-- The place of a leaf (`LeafPlace`) has the meaning of its type, and a meaning agrees with itself (`agree_same`).
use Rattle.miniserde_de.proofs.Agrees.{agree_same}
use Rattle.miniserde_de.proofs.de.impls.leaves.AnyDeserialize.tied.Goals as goal

pub returns : goal.returns
returns g c = agree_same _
