-- The law is `shortest`, which counts the bytes of each piece of the grammar.
use Rattle.miniserde_model.proofs.Shortest.{shortest}
use Rattle.miniserde_model.proofs.canonical_is_shortest.Goals as goal

pub returns : goal.returns
returns c = shortest
