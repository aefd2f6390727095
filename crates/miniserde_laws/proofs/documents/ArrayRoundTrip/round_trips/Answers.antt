-- The normal form of an array means an array, whose tree is that normal form (`round_trips-array`).
use Rattle.miniserde_laws.proofs.NormalDocuments.{round_trips-array}
use Rattle.miniserde_laws.proofs.documents.ArrayRoundTrip.round_trips.Goals as goal

pub returns : goal.returns
returns c = λ v r. round_trips-array v
