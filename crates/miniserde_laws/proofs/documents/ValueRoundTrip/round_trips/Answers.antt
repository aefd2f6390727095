-- The normal form of a value means a value, whose tree is that normal form (`round_trips-value`).
use Rattle.miniserde_laws.proofs.NormalDocuments.{round_trips-value}
use Rattle.miniserde_laws.proofs.documents.ValueRoundTrip.round_trips.Goals as goal

pub returns : goal.returns
returns c = λ v r. round_trips-value v
