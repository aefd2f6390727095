-- A normal form has no duplicate name, so it means a `Unique`, whose tree is that normal form (`round_trips-unique`).
use Rattle.miniserde_laws.proofs.NormalDocuments.{round_trips-unique}
use Rattle.miniserde_laws.proofs.documents.UniqueRoundTrip.round_trips.Goals as goal

pub returns : goal.returns
returns c = λ v r. round_trips-unique v
