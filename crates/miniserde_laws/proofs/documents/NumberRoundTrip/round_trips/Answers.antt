-- The normal form of a number means a number, whose tree is that normal form (`round_trips-number`).
use Rattle.miniserde_laws.proofs.NormalDocuments.{round_trips-number}
use Rattle.miniserde_laws.proofs.documents.NumberRoundTrip.round_trips.Goals as goal

pub returns : goal.returns
returns c = λ v r. round_trips-number v
