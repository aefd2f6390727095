-- The tree of a document is a normal form, and the normal form of that is itself (`round_trips-document`).
use Rattle.miniserde_laws.proofs.NormalDocuments.{round_trips-document}
use Rattle.miniserde_laws.proofs.documents.DocumentRoundTrip.round_trips.Goals as goal

pub returns : goal.returns
returns c = λ d r. round_trips-document d
