-- The normal form of an object means an object, whose tree is that normal form (`round_trips-object`).
use Rattle.miniserde_laws.proofs.NormalDocuments.{round_trips-object}
use Rattle.miniserde_laws.proofs.documents.ObjectRoundTrip.round_trips.Goals as goal

pub returns : goal.returns
returns c = λ v r. round_trips-object v
