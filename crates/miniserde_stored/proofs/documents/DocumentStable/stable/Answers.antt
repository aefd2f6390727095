-- The content of a document is its normal form, and the normal form of that is itself (`stable-document`).
use Rattle.miniserde_stored.proofs.StableDocuments.{stable-document}
use Rattle.miniserde_stored.proofs.documents.DocumentStable.stable.Goals as goal

pub returns : goal.returns
returns c = stable-document
