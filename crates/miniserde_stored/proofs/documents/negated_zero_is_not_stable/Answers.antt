-- `-0` and its normal form 0 have two contents, as a `Number` (`unstable-number`) and as a `Value`
-- (`unstable-value`).
use Rattle.miniserde_stored.proofs.StableDocuments.{unstable-number, unstable-value}
use Rattle.miniserde_stored.proofs.documents.negated_zero_is_not_stable.Goals as goal

pub returns-clause-number : goal.returns-clause-number
returns-clause-number c = unstable-number

pub returns-clause-value : goal.returns-clause-value
returns-clause-value c = unstable-value
