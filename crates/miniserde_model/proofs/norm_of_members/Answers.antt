-- Each clause is a lemma of the normal form by any f for integers with a minus (`norm_members_by`), at `norm_neg`.
-- `last` and `order` fix the normal form, so `only` and `put` follow from them.
use Rattle.miniserde_model.specs.Normal.{norm_neg}
use Rattle.miniserde_model.proofs.Lookups.{norm_keeps_last, norm_rises}
use Rattle.miniserde_model.proofs.OneNormal.{norm_only, put_all_norm}
use Rattle.miniserde_model.proofs.norm_of_members.Goals as goal

pub returns-clause-last : goal.returns-clause-last
returns-clause-last c = norm_keeps_last norm_neg

pub returns-clause-order : goal.returns-clause-order
returns-clause-order c = norm_rises norm_neg

pub returns-clause-only : goal.returns-clause-only
returns-clause-only c = norm_only norm_neg

pub returns-clause-put : goal.returns-clause-put
returns-clause-put c = put_all_norm norm_neg
