-- Every tree means something that is ignored.
use Rattle.std.proofs.Common.{Err, is_some, ap, true≢false}
use Rattle.store.proofs.explain.is_json.Goals as goal

pub returns-in-Err-Invalid-clause-no : goal.returns-in-Err-Invalid-clause-no
returns-in-Err-Invalid-clause-no c = λ _ t j.
    absurd (true≢false (ap is_some (c.in-Err-Invalid.ensures.none (ap Err c.in-Err-Invalid.field-0-is) t j)))
