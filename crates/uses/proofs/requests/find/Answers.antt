-- The row that was found is the text that was read.
use Rattle.std.proofs.Common.{sym}
use Rattle.std.proofs.lemmas.Result.{err_from_is_err_and}
use Rattle.uses.proofs.requests.find.Goals as goal

pub returns-in_err-request-in-Some-clause-invalid : goal.returns-in_err-request-in-Some-clause-invalid
returns-in_err-request-in-Some-clause-invalid c =
    let p = err_from_is_err_and c.from_residual.result c.from_residual.ensures.1 in
    rw (p.1, p.2) (λ e. (
      c.in-Some.row.now,
      sym c.in-Some.ensures.value,
      rw c.as_str.ensures.value at
          (c.in_err-request-in-Some.ensures.stored (cc)),
    ))
