-- No list goes on where the source refuses (`elements_follow`), or where no value is due (`element_rejects`).
use Rattle.std.proofs.lemmas.Result.{err_from_is_err_and}
use Rattle.miniserde_read.proofs.Due.{element_rejects}
use Rattle.miniserde_read.proofs.Steps.{elements_follow}
use Rattle.miniserde_read.proofs.children.next_element.Goals as goal

pub returns-in_err-after-clause-invalid : goal.returns-in_err-after-clause-invalid
returns-in_err-after-clause-invalid g c = λ e ts r p.
    let w = err_from_is_err_and c.from_residual.result c.from_residual.ensures.1 in
    let a = elements_follow ts c.args.first c.args.source.now.rest r p in
    absurd (c.in_err-after.ensures.invalid (cc (w.1, w.2, e)) c.requires a.0 a.1 a.2)

pub returns-in_err-read_due-in-Next-clause-invalid : goal.returns-in_err-read_due-in-Next-clause-invalid
returns-in_err-read_due-in-Next-clause-invalid g c = λ e.
    let w = err_from_is_err_and c.from_residual-in_err-read_due-in-Next.result c.from_residual-in_err-read_due-in-Next.ensures.1 in
    element_rejects g.T.FromJson.means.from_tree _ _ _ (rw c.in-Next.is at c.in_ok-after.ensures.ok)
    (c.in_err-read_due-in-Next.ensures.invalid (cc (w.1, w.2, e)))
