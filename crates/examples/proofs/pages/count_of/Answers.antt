-- The call of `from_str` found no tree that means a page.
use Rattle.std.proofs.lemmas.Result.{err_from_is_err_and}
use Rattle.examples.proofs.pages.count_of.Goals as goal

pub returns-in_err-page-clause-invalid : goal.returns-in_err-page-clause-invalid
returns-in_err-page-clause-invalid c = λ h t j.
    let e = err_from_is_err_and c.from_residual.result c.from_residual.ensures.1 in
    c.in_err-page.ensures.none (cc (h, e.1, e.2)) t j
