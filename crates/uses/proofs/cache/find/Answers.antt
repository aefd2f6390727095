-- The text that has no canonical text is no JSON.
use Rattle.std.proofs.lemmas.Result.{err_from_is_err_and}
use Rattle.uses.proofs.cache.find.Goals as goal

pub returns-in_err-key-clause-invalid : goal.returns-in_err-key-clause-invalid
returns-in_err-key-clause-invalid c = λ e.
    let w = err_from_is_err_and c.from_residual.result c.from_residual.ensures.1 in
    c.in_err-key.ensures.invalid (cc (w.1, w.2, e))
