-- Each text is canonical, and a refusal is that of one of them.
use Rattle.std.proofs.Common.{inl, inr}
use Rattle.std.proofs.lemmas.Result.{err_from_is_err_and}
use Rattle.miniserde_canonical.proofs.IsCanonical.{canonical_texts_decide}
use Rattle.miniserde_canonical.proofs.canonicalize.canonical_both.Goals as goal

pub returns-in_err-canonical-clause-invalid : goal.returns-in_err-canonical-clause-invalid
returns-in_err-canonical-clause-invalid c = λ e.
    let w = err_from_is_err_and c.from_residual.result c.from_residual.ensures.1 in
    inl (c.in_err-canonical.ensures.invalid (cc (w.1, w.2, e)))

pub returns-in_err-canonical-2-clause-invalid : goal.returns-in_err-canonical-2-clause-invalid
returns-in_err-canonical-2-clause-invalid c = λ e.
    let w = err_from_is_err_and c.from_residual-in_err-canonical-2.result c.from_residual-in_err-canonical-2.ensures.1 in
    inr (c.in_err-canonical-2.ensures.invalid (cc (w.1, w.2, e)))

pub returns-clause-tells : goal.returns-clause-tells
returns-clause-tells c =
    canonical_texts_decide c.in_ok-canonical.ensures.ok c.in_ok-canonical-2.ensures.ok
