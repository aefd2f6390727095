-- The answer is that of `canonical_unique`. Bytes without one are no UTF-8, or a text without such a tree.
use Rattle.std.proofs.Common.{◌≡◌, Err, sym, ap, subst, ◌∙◌, inl, inr}
use Rattle.std.specs.Str.{IsUtf8}
use Rattle.std.proofs.lemmas.Result.{err_from_is_err_and}
use Rattle.miniserde_model.specs.Value.{IsJson}
use Rattle.miniserde_program.specs.declared.canon.Fault.TheVariants.{Invalid}
use Rattle.miniserde_program.specs.Runs.{IsAnswerOfUnique, HasNoAnswerOfUnique}
use Rattle.miniserde_program.proofs.Faults.{invalid_from}
use Rattle.miniserde_program.proofs.canon.canonical_unique_of_bytes.Goals as goal

pub returns-clause-ok : goal.returns-clause-ok
unfolding IsAnswerOfUnique
returns-clause-ok c =
    let s = c.in_ok-text.ensures.ok in
    let r = c.in_ok-canonical_unique.ensures.ok in
    let u = c.in_ok-canonical_unique.ensures.distinct in
    let z = c.in_ok-canonical_unique.ensures.size in
    (subst IsUtf8 s.0 s.1, (r.0, subst (λ xs. IsJson xs r.0) s.0 r.1, u r.0 r.1, z r.0 r.1, r.2))

pub returns-in_err-text-clause-invalid : goal.returns-in_err-text-clause-invalid
unfolding HasNoAnswerOfUnique
returns-in_err-text-clause-invalid c = λ h. inl c.in_err-text.ensures.invalid

pub returns-in_err-canonical_unique-clause-invalid : goal.returns-in_err-canonical_unique-clause-invalid
unfolding HasNoAnswerOfUnique
returns-in_err-canonical_unique-clause-invalid c = λ h.
    let w = err_from_is_err_and c.from_residual-in_err-canonical_unique.result c.from_residual-in_err-canonical_unique.ensures.1 in
    let is : w.0 ≡ Invalid = cc (h, w.1) in
    inr (λ t p. c.in_err-canonical_unique.ensures.invalid
    (ap Err (invalid_from c.in_err-canonical_unique.field-0.0 (sym w.2 ∙ is))) t
    (subst (λ xs. IsJson xs t) (sym c.in_ok-text.ensures.ok.0) p))
