-- Bytes that are no UTF-8 spell no tree. A body that means no value has a wrong field, or is no JSON.
use Rattle.std.proofs.Common.{◌≡◌, Ok, inl, inr, sym, ap, subst}
use Rattle.miniserde_model.proofs.Utf8.{json_utf8}
use Rattle.miniserde.specs.Value.{IsJson}
use Rattle.store.proofs.explain.ByFieldExplain.explain.Goals as goal

pub returns-in_default : goal.returns-in_default
returns-in_default g c = λ t j. absurd (c.in_default.ensures.cases.0 (json_utf8 c.args.body.now t j))

pub returns-in-Some : goal.returns-in-Some
returns-in-Some g c =
    let text : c.in-Ok.text.now ≡ c.args.body.now = c.in-Ok.ensures.cases.0 in
    let some = rw c.in-Some.is at c.in_ok-path.ensures.some in
    let alone = (rw c.in-Some.is at c.in_ok-path.ensures.alone) some.0 some.1 in
    (some.0, subst (λ b. IsJson b some.0) text some.1, alone.0, alone.1)

pub returns-in-None : goal.returns-in-None
returns-in-None g c = λ t j.
    let text : c.in-Ok.text.now ≡ c.args.body.now = c.in-Ok.ensures.cases.0 in
    elim (c.in_ok-path.ensures.none (ap Ok c.in-None.is)) [
      | inl m ↦ c.requires m.0 (subst (λ b. IsJson b m.0) text m.1) m.2 m.3
      | inr none ↦ none t (subst (λ b. IsJson b t) (sym text) j)
    ]
