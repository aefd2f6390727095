-- `canonical_unique` returns the canonical text of a text without duplicate names, and `Invalid` for every other
-- text. By cases of the flag that `canonicalize` returns, with the lemmas of `IsCanonical.antt` for the canonical
-- text.
use Rattle.std.proofs.Common.{◌≡◌, true, sym, ap, subst, ◌∙◌, string_bytes, true≢false}
use Rattle.std.specs.Prelude.{IfOk}
use Rattle.std.proofs.lemmas.Result.{err_from_is_err_and}
use Rattle.miniserde_model.specs.Normal.{norm}
use Rattle.miniserde_model.specs.Distinct.{names_distinct}
use Rattle.miniserde_model.proofs.Distinct.{norm_distinct, distinct_size}
use Rattle.miniserde_model.proofs.Normal.{norm_twice}
use Rattle.miniserde_model.proofs.Unique.{one_tree}
use Rattle.miniserde_canonical.proofs.IsCanonical.{canonical_text, canonical_spelled, canonical_decides}
use Rattle.miniserde_canonical.proofs.IsCanonical.{canonical_least, canonical_of_canonical, canonical_spells_norm}
use Rattle.miniserde_canonical.proofs.canonicalize.canonical_unique.Goals as goal

-- ---- no text

pub returns-in_err-text-clause-invalid : goal.returns-in_err-text-clause-invalid
returns-in_err-text-clause-invalid c = λ e t p d.
    let w = err_from_is_err_and c.from_residual.result c.from_residual.ensures.1 in
    c.in_err-text.ensures.invalid (cc (w.1, w.2, e)) t p

pub returns-in_err-text-clause-one : goal.returns-in_err-text-clause-one
returns-in_err-text-clause-one c = one_tree c.args.j.now

pub returns-in_err-text-clause-idempotent : goal.returns-in_err-text-clause-idempotent
returns-in_err-text-clause-idempotent c = λ b t h e.
    let w = err_from_is_err_and c.from_residual.result c.from_residual.ensures.1 in (
      subst (λ r. IfOk r (λ s. string_bytes s ≡ c.args.j.now)) (sym w.1) tt,
      λ i. returns-in_err-text-clause-invalid
          c i (norm t) (canonical_spells_norm c.args.j.now b t h e) (norm_distinct t),
    )

-- ---- a text without duplicate names

pub returns-then-is_distinct-clause-text : goal.returns-then-is_distinct-clause-text
returns-then-is_distinct-clause-text c = canonical_text (let r = c.in_ok-text.ensures.ok in (r.0, r.1, r.2))

pub returns-then-is_distinct-clause-spells : goal.returns-then-is_distinct-clause-spells
returns-then-is_distinct-clause-spells c = canonical_spelled (let r = c.in_ok-text.ensures.ok in (r.0, r.1, r.2))

pub returns-then-is_distinct-clause-normal : goal.returns-then-is_distinct-clause-normal
returns-then-is_distinct-clause-normal c = λ t p. norm_twice t

pub returns-then-is_distinct-clause-tells : goal.returns-then-is_distinct-clause-tells
returns-then-is_distinct-clause-tells c = canonical_decides (let r = c.in_ok-text.ensures.ok in (r.0, r.1, r.2))

pub returns-then-is_distinct-clause-shortest : goal.returns-then-is_distinct-clause-shortest
returns-then-is_distinct-clause-shortest c = canonical_least (let r = c.in_ok-text.ensures.ok in (r.0, r.1, r.2))

pub returns-then-is_distinct-clause-distinct : goal.returns-then-is_distinct-clause-distinct
returns-then-is_distinct-clause-distinct c = λ t p.
    let r = c.in_ok-text.ensures.ok in
    subst (λ z. names_distinct z ≡ true) (one_tree c.args.j.now r.0 t r.1 p) (sym r.3 ∙ c.if-is_distinct.true)

pub returns-then-is_distinct-clause-size : goal.returns-then-is_distinct-clause-size
returns-then-is_distinct-clause-size c = λ t p. distinct_size t (returns-then-is_distinct-clause-distinct c t p)

pub returns-then-is_distinct-clause-one : goal.returns-then-is_distinct-clause-one
returns-then-is_distinct-clause-one c = one_tree c.args.j.now

pub returns-then-is_distinct-clause-idempotent : goal.returns-then-is_distinct-clause-idempotent
returns-then-is_distinct-clause-idempotent c = λ b t h e.
    let r = c.in_ok-text.ensures.ok in
    (canonical_of_canonical b (r.0, r.1, r.2) t h e, λ i. absurd (cc))

-- ---- a duplicate

pub returns-else-is_distinct-clause-invalid : goal.returns-else-is_distinct-clause-invalid
returns-else-is_distinct-clause-invalid c = λ e t p d.
    let r = c.in_ok-text.ensures.ok in
    true≢false (sym d ∙ ap names_distinct (one_tree c.args.j.now t r.0 p r.1) ∙ sym r.3 ∙ c.if-is_distinct.false)

pub returns-else-is_distinct-clause-one : goal.returns-else-is_distinct-clause-one
returns-else-is_distinct-clause-one c = one_tree c.args.j.now

pub returns-else-is_distinct-clause-idempotent : goal.returns-else-is_distinct-clause-idempotent
returns-else-is_distinct-clause-idempotent c = λ b t h e.
    (tt, λ i. returns-else-is_distinct-clause-invalid c i (norm t) (canonical_spells_norm c.args.j.now b t h e) (norm_distinct t))
