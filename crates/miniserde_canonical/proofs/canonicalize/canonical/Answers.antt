-- `canonical` returns the canonical text of a text, or `Invalid` if the text is no JSON. The clauses `ok` and
-- `invalid` are those of `canonicalize`, and each other clause is a lemma of `IsCanonical.antt` or of the model.
use Rattle.std.proofs.Common.{◌≡◌, sym, subst, string_bytes}
use Rattle.std.specs.Prelude.{IfOk}
use Rattle.std.proofs.lemmas.Result.{err_from_is_err_and}
use Rattle.miniserde_model.specs.Normal.{norm}
use Rattle.miniserde_model.proofs.Normal.{norm_twice}
use Rattle.miniserde_model.proofs.Unique.{one_tree}
use Rattle.miniserde_canonical.proofs.IsCanonical.{canonical_text, canonical_spelled, canonical_decides}
use Rattle.miniserde_canonical.proofs.IsCanonical.{canonical_least, canonical_of_canonical, canonical_spells_norm}
use Rattle.miniserde_canonical.proofs.canonicalize.canonical.Goals as goal

pub returns-in_err-text-clause-invalid : goal.returns-in_err-text-clause-invalid
returns-in_err-text-clause-invalid c = λ e.
    let w = err_from_is_err_and c.from_residual.result c.from_residual.ensures.1 in
    c.in_err-text.ensures.invalid (cc (w.1, w.2, e))

pub returns-in_err-text-clause-one : goal.returns-in_err-text-clause-one
returns-in_err-text-clause-one c = one_tree c.args.j.now

pub returns-in_err-text-clause-idempotent : goal.returns-in_err-text-clause-idempotent
returns-in_err-text-clause-idempotent c = λ b t h e.
    let w = err_from_is_err_and c.from_residual.result c.from_residual.ensures.1 in (
      subst (λ r. IfOk r (λ s. string_bytes s ≡ c.args.j.now)) (sym w.1) tt,
      λ i. returns-in_err-text-clause-invalid
          c i (norm t) (canonical_spells_norm c.args.j.now b t h e),
    )

pub returns-clause-ok : goal.returns-clause-ok
returns-clause-ok c = let r = c.in_ok-text.ensures.ok in (r.0, r.1, r.2)

pub returns-clause-text : goal.returns-clause-text
returns-clause-text c = canonical_text (returns-clause-ok c)

pub returns-clause-spells : goal.returns-clause-spells
returns-clause-spells c = canonical_spelled (returns-clause-ok c)

pub returns-clause-normal : goal.returns-clause-normal
returns-clause-normal c = λ t p. norm_twice t

pub returns-clause-tells : goal.returns-clause-tells
returns-clause-tells c = canonical_decides (returns-clause-ok c)

pub returns-clause-shortest : goal.returns-clause-shortest
returns-clause-shortest c = canonical_least (returns-clause-ok c)

pub returns-clause-one : goal.returns-clause-one
returns-clause-one c = one_tree c.args.j.now

pub returns-clause-idempotent : goal.returns-clause-idempotent
returns-clause-idempotent c = λ b t h e. (canonical_of_canonical b (returns-clause-ok c) t h e, λ i. absurd (cc))
