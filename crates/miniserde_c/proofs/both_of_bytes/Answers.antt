-- Bytes that are no UTF-8 have no tree, since a text with a tree is UTF-8. Others are invalid if `canonical_both` says
-- so, of texts that are the bytes.
use Rattle.std.proofs.Common.{◌≡◌, List, ℕ, Err, sym, ap, subst, ◌⊎◌, inl, inr}
use Rattle.miniserde_model.specs.Value.{IsJson, HasNoTree}
use Rattle.miniserde_model.proofs.Utf8.{json_utf8}
use Rattle.miniserde_c.proofs.both_of_bytes.Goals as goal

-- two texts of which one has no tree, as the bytes that they are
of_bytes : (a b x y : List ℕ) → x ≡ a → y ≡ b → HasNoTree x ⊎ HasNoTree y → HasNoTree a ⊎ HasNoTree b
of_bytes a b x y e f (inl h) = inl (λ t p. h t (subst (λ xs. IsJson xs t) (sym e) p))
of_bytes a b x y e f (inr h) = inr (λ t p. h t (subst (λ xs. IsJson xs t) (sym f) p))

pub returns-in_default-clause-invalid : goal.returns-in_default-clause-invalid
returns-in_default-clause-invalid c = λ _. inl (λ t p. c.in_default.ensures (json_utf8 c.args.a.now t p))

pub returns-in_default-from_utf8-clause-invalid : goal.returns-in_default-from_utf8-clause-invalid
returns-in_default-from_utf8-clause-invalid c = λ _.
    inr (λ t p. c.in_default-from_utf8.ensures (json_utf8 c.args.b.now t p))

pub returns-in-Err-clause-invalid : goal.returns-in-Err-clause-invalid
returns-in-Err-clause-invalid c = λ s.
    of_bytes _ _ _ _ c.in-Ok.ensures.0 c.in-Ok-from_utf8.ensures.0
    (c.in-Err.ensures.invalid (ap Err (c.status_of.ensures.invalid s)))
