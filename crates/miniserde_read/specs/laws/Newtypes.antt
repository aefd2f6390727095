-- What a tree gives as a newtype is what it gives as the inner type, where the check accepts that.
use Rattle.std.proofs.Common.{◌≡◌, Bool, true, false, cond, Option, Some, None, refl, ap, subst}
use Rattle.std.specs.Prelude.{◌↔◌, option_and_then}

only : {C : Type 0} (b : Bool) (c d : C) → cond b (Some c) None ≡ Some d → (b ≡ true) × (c ≡ d)
only true c d e = (refl, cc)
only false c d e = absurd (cc)

back : {C : Type 0} (p : C → Bool) (o : Option C) (c : C)
    → option_and_then (λ c. cond (p c) (Some c) None) o ≡ Some c → (o ≡ Some c) × (p c ≡ true)
back p None c e = absurd (cc)
back p (Some d) c e = let h = only (p d) d c e in (ap Some h.1, subst (λ x. p x ≡ true) h.1 h.0)

there : {C : Type 0} (p : C → Bool) (o : Option C) (c : C) → o ≡ Some c → p c ≡ true
    → option_and_then (λ c. cond (p c) (Some c) None) o ≡ Some c
there p o c e h = rw (e, h) refl

-- If R says that a tree, which gives o, means the value inside: it does, and the check accepts the value's content c,
-- exactly if o is that content and the check accepts it.
pub checked-given : {C : Type 0} (p : C → Bool) {R : Type 0} (o : Option C) {c : C} → (R ↔ (o ≡ Some c))
    → (R × (p c ≡ true)) ↔ (option_and_then (λ c. cond (p c) (Some c) None) o ≡ Some c)
checked-given p o {c = c} agrees =
    (λ h. there p o c (agrees.0 h.0) h.1, λ e. let h = back p o c e in (agrees.1 h.0, h.1))
