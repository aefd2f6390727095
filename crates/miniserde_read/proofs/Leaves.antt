-- The event of a leaf determines the tree of the leaf. By cases on the event (`leaf_given`) and on the tree
-- (`leaf_none`).
use Rattle.std.proofs.Common.{◌≡◌, ℕ, List, Option, Some, None, refl, subst}
use Rattle.miniserde_model.specs.Tree.{Tree, null, truth, nonneg, neg, num, str, list, members}
use Rattle.miniserde_model.specs.Step.{Step, boolean, string, negative, nonnegative, float, seq, element, map, key, finish}
use Rattle.miniserde_model.specs.Step as step
use Rattle.miniserde_read.specs.Rest.{ValueAt}
use Rattle.miniserde_read.specs.Events.{on_leaf, OnlyLeaves}

module _ {C : Type 0} (f : Tree → Option C) where
  pub leaf_given : (e : Step) (s : List ℕ) (c : C) → on_leaf f e ≡ Some c → (t : Tree) × ValueAt t e s s × (f t ≡ Some c)
  leaf_given step.null s c h = (null, (refl, refl), h)
  leaf_given (boolean x) s c h = (truth x, (refl, refl), h)
  leaf_given (string x) s c h = (str x, (refl, refl), h)
  leaf_given (negative n) s c h = (neg n, (refl, refl), h)
  leaf_given (nonnegative n) s c h = (nonneg n, (refl, refl), h)
  leaf_given (float x) s c h = (num x, (refl, refl), h)
  leaf_given seq s c h = absurd (cc)
  leaf_given element s c h = absurd (cc)
  leaf_given map s c h = absurd (cc)
  leaf_given (key k) s c h = absurd (cc)
  leaf_given finish s c h = absurd (cc)

  -- where the event gives nothing, no value that begins with it gives anything
  pub leaf_none : OnlyLeaves f → (e : Step) (t : Tree) (s r : List ℕ) → on_leaf f e ≡ None → ValueAt t e s r → f t ≡ None
  leaf_none o e null s r h v = subst (λ z. on_leaf f z ≡ None) v.0 h
  leaf_none o e (truth b) s r h v = subst (λ z. on_leaf f z ≡ None) v.0 h
  leaf_none o e (nonneg n) s r h v = subst (λ z. on_leaf f z ≡ None) v.0 h
  leaf_none o e (neg n) s r h v = subst (λ z. on_leaf f z ≡ None) v.0 h
  leaf_none o e (num x) s r h v = subst (λ z. on_leaf f z ≡ None) v.0 h
  leaf_none o e (str x) s r h v = subst (λ z. on_leaf f z ≡ None) v.0 h
  leaf_none o e (list ts) s r h v = o.0 ts
  leaf_none o e (members ms) s r h v = o.1 ms
