-- A document that counts as its tree is read from a normal form as from the tree; a number and a value are not.
use Rattle.std.proofs.Common.{◌≡◌, pos, Some, refl, sym, ap, ◌∙◌}
use Rattle.std.specs.Prelude.{⊤}
use Rattle.miniserde_model.specs.Tree.{Tree, neg}
use Rattle.miniserde_model.specs.Normal.{norm}
use Rattle.miniserde_model.proofs.Normal.{norm_twice}
use Rattle.miniserde_stored.specs.Stable.{IsStable}
use Rattle.miniserde_value.specs.Retained.{retained_tree}
use Rattle.miniserde_value.specs.Numbers.{if_number}

-- a normal form is its own normal form
pub stable-document : IsStable (λ t. Some (norm t))
stable-document t c e = ap (λ (z : Tree). Some z) (norm_twice t) ∙ e

-- `-0` and its normal form 0 are two numbers
pub unstable-number : IsStable if_number → ⊥
unstable-number stable = let e = stable (neg (pos 0)) (neg (pos 0)) refl in absurd (cc)

-- the content that a `Value` retains of a tree is not stable
pub unstable-value : IsStable (λ t. Some (retained_tree t)) → ⊥
unstable-value stable = let e = stable (neg (pos 0)) (neg (pos 0)) refl in absurd (cc)
