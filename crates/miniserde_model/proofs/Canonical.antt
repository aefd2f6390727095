-- Canonical texts.
use Rattle.std.proofs.Common.{◌≡◌, ℕ, ◌↔◌, List, ap, sym, subst}
use Rattle.miniserde_model.specs.Tree.{Tree}
use Rattle.miniserde_model.specs.Value.{IsJson}
use Rattle.miniserde_model.specs.Compact.{compact}
use Rattle.miniserde_model.specs.Normal.{norm}
use Rattle.miniserde_model.proofs.Normal.{norm_tree}
use Rattle.miniserde_model.proofs.Unique.{one_tree}
use Rattle.miniserde_model.proofs.Written.{written}
use Rattle.miniserde_model.proofs.Accepted.{json_tree}

-- the canonical text of an accepted text spells its normal form
pub canonical_spells : (b : List ℕ) (t : Tree) → IsJson b t → IsJson (compact (norm t)) (norm t)
canonical_spells b t p = written (norm t) (norm_tree t (json_tree b t p))

-- two texts that spell trees have equal canonical texts exactly if the trees have equal normal forms
pub canonical_texts_equal : (a b : List ℕ) (t u : Tree) → IsJson a t → IsJson b u
    → (compact (norm t) ≡ compact (norm u)) ↔ (norm t ≡ norm u)
canonical_texts_equal a b t u p q = (
  λ e. one_tree (compact (norm t)) (norm t) (norm u) (canonical_spells a t p)
      (subst (λ z. IsJson z (norm u)) (sym e) (canonical_spells b u q)),
  λ e. ap compact e,
)
