-- The canonical text of a text spells the normal form of its tree, is the shortest to do so, and is its own canonical
-- text. A text has one tree (`one_tree`), so each is a fact of the compact text of that tree's normal form.
use Rattle.std.proofs.Common.{◌≡◌, ◌≤◌, ◌↔◌, ℕ, List, length, sym, ap, subst, ◌∙◌}
use Rattle.miniserde_model.specs.Tree.{Tree}
use Rattle.miniserde_model.specs.Value.{IsJson}
use Rattle.miniserde_model.specs.InRange.{InRange}
use Rattle.miniserde_model.specs.Compact.{compact}
use Rattle.miniserde_model.specs.Normal.{norm}
use Rattle.miniserde_model.proofs.Normal.{norm_tree, norm_twice}
use Rattle.miniserde_model.proofs.Unique.{one_tree}
use Rattle.miniserde_model.proofs.Written.{written}
use Rattle.miniserde_model.proofs.Canonical.{canonical_spells, canonical_texts_equal}
use Rattle.miniserde_model.proofs.Shortest.{shortest}

-- c is the compact text of the normal form of a tree of j
abbrev pub IsCanonical : List ℕ → List ℕ → Type 0
IsCanonical j c = (t : Tree) × IsJson j t × (c ≡ compact (norm t))

-- the canonical text of j is the compact text of the normal form of each tree that j spells
pub canonical_text : {j c : List ℕ} → IsCanonical j c → (t : Tree) → IsJson j t → c ≡ compact (norm t)
canonical_text {j = j} h t p = h.2 ∙ ap (λ z. compact (norm z)) (one_tree j h.0 t h.1 p)

-- the canonical text of j spells the normal form of each tree that j spells
pub canonical_spelled : {j c : List ℕ} → IsCanonical j c → (t : Tree) → IsJson j t → IsJson c (norm t)
canonical_spelled {j = j} h t p = subst (λ z. IsJson z (norm t)) (sym (canonical_text h t p)) (canonical_spells j t p)

-- the canonical text of j is that of a tree u in range exactly if j's tree and u have equal normal forms
pub canonical_decides : {j c : List ℕ} → IsCanonical j c → (t : Tree) → IsJson j t → (u : Tree) → InRange u
    → (c ≡ compact (norm u)) ↔ (norm u ≡ norm t)
canonical_decides {c = c} h t p u r = (
  λ e. one_tree c (norm u) (norm t) (subst (λ z. IsJson z (norm u)) (sym e) (written (norm u) (norm_tree u r)))
      (canonical_spelled h t p),
  λ e. canonical_text h t p ∙ ap compact (sym e),
)

-- no text of a tree with the normal form of j's tree is shorter than the canonical text of j
pub canonical_least : {j c : List ℕ} → IsCanonical j c → (t : Tree) → IsJson j t → (b : List ℕ) (u : Tree)
    → IsJson b u → norm u ≡ norm t → length c ≤ length b
canonical_least h t p b u q e = subst (λ z. length z ≤ length b) (sym (canonical_text h t p)) (shortest b t u q e)

-- two texts have equal canonical texts exactly if their trees have equal normal forms
pub canonical_texts_decide : {a b c d : List ℕ} → IsCanonical a c → IsCanonical b d → (t u : Tree) → IsJson a t → IsJson b u
    → (c ≡ d) ↔ (norm t ≡ norm u)
canonical_texts_decide {a = a} {b = b} h i t u p q =
    let x = canonical_text h t p in
    let y = canonical_text i u q in
    let l = canonical_texts_equal a b t u p q in
    (λ e. l.0 (sym x ∙ e ∙ y), λ e. x ∙ l.1 e ∙ sym y)

-- a canonical text is one of the normal form itself
pub canonical_spells_norm : (c b : List ℕ) (t : Tree) → IsJson b t → c ≡ compact (norm t) → IsJson c (norm t)
canonical_spells_norm c b t h e = subst (λ z. IsJson z (norm t)) (sym e) (canonical_spells b t h)

-- if j is the canonical text of a tree that a text spells, the canonical text of j is j
pub canonical_of_canonical : {j c : List ℕ} (b : List ℕ) → IsCanonical j c → (t : Tree) → IsJson b t → j ≡ compact (norm t) → c ≡ j
canonical_of_canonical {j = j} b i t h e = canonical_text i (norm t) (canonical_spells_norm j b t h e) ∙ ap compact (norm_twice t) ∙ sym e
