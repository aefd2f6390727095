-- A pair's tree gives what its two children mean.
use Rattle.std.proofs.Common.{◌≡◌, Option, Some, None, refl, ap}
use Rattle.std.specs.Prelude.{◌↔◌}
use Rattle.miniserde_model.specs.Tree.{Tree, list, no_trees, tree}
use Rattle.miniserde_read.specs.types.Pairs.{PairReads, both, pair_of}

module _ {A B : Type 0} where
  -- if the pair is there, both of its parts are
  pub both-some : (o : Option A) (p : Option B) (a : A) (b : B) → both (o, p) ≡ Some (a, b) → (o ≡ Some a) × (p ≡ Some b)
  both-some None p a b e = absurd (cc)
  both-some (Some x) None a b e = absurd (cc)
  both-some (Some x) (Some y) a b e = let same : ◌≡◌ {A = A × B} (x, y) (a, b) = cc in (ap (λ q. Some q.0) same, ap (λ q. Some q.1) same)

module _ {T U A B : Type 0} (R : Tree → T → Type 0) (S : Tree → U → Type 0) (f : Tree → Option A)
    (g : Tree → Option B) (content_a : T → A) (content_b : U → B)
    (given_a : (t : Tree) (x : T) → R t x ↔ (f t ≡ Some (content_a x)))
    (given_b : (t : Tree) (y : U) → S t y ↔ (g t ≡ Some (content_b y))) where
  two-given : (t u : Tree) (v : T × U) → (R t v.0 × S u v.1) ↔ (both (f t, g u) ≡ Some (content_a v.0, content_b v.1))
  two-given t u v = (
    λ h. rw ((given_a t v.0).0 h.0, (given_b u v.1).0 h.1) refl,
    λ e. let p = both-some (f t) (g u) (content_a v.0) (content_b v.1) e in ((given_a t v.0).1 p.0, (given_b u v.1).1 p.1),
  )

  pub pair-given : (t : Tree) (v : T × U) → PairReads R S t v ↔ (pair_of f g t ≡ Some (content_a v.0, content_b v.1))
  pair-given (list (tree t (tree u no_trees))) v = two-given t u v
  pair-given t v = (λ h. absurd h, λ e. absurd (cc))
