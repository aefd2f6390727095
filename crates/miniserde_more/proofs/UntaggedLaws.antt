-- Untagged enums of two parts, the first variant and the later ones, whose trees have no kind in common: if each part
-- has its round trip, is lossless or is stable, so is the whole. No tree is read as both parts, by its kind.
use Rattle.std.proofs.Common.{◌≡◌, ℤ, pos, negsuc, true, false, ◌||◌, Option, Some, None, refl, sym, ap, subst, ◌∙◌, true≢false}
use Rattle.std.specs.Prelude.{◌↔◌}
use Rattle.miniserde_model.specs.Tree.{Tree, null, truth, nonneg, neg, num, str, list, members}
use Rattle.miniserde_model.specs.Normal.{norm, norm_neg}
use Rattle.miniserde_enum.specs.declared.one_of.OneOf.{OneOf}
use Rattle.miniserde_enum.specs.declared.one_of.OneOf.TheVariants.{First, Later}
use Rattle.miniserde_enum.specs.Cases.{CaseValid, case_content}
use Rattle.miniserde_laws.specs.RoundTrip.{RoundTrips}
use Rattle.miniserde_stored.specs.Stable.{IsStable}
use Rattle.miniserde_more.specs.Kinds.{Kinds, OfKinds, tree_kind, either_kinds, apart}
use Rattle.miniserde_more.specs.Untagged.{first_content, first_of, FirstReads, either_tree}
use Rattle.miniserde_more.specs.laws.Kinds.{not_in_other, is_of_kind, no_first}
use Rattle.miniserde_more.specs.laws.Untagged.{later-iff}

-- ---- the round trip

module _ {T C : Type 0} (valid : T → Type 0) (tree : T → Tree) (reads : Tree → T → Type 0) (of : Tree → Option C)
    (content : T → C) (agrees : (t : Tree) (x : T) → reads t x ↔ (of t ≡ Some (content x)))
    (round_trips : (x : T) → valid x → RoundTrips valid tree reads (tree x)) (a : Kinds) (only : OfKinds a of) where
  -- the tree of a valid value is of one of the kinds
  pub tree_of_kind : (x : T) → valid x → a (tree_kind (tree x)) ≡ true
  tree_of_kind x r =
      let h = round_trips x r in
      is_of_kind a of only (tree x) (content h.0.0) ((agrees (tree x) h.0.0).0 h.0.2)

  -- a value of one of two parts has its round trip
  pub untagged-round_trips : {W D : Type 0} (valid_w : W → Type 0) (tree_w : W → Tree) (reads_w : Tree → W → Type 0)
      (of_w : Tree → Option D) (content_w : W → D)
      → ((t : Tree) (w : W) → reads_w t w ↔ (of_w t ≡ Some (content_w w)))
      → ((w : W) → valid_w w → RoundTrips valid_w tree_w reads_w (tree_w w)) → (b : Kinds) → OfKinds b of_w
      → apart a b ≡ true → (v : OneOf T W) → CaseValid valid valid_w v
      → RoundTrips (CaseValid valid valid_w) (either_tree tree tree_w) (FirstReads reads of reads_w) (either_tree tree tree_w v)
  untagged-round_trips valid_w tree_w reads_w of_w content_w agrees_w round_trips_w b only_w d (First x) r =
      let h = round_trips x r in
      let some = (agrees (tree x) h.0.0).0 h.0.2 in (
        (First h.0.0, h.0.1, h.0.2),
        λ v. elim v as (λ v. CaseValid valid valid_w v → FirstReads reads of reads_w (tree x) v
            → either_tree tree tree_w v ≡ tree x) [
              | First y ↦ λ s e. h.1 y s e
              | Later w ↦ λ s e. let no = e.0 in absurd (cc)
            ],
      )
  untagged-round_trips valid_w tree_w reads_w of_w content_w agrees_w round_trips_w b only_w d (Later w) r =
      let h = round_trips_w w r in
      let no = no_first a b of of_w only only_w d (tree_w w) (content_w h.0.0) ((agrees_w (tree_w w) h.0.0).0 h.0.2) in (
        (Later h.0.0, h.0.1, (no, h.0.2)),
        λ v. elim v as (λ v. CaseValid valid valid_w v → FirstReads reads of reads_w (tree_w w) v
            → either_tree tree tree_w v ≡ tree_w w) [
              | First y ↦ λ s e. let some = (agrees (tree_w w) y).0 e in absurd (cc)
              | Later u ↦ λ s e. h.1 u s e.1
            ],
      )

-- ---- the injective tree

module _ {T W : Type 0} (valid : T → Type 0) (tree : T → Tree) (a : Kinds)
    (of_kind : (x : T) → valid x → a (tree_kind (tree x)) ≡ true) (valid_w : W → Type 0) (tree_w : W → Tree) (b : Kinds)
    (of_kind_w : (w : W) → valid_w w → b (tree_kind (tree_w w)) ≡ true) where
  pub either_of_kind : (v : OneOf T W) → CaseValid valid valid_w v
      → either_kinds a b (tree_kind (either_tree tree tree_w v)) ≡ true
  either_of_kind (First x) r = rw (of_kind x r) refl
  either_of_kind (Later w) r = elim (a (tree_kind (tree_w w))) as (λ z. (z || b (tree_kind (tree_w w))) ≡ true)
      [ true ↦ refl | false ↦ of_kind_w w r ]

  apart-trees : apart a b ≡ true → (x : T) (w : W) → valid x → valid_w w → tree x ≡ tree_w w → ⊥
  apart-trees d x w r s e =
      true≢false (sym (of_kind_w w s) ∙ ap (λ t. b (tree_kind t)) (sym e)
      ∙ not_in_other a b d (tree_kind (tree x)) (of_kind x r))

  pub untagged-same : {C D : Type 0} (content : T → C) (content_w : W → D)
      → ((x y : T) → valid x → valid y → tree x ≡ tree y → content x ≡ content y)
      → ((v w : W) → valid_w v → valid_w w → tree_w v ≡ tree_w w → content_w v ≡ content_w w) → apart a b ≡ true
      → (v w : OneOf T W) → CaseValid valid valid_w v → CaseValid valid valid_w w
      → either_tree tree tree_w v ≡ either_tree tree tree_w w
      → case_content content content_w v ≡ case_content content content_w w
  untagged-same content content_w same same_w d (First x) (First y) r s e = ap First (same x y r s e)
  untagged-same content content_w same same_w d (First x) (Later w) r s e = absurd (apart-trees d x w r s e)
  untagged-same content content_w same same_w d (Later v) (First y) r s e = absurd (apart-trees d y v s r (sym e))
  untagged-same content content_w same same_w d (Later v) (Later w) r s e = ap Later (same_w v w r s e)

-- ---- the normal form

-- the normal form of a tree is of the tree's kind
pub norm_kind : (t : Tree) → tree_kind (norm t) ≡ tree_kind t
norm_kind null = refl
norm_kind (truth b) = refl
norm_kind (nonneg n) = refl
norm_kind (neg (pos n)) = refl
norm_kind (neg (negsuc n)) = refl
norm_kind (num x) = refl
norm_kind (str s) = refl
norm_kind (list ts) = refl
norm_kind (members ms) = refl

module _ {C D : Type 0} (a b : Kinds) (f : Tree → Option C) (g : Tree → Option D) (h : OfKinds a f) (k : OfKinds b g)
    (d : apart a b ≡ true) (first : IsStable f) (later : IsStable g) where
  stable-first : (t : Tree) (v : OneOf C D) (o : Option C) → f t ≡ o → first_content o (g t) ≡ Some v
      → first_of f g (norm t) ≡ Some v
  stable-first t v (Some c) i e = rw (first t c i) e
  stable-first t (First c) None i e = elim (g t) as (λ p. first_content None p ≡ Some (First c) → first_of f g (norm t) ≡ Some (First c))
      [ None ↦ λ e. absurd (cc) | Some x ↦ λ e. absurd (cc) ] e
  stable-first t (Later x) None i e =
      let p = (later-iff None (g t) x).1 e in
      let q = later t x p.1 in
      let no = no_first a b f g h k d (norm t) x q in
      rw (no, q) refl

  pub untagged-stable : IsStable (first_of f g)
  untagged-stable t v e = stable-first t v (f t) refl e
