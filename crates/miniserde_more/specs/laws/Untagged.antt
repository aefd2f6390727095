-- A tree means a value of an untagged enum exactly if it gives the value's content; and it is of a kind of a variant.
use Rattle.std.proofs.Common.{◌≡◌, Bool, true, false, ◌||◌, Option, Some, None, refl}
use Rattle.std.specs.Prelude.{◌↔◌, option_map}
use Rattle.miniserde_model.specs.Tree.{Tree}
use Rattle.miniserde_enum.specs.declared.one_of.OneOf.{OneOf}
use Rattle.miniserde_enum.specs.declared.one_of.Never.{Never}
use Rattle.miniserde_enum.specs.declared.one_of.OneOf.TheVariants.{First, Later}
use Rattle.miniserde_enum.specs.Cases.{case_content}
use Rattle.miniserde_more.specs.Untagged.{first_content, first_of, FirstReads}
use Rattle.miniserde_more.specs.Kinds.{Kinds, OfKinds, tree_kind, no_kinds, either_kinds}

-- ---- by the two contents

-- the first variant's content comes of the first content alone
pub first-iff : {C D : Type 0} (o : Option C) (p : Option D) (c : C)
    → (o ≡ Some c) ↔ (first_content o p ≡ Some (First c))
first-iff (Some d) p c = (λ e. cc, λ e. cc)
first-iff None None c = (λ e. absurd (cc), λ e. absurd (cc))
first-iff None (Some d) c = (λ e. absurd (cc), λ e. absurd (cc))

-- a later variant's content comes of the second content, without a first one
pub later-iff : {C D : Type 0} (o : Option C) (p : Option D) (d : D)
    → ((o ≡ None) × (p ≡ Some d)) ↔ (first_content o p ≡ Some (Later d))
later-iff (Some c) p d = (λ h. let e = h.0 in absurd (cc), λ e. absurd (cc))
later-iff None None d = (λ h. let e = h.1 in absurd (cc), λ e. absurd (cc))
later-iff None (Some b) d = (λ h. let e = h.1 in cc, λ e. (refl, cc))

-- ---- by the meanings of the parts

module _ {T W C D : Type 0} (one : Tree → T → Type 0) (of : Tree → Option C) (content : T → C)
    (one_agrees : (t : Tree) (x : T) → one t x ↔ (of t ≡ Some (content x))) (later : Tree → W → Type 0)
    (later_of : Tree → Option D) (content_w : W → D)
    (later_agrees : (t : Tree) (w : W) → later t w ↔ (later_of t ≡ Some (content_w w))) where
  pub first-agrees : (t : Tree) (v : OneOf T W)
      → FirstReads one of later t v ↔ (first_of of later_of t ≡ Some (case_content content content_w v))
  first-agrees t (First x) =
      let p = one_agrees t x in
      let q = first-iff (of t) (later_of t) (content x) in
      (λ h. q.0 (p.0 h), λ e. p.1 (q.1 e))
  first-agrees t (Later w) =
      let p = later_agrees t w in
      let q = later-iff (of t) (later_of t) (content_w w) in
      (λ h. q.0 (h.0, p.0 h.1), λ e. let h = q.1 e in (h.0, p.1 h.1))

-- ---- kinds

-- neither of two is true if their disjunction is false
neither : (a b : Bool) → (a || b) ≡ false → (a ≡ false) × (b ≡ false)
neither true b e = absurd (cc)
neither false b e = (refl, e)

-- what gives contents for some kinds alone, and what does for others, give the first content for the kinds of both
pub of-first : {C D : Type 0} (a b : Kinds) (f : Tree → Option C) (g : Tree → Option D) → OfKinds a f → OfKinds b g
    → OfKinds (either_kinds a b) (first_of f g)
of-first a b f g h k =
    record { none = λ t e. let n = neither (a (tree_kind t)) (b (tree_kind t)) e in rw (h.none t n.0, k.none t n.1) refl }

-- no variant is of no kind
pub of-none : OfKinds {C = Never} no_kinds (λ t. None)
of-none = record { none = λ t e. refl }
