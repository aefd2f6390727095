-- If no two names are equal, an enum has its round trip and its tree is injective. Each lemma is one step of the
-- recursion over the variants: the first name differs from the later ones, so no tree is read as two variants.
use Rattle.std.proofs.Common.{◌≡◌, ℕ, ◌+◌, true, false, ◌&&◌, nat_eq, List, [], ◌∷◌, length, Option, Some, None}
use Rattle.std.proofs.Common.{refl, sym, ap, subst, ◌∙◌, true≢false}
use Rattle.std.proofs.lemmas.Option.{same_Some}
use Rattle.std.specs.Prelude.{◌↔◌, bytes_eq, option_and_then, ⊤}
use Rattle.miniserde_model.specs.Tree.{Tree}
use Rattle.miniserde_read.specs.types.Objects.{Name}
use Rattle.miniserde_laws.specs.RoundTrip.{RoundTrips}
use Rattle.miniserde_record.specs.Structs.{is_new, are_distinct, are_names}
use Rattle.miniserde_laws.proofs.Fields.{more_names, no_names}
use Rattle.miniserde_enum.specs.declared.one_of.OneOf.{OneOf}
use Rattle.miniserde_enum.specs.declared.one_of.OneOf.TheVariants.{First, Later}
use Rattle.miniserde_enum.specs.Tagging.{Tagging, variant_of_tree, variant_tree, content_by_tagging}
use Rattle.miniserde_enum.specs.Cases.{CaseReads, UnitReads, DataReads, CaseValid, case_tree, unit_tree, data_tree}
use Rattle.miniserde_enum.specs.Cases.{UnitFits, DataFits, case_content}
use Rattle.miniserde_enum.specs.laws.Tagging.{tagging-agrees}
use Rattle.miniserde_enum.specs.laws.Cases.{if_named, cond-some, later-none, same-name, new-first}

-- so many names are distinct
pub names_distinct : (k : ℕ) (ns : List Name) → are_names k ns ≡ true → are_distinct ns ≡ true
names_distinct k ns h = elim (nat_eq (length ns) k) as (λ b. (b && are_distinct ns) ≡ true → are_distinct ns ≡ true)
    [ true ↦ λ e. e | false ↦ λ e. absurd (cc) ] h

-- ---- one variant

-- the tree of the variant n without data means a value, and each value that it means has that tree
pub unit-round_trips : (tagging : Tagging) → UnitFits tagging → (n : Name) (x : Unit {0}) → ⊤
    → RoundTrips (λ (u : Unit {0}). ⊤) (unit_tree tagging n) (UnitReads tagging n) (unit_tree tagging n x)
unit-round_trips tagging f n x r = ((tt, tt, (tagging-agrees tagging (variant_tree tagging n None) n None).1 (f n)), λ y s e. refl)

module _ {T : Type 0} (valid : T → Type 0) (tree : T → Tree) (reads : Tree → T → Type 0)
    (round_trips : (x : T) → valid x → RoundTrips valid tree reads (tree x)) (tagging : Tagging)
    (f : DataFits valid tree tagging) where
  pub data-round_trips : (n : Name) (x : T) → valid x
      → RoundTrips valid (data_tree tagging tree n) (DataReads reads tagging n) (data_tree tagging tree n x)
  data-round_trips n x r =
      let a = round_trips x r in
      let t = variant_tree tagging n (Some (tree x)) in (
        (a.0.0, a.0.1, (tree x, (tagging-agrees tagging t n (Some (tree x))).1 (f n x r), a.0.2)),
        λ y s e.
            let i = same_Some _ _ (sym ((tagging-agrees tagging t n (Some e.0)).0 e.1) ∙ f n x r) in
            let j = same_Some _ _ (ap (λ z. z.1) i) in
            ap (λ z. variant_tree tagging n (Some z)) (a.1 y s (subst (λ z. reads z y) j e.2)),
      )

-- ---- variant by variant

tagging-apart : {A B : Type 0} (tagging : Tagging) (f : Name → Option Tree → Option A)
    (g : Name → Option Tree → Option B) (a : A) (b : B)
    → ((k : Name) (o : Option Tree) → f k o ≡ Some a → g k o ≡ Some b → ⊥) → (t : Tree)
    → content_by_tagging tagging f t ≡ Some a → content_by_tagging tagging g t ≡ Some b → ⊥
tagging-apart {A} {B} tagging f g a b h t =
    elim (variant_of_tree tagging t) as (λ o. (◌≡◌ {A = Option A} (option_and_then (λ s. f s.0 s.1) o) (Some a))
    → (◌≡◌ {A = Option B} (option_and_then (λ s. g s.0 s.1) o) (Some b)) → ⊥)
    [ None ↦ λ p q. cc | Some s ↦ h s.0 s.1 ]

module _ {T W C D : Type 0} (given : Option Tree → Option C) (one : Tagging → Name → Tree → T → Type 0)
    (content : T → C) (one_agrees : (tagging : Tagging) (n : Name) (t : Tree) (x : T) → one tagging n t x
    ↔ (content_by_tagging tagging (if_named given n) t ≡ Some (content x)))
    (later : List Name → Name → Option Tree → Option D) (reads : Tagging → List Name → Tree → W → Type 0)
    (content_w : W → D) (fresh : (ns : List Name) (n : Name) (o : Option Tree) → is_new n ns ≡ true
    → later ns n o ≡ None) (agrees : (tagging : Tagging) (ns : List Name) → are_distinct ns ≡ true
    → (t : Tree) (w : W) → reads tagging ns t w
    ↔ (content_by_tagging tagging (later ns) t ≡ Some (content_w w))) (tagging : Tagging) where
  apart : (n : Name) (ns : List Name) (t : Tree) (x : T) (w : W) → is_new n ns ≡ true → are_distinct ns ≡ true
      → one tagging n t x → reads tagging ns t w → ⊥
  apart n ns t x w f d a b =
      tagging-apart tagging (if_named given n) (later ns) (content x) (content_w w)
      (λ k o p q. later-none given one content one_agrees later reads content_w fresh agrees n ns w k o f
      (cond-some (bytes_eq k n) (given o) (content x) p).0 q)
      t ((one_agrees tagging n t x).0 a) ((agrees tagging ns d t w).0 b)

  module _ (valid : T → Type 0) (tree : Name → T → Tree)
      (first : (n : Name) (x : T) → valid x → RoundTrips valid (tree n) (one tagging n) (tree n x))
      (valid_w : W → Type 0) (tree_w : List Name → W → Tree) (count : ℕ)
      (round_trips : (names : List Name) (w : W) → are_names count names ≡ true → valid_w w
      → RoundTrips valid_w (tree_w names) (reads tagging names) (tree_w names w)) where
    pub case-round_trips : (names : List Name) (v : OneOf T W) → are_names (count + 1) names ≡ true
        → CaseValid valid valid_w v → RoundTrips (CaseValid valid valid_w) (case_tree tree tree_w names)
        (CaseReads (one tagging) (reads tagging) names) (case_tree tree tree_w names v)
    case-round_trips [] v f r = absurd (no_names count f)
    case-round_trips (n ∷ ns) (First x) f r =
        let p = more_names count n ns f in
        let a = first n x r in (
          (First a.0.0, a.0.1, a.0.2),
          λ v. elim v as (λ v. CaseValid valid valid_w v → CaseReads (one tagging) (reads tagging) (n ∷ ns) (tree n x)
              v → case_tree tree tree_w (n ∷ ns) v ≡ tree n x) [
                | First y ↦ λ s e. a.1 y s e
                | Later w ↦ λ s e. absurd (apart n ns (tree n x) a.0.0 w p.0 (names_distinct count ns p.1) a.0.2 e)
              ],
        )
    case-round_trips (n ∷ ns) (Later w) f r =
        let p = more_names count n ns f in
        let b = round_trips ns w p.1 r in (
          (Later b.0.0, b.0.1, b.0.2),
          λ v. elim v as (λ v. CaseValid valid valid_w v
              → CaseReads (one tagging) (reads tagging) (n ∷ ns) (tree_w ns w) v
              → case_tree tree tree_w (n ∷ ns) v ≡ tree_w ns w) [
                | First y ↦ λ s e. absurd (apart n ns (tree_w ns w) y b.0.0 p.0 (names_distinct count ns p.1) e b.0.2)
                | Later u ↦ λ s e. b.1 u s e
              ],
        )

-- ---- the injective tree

-- data with one tree has one content, if the trees are the variants that they are written for
pub data-same : {T C : Type 0} (tagging : Tagging) (valid : T → Type 0) (tree : T → Tree)
    → DataFits valid tree tagging → (content : T → C)
    → ((x y : T) → valid x → valid y → tree x ≡ tree y → content x ≡ content y) → (n : Name) (x y : T) → valid x
    → valid y → data_tree tagging tree n x ≡ data_tree tagging tree n y → content x ≡ content y
data-same tagging valid tree f content same n x y r s e =
    let i = same_Some _ _ (sym (f n x r) ∙ ap (variant_of_tree tagging) e ∙ f n y s) in
    same x y r s (same_Some _ _ (ap (λ z. z.1) i))

module _ {T W C D : Type 0} (variant : Tree → Option (Name × Option Tree)) (content : T → C) (content_w : W → D)
    (valid : T → Type 0) (tree : Name → T → Tree)
    (name : (n : Name) (x : T) → valid x → (o : Option Tree) × (variant (tree n x) ≡ Some (n, o)))
    (first : (n : Name) (x y : T) → valid x → valid y → tree n x ≡ tree n y → content x ≡ content y)
    (valid_w : W → Type 0) (tree_w : List Name → W → Tree) (count : ℕ)
    (named : (names : List Name) (w : W) (n : Name) (o : Option Tree) → are_names count names ≡ true → valid_w w
    → is_new n names ≡ true → variant (tree_w names w) ≡ Some (n, o) → ⊥)
    (same : (names : List Name) (v w : W) → are_names count names ≡ true → valid_w v → valid_w w
    → tree_w names v ≡ tree_w names w → content_w v ≡ content_w w) where
  pub case-named : (names : List Name) (v : OneOf T W) (n : Name) (o : Option Tree)
      → are_names (count + 1) names ≡ true → CaseValid valid valid_w v → is_new n names ≡ true
      → variant (case_tree tree tree_w names v) ≡ Some (n, o) → ⊥
  case-named [] v n o f r h e = no_names count f
  case-named (m ∷ ms) (First x) n o f r h e =
      let i : m ≡ n = ap (λ z. z.0) (same_Some _ _ (sym (name m x r).1 ∙ e)) in
      let p = new-first n m ms h in
      true≢false (sym (same-name n) ∙ ap (bytes_eq n) (sym i) ∙ p.0)
  case-named (m ∷ ms) (Later w) n o f r h e = named ms w n o (more_names count m ms f).1 r (new-first n m ms h).1 e

  pub case-same : (names : List Name) (v w : OneOf T W) → are_names (count + 1) names ≡ true
      → CaseValid valid valid_w v → CaseValid valid valid_w w
      → case_tree tree tree_w names v ≡ case_tree tree tree_w names w
      → case_content content content_w v ≡ case_content content content_w w
  case-same [] v w f r s e = absurd (no_names count f)
  case-same (n ∷ ns) (First x) (First y) f r s e = ap First (first n x y r s e)
  case-same (n ∷ ns) (First x) (Later w) f r s e = let p = more_names count n ns f in let a =
      name n x r in absurd (named ns w n a.0 p.1 s p.0 (ap variant (sym e) ∙ a.1))
  case-same (n ∷ ns) (Later v) (First y) f r s e = let p = more_names count n ns f in let a =
      name n y s in absurd (named ns v n a.0 p.1 r p.0 (ap variant e ∙ a.1))
  case-same (n ∷ ns) (Later v) (Later w) f r s e = ap Later (same ns v w (more_names count n ns f).1 r s e)

-- ---- the enum of a variant's value

-- what holds of the values of the variants holds of the enum
pub enum-round_trips : {V W : Type 0} (valid : V → Type 0) (tree : V → Tree) (reads : Tree → V → Type 0)
    (values : W → V) (made : V → W) → ((x : V) → values (made x) ≡ x) → (v : W)
    → RoundTrips valid tree reads (tree (values v))
    → RoundTrips (λ v. valid (values v)) (λ v. tree (values v)) (λ t v. reads t (values v)) (tree (values v))
enum-round_trips valid tree reads values made same v a =
    let is = sym (same a.0.0) in (
      (made a.0.0, subst valid is a.0.1, subst (reads (tree (values v))) is a.0.2),
      λ w q h. a.1 (values w) q h,
    )
