-- A tree means a value of an enum exactly if it gives the value's content.
use Rattle.std.proofs.Common.{◌≡◌, Bool, true, false, cond, not, ◌&&◌, List, [], ◌∷◌, Option, Some, None, refl, sym, ap, subst}
use Rattle.std.specs.Prelude.{◌↔◌, option_map, option_and_then, bytes_eq}
use Rattle.std.proofs.lemmas.Slice.Eq.{bytes_eq-Decides}
use Rattle.miniserde_model.specs.Tree.{Tree}
use Rattle.miniserde_read.specs.types.Objects.{Name}
use Rattle.miniserde_record.specs.Structs.{is_new, are_distinct}
use Rattle.miniserde_enum.specs.declared.one_of.OneOf.{OneOf}
use Rattle.miniserde_enum.specs.declared.one_of.OneOf.TheVariants.{First, Later}
use Rattle.miniserde_enum.specs.Tagging.{Tagging, variant_of_tree, content_by_tagging}
use Rattle.miniserde_enum.specs.laws.Tagging.{tagging-agrees}
use Rattle.miniserde_enum.specs.Cases.{variant_content, unit_content, data_content, CaseReads, UnitReads, DataReads, case_content}

-- ---- names

-- the test of equality holds for a name and itself
pub same-name : (n : Name) → bytes_eq n n ≡ true
same-name n = (bytes_eq-Decides n n).1 refl

-- if the test of equality holds for two names, they are equal
pub is-name : (k n : Name) → bytes_eq k n ≡ true → k ≡ n
is-name k n e = (bytes_eq-Decides k n).0 e

-- if a conjunction is true, both of its parts are
pub both : (a b : Bool) → (a && b) ≡ true → (a ≡ true) × (b ≡ true)
both true b h = (refl, h)
both false b h = absurd (cc)

-- a name that is new among k and ks differs from k and is new among ks
pub new-first : (n k : Name) (ks : List Name) → is_new n (k ∷ ks) ≡ true → (bytes_eq n k ≡ false) × (is_new n ks ≡ true)
new-first n k ks h =
    let p = both (not (bytes_eq n k)) (is_new n ks) h in
    (elim (bytes_eq n k) as (λ b. not b ≡ true → b ≡ false) [ true ↦ λ e. absurd (cc) | false ↦ λ e. refl ] p.0, p.1)

pub distinct-first : (n : Name) (ns : List Name) → are_distinct (n ∷ ns) ≡ true → (is_new n ns ≡ true) × (are_distinct ns ≡ true)
distinct-first n ns h = both (is_new n ns) (are_distinct ns) h

-- ---- tests and options

-- if `cond b x None` is c, then b is true and x is c
pub cond-some : {C : Type 0} (b : Bool) (x : Option C) (c : C) → cond b x None ≡ Some c → (b ≡ true) × (x ≡ Some c)
cond-some true x c e = (refl, e)
cond-some false x c e = absurd (cc)

-- the content by one name: what `given` returns for the data o if the name k is n, and none if it is another
abbrev pub if_named : {C : Type 0} → (Option Tree → Option C) → Name → Name → Option Tree → Option C
if_named given n k o = cond (bytes_eq k n) (given o) None

-- ---- by a name and its data

-- at each name and data, f returns a exactly if g returns b
pub record AgreeAtNames {A B : Type 0} (f : Name → Option Tree → Option A) (g : Name → Option Tree → Option B)
    (a : A) (b : B) : Type 0 where
  pub at_name : (k : Name) (o : Option Tree) → (f k o ≡ Some a) ↔ (g k o ≡ Some b)

-- two functions that agree at each name and data agree at each tree
pub tagging-iff : {A B : Type 0} {f : Name → Option Tree → Option A} {g : Name → Option Tree → Option B} {a : A} {b : B}
    (tagging : Tagging) → AgreeAtNames f g a b → (t : Tree)
    → (content_by_tagging tagging f t ≡ Some a) ↔ (content_by_tagging tagging g t ≡ Some b)
tagging-iff {A} {B} {f = f} {g = g} {a = a} {b = b} tagging agree t =
    elim (variant_of_tree tagging t)
    as (λ o. (◌≡◌ {A = Option A} (option_and_then (λ s. f s.0 s.1) o) (Some a))
    ↔ (◌≡◌ {A = Option B} (option_and_then (λ s. g s.0 s.1) o) (Some b)))
    [ None ↦ (λ e. absurd (cc), λ e. absurd (cc)) | Some s ↦ agree.at_name s.0 s.1 ]

-- a tree gives no content if no name and data do
pub tagging-none : {A : Type 0} (tagging : Tagging) (a : A) (t : Tree) → content_by_tagging tagging (λ k o. None) t ≡ Some a → ⊥
tagging-none {A} tagging a t =
    elim (variant_of_tree tagging t) as (λ o. ◌≡◌ {A = Option A} (option_and_then (λ s. None) o) (Some a) → ⊥)
    [ None ↦ λ e. cc | Some s ↦ λ e. cc ]

-- ---- a variant without data

unit-at : (n k : Name) (o : Option Tree) → (◌≡◌ {A = Option (Name × Option Tree)} (Some (k, o)) (Some (n, None)))
    ↔ (if_named unit_content n k o ≡ Some tt)
unit-at n k None = (
  λ e. let i : ◌≡◌ {A = Name × Option Tree} (k, None) (n, None) = cc in rw (ap (λ z. z.0) i, same-name n) refl,
  λ e. ap (λ z. Some (z, None)) (is-name k n (cond-some (bytes_eq k n) (Some tt) tt e).0),
)
unit-at n k (Some t) = (
  λ e. let i : ◌≡◌ {A = Name × Option Tree} (k, Some t) (n, None) = cc in let j = ap (λ z. z.1) i in absurd (cc),
  λ e. let p = (cond-some (bytes_eq k n) None tt e).1 in absurd (cc),
)

unit-found : (n : Name) (o : Option (Name × Option Tree)) → (o ≡ Some (n, None))
    ↔ (option_and_then (λ s. if_named unit_content n s.0 s.1) o ≡ Some tt)
unit-found n None = (λ e. absurd (cc), λ e. absurd (cc))
unit-found n (Some s) = unit-at n s.0 s.1

-- by the tagging, the tree t is the variant n without data exactly if it gives the content of that variant
pub unit-agrees : (tagging : Tagging) (n : Name) (t : Tree) (u : Unit {0}) → UnitReads tagging n t u
    ↔ (content_by_tagging tagging (if_named unit_content n) t ≡ Some tt)
unit-agrees tagging n t u =
    let is = tagging-agrees tagging t n None in
    let found = unit-found n (variant_of_tree tagging t) in
    (λ h. found.0 (is.0 h), λ e. is.1 (found.1 e))

-- ---- a variant with data

module _ {T C : Type 0} (reads : Tree → T → Type 0) (of : Tree → Option C) (content : T → C)
    (agrees : (t : Tree) (x : T) → reads t x ↔ (of t ≡ Some (content x))) where
  data-at : (n k : Name) (o : Option Tree) (x : T)
      → ((u : Tree) × (◌≡◌ {A = Option (Name × Option Tree)} (Some (k, o)) (Some (n, Some u))) × reads u x)
      ↔ (if_named (data_content of) n k o ≡ Some (content x))
  data-at n k None x = (
    λ h. let i : ◌≡◌ {A = Name × Option Tree} (k, None) (n, Some h.0) = cc (h.1) in let j = ap (λ z. z.1) i in absurd (cc),
    λ e. let p = (cond-some (bytes_eq k n) None (content x) e).1 in absurd (cc),
  )
  data-at n k (Some t) x = (
    λ h.
        let i : ◌≡◌ {A = Name × Option Tree} (k, Some t) (n, Some h.0) = cc (h.1) in
        let j : t ≡ h.0 = cc (ap (λ z. z.1) i) in
        rw (ap (λ z. z.0) i, same-name n, j) ((agrees h.0 x).0 h.2),
    λ e.
        let p = cond-some (bytes_eq k n) (of t) (content x) e in
        (t, ap (λ z. Some (z, Some t)) (is-name k n p.0), (agrees t x).1 p.1),
  )

  data-found : (n : Name) (o : Option (Name × Option Tree)) (x : T)
      → ((u : Tree) × (o ≡ Some (n, Some u)) × reads u x)
      ↔ (option_and_then (λ s. if_named (data_content of) n s.0 s.1) o ≡ Some (content x))
  data-found n None x = (λ h. let e = h.1 in absurd (cc), λ e. absurd (cc))
  data-found n (Some s) x = data-at n s.0 s.1 x

  pub data-agrees : (tagging : Tagging) (n : Name) (t : Tree) (x : T) → DataReads reads tagging n t x
      ↔ (content_by_tagging tagging (if_named (data_content of) n) t ≡ Some (content x))
  data-agrees tagging n t x =
      let found = data-found n (variant_of_tree tagging t) x in (
        λ h. found.0 (h.0, (tagging-agrees tagging t n (Some h.0)).0 h.1, h.2),
        λ e. let h = found.1 e in (h.0, (tagging-agrees tagging t n (Some h.0)).1 h.1, h.2),
      )

-- ---- variant by variant

module _ {T W C D : Type 0} (given : Option Tree → Option C) (one : Tagging → Name → Tree → T → Type 0)
    (content : T → C) (one_agrees : (tagging : Tagging) (n : Name) (t : Tree) (x : T) → one tagging n t x
    ↔ (content_by_tagging tagging (if_named given n) t ≡ Some (content x)))
    (later : List Name → Name → Option Tree → Option D) (reads : Tagging → List Name → Tree → W → Type 0)
    (content_w : W → D) (fresh : (ns : List Name) (n : Name) (o : Option Tree) → is_new n ns ≡ true
    → later ns n o ≡ None) (agrees : (tagging : Tagging) (ns : List Name) → are_distinct ns ≡ true
    → (t : Tree) (w : W) → reads tagging ns t w
    ↔ (content_by_tagging tagging (later ns) t ≡ Some (content_w w))) where
  pub case-fresh : (ns : List Name) (n : Name) (o : Option Tree) → is_new n ns ≡ true → variant_content given later ns n o ≡ None
  case-fresh [] n o h = refl
  case-fresh (m ∷ ms) n o h = let p = new-first n m ms h in rw (p.0, fresh ms n o p.1) refl

  first-at : (n : Name) (ns : List Name) (x : T) (k : Name) (o : Option Tree)
      → (if_named given n k o ≡ Some (content x))
      ↔ (variant_content given later (n ∷ ns) k o ≡ Some (First (content x)))
  first-at n ns x k o = elim (bytes_eq k n)
      as (λ b. (cond b (given o) None ≡ Some (content x))
      ↔ (cond b (option_map First (given o)) (option_map Later (later ns k o)) ≡ Some (First (content x)))) [
        | true ↦ elim (given o) as (λ g. (g ≡ Some (content x))
            ↔ (◌≡◌ {A = Option (OneOf C D)} (option_map First g) (Some (First (content x)))))
            [ None ↦ (λ e. absurd (cc), λ e. absurd (cc)) | Some c ↦ (λ e. cc, λ e. cc) ]
        | false ↦ elim (later ns k o)
            as (λ g. (◌≡◌ {A = Option C} None (Some (content x)))
            ↔ (◌≡◌ {A = Option (OneOf C D)} (option_map Later g) (Some (First (content x)))))
            [ None ↦ (λ e. absurd (cc), λ e. absurd (cc)) | Some c ↦ (λ e. absurd (cc), λ e. absurd (cc)) ]
      ]

  pub later-none : (n : Name) (ns : List Name) (w : W) (k : Name) (o : Option Tree) → is_new n ns ≡ true
      → bytes_eq k n ≡ true → later ns k o ≡ Some (content_w w) → ⊥
  later-none n ns w k o f h e =
      let i = is-name k n h in
      let g : later ns k o ≡ None = subst (λ z. later ns z o ≡ None) (sym i) (fresh ns n o f) in
      cc

  later-at : (n : Name) (ns : List Name) (w : W) → is_new n ns ≡ true → (k : Name) (o : Option Tree)
      → (later ns k o ≡ Some (content_w w))
      ↔ (variant_content given later (n ∷ ns) k o ≡ Some (Later (content_w w)))
  later-at n ns w f k o = elim (bytes_eq k n)
      as (λ b. bytes_eq k n ≡ b → (later ns k o ≡ Some (content_w w))
      ↔ (cond b (option_map First (given o)) (option_map Later (later ns k o)) ≡ Some (Later (content_w w)))) [
        | true ↦ λ h. (
          λ e. absurd (later-none n ns w k o f h e),
          elim (given o) as (λ g. ◌≡◌ {A = Option (OneOf C D)} (option_map First g) (Some (Later (content_w w)))
              → later ns k o ≡ Some (content_w w)) [ None ↦ λ e. absurd (cc) | Some c ↦ λ e. absurd (cc) ],
        )
        | false ↦ λ h. elim (later ns k o)
            as (λ g. (g ≡ Some (content_w w))
            ↔ (◌≡◌ {A = Option (OneOf C D)} (option_map Later g) (Some (Later (content_w w)))))
            [ None ↦ (λ e. absurd (cc), λ e. absurd (cc)) | Some c ↦ (λ e. cc, λ e. cc) ]
      ] refl

  pub case-agrees : (tagging : Tagging) (ns : List Name) → are_distinct ns ≡ true → (t : Tree) (v : OneOf T W)
      → CaseReads (one tagging) (reads tagging) ns t v
      ↔ (content_by_tagging tagging (variant_content given later ns) t ≡ Some (case_content content content_w v))
  case-agrees tagging [] d t v = (λ h. absurd h, λ e. absurd (tagging-none tagging (case_content content content_w v) t e))
  case-agrees tagging (n ∷ ns) d t (First x) =
      let p = one_agrees tagging n t x in
      let same : AgreeAtNames (if_named given n) (variant_content given later (n ∷ ns)) (content x) (First (content x)) =
      record { at_name = first-at n ns x } in
      let q = tagging-iff tagging same t in
      (λ h. q.0 (p.0 h), λ e. p.1 (q.1 e))
  case-agrees tagging (n ∷ ns) d t (Later w) =
      let f = distinct-first n ns d in
      let p = agrees tagging ns f.1 t w in
      let same : AgreeAtNames (later ns) (variant_content given later (n ∷ ns)) (content_w w) (Later (content_w w)) =
      record { at_name = later-at n ns w f.0 } in
      let q = tagging-iff tagging same t in
      (λ h. q.0 (p.0 h), λ e. p.1 (q.1 e))
