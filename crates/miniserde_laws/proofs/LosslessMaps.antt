-- Maps with the same members have the same content at each code. An entry is found at its name in the members, so the
-- other map has an entry with an equal code and an equal value (`like`); this gives the result for sorted maps
-- (`one_sorted`) and for hash maps (`one_hashed`).
use Rattle.std.proofs.Common.{◌≡◌, Bool, true, false, cond, List, [], ◌∷◌, Option, Some, None, refl, sym, ap, ◌∙◌, subst, inl, inr, arith}
use Rattle.std.specs.Prelude.{option_map, bytes_eq, Contains}
use Rattle.std.specs.Map.{keys_of}
use Rattle.std.specs.List.{AllByRecursion, IsDistinct}
use Rattle.std.specs.List.Sorted.{IsStrictlySortedBy}
use Rattle.std.specs.Ordering.{is_eq}
use Rattle.std.specs.declared.cmp.Ordering.{Ordering}
use Rattle.std.proofs.lemmas.Option.{same_Some}
use Rattle.std.proofs.lemmas.List.Elements.{All-contains, All-from_recursion}
use Rattle.std.proofs.lemmas.Map.Keys.{IsDistinct-from_sorted}
use Rattle.miniserde_model.specs.Tree.{Tree, Members, no_members, member, members}
use Rattle.miniserde_model.specs.Normal.{or_else, last_of}
use Rattle.miniserde_model.proofs.Lookups.{last_with_first}
use Rattle.miniserde_keys.specs.Keys.{Key}
use Rattle.miniserde_keys.specs.laws.Keys.{ReadsBack}
use Rattle.miniserde_read.specs.types.Objects.{Name}
use Rattle.miniserde_read.specs.types.Maps.{entry_at, map_content}
use Rattle.miniserde_read.proofs.Entries.{same, equal_if_tested, tested_if_equal, contains-cases, contains-first, contains-later}
use Rattle.miniserde_read.proofs.Entries.{found, at-contained}
use Rattle.miniserde_ser.specs.Trees.{members_of, in_order}
use Rattle.miniserde_laws.specs.RoundTrip.{IsLossless}

-- the order of members doesn't count for what stands at a name
last_in_order : (q : Name) (ms : Members) → last_of q (in_order ms) ≡ last_of q ms
last_in_order q no_members = refl
last_in_order q (member n t ms) =
    last_with_first q n t (in_order ms) ∙ ap (λ o. or_else o (cond (bytes_eq n q) (Some t) None))
    (last_in_order q ms)

either : {A : Type 0} (a b : Option A) → ((x : A) → a ≡ Some x → b ≡ Some x) → ((x : A) → b ≡ Some x → a ≡ Some x) → a ≡ b
either None None p q = refl
either None (Some x) p q = q x refl
either (Some x) b p q = sym (p x refl)

module _ {K V C : Type 0} (read : Name → Option Key) (code : Key → Key) (content : K → Key) (text : K → Name)
    (f : V → Tree) (value : V → C) (key_valid : K → Type 0) (valid : V → Type 0)
    (back : ReadsBack key_valid content code read text)
    (injective : (a b : K) → code (content a) ≡ code (content b) → content a ≡ content b)
    (lossless : IsLossless valid f value) where
  abbrev pub code_of : K → Key
  code_of k = code (content k)

  abbrev Part : K × V → Type 0
  Part e = key_valid e.0 × valid e.1

  abbrev Alone : List (K × V) → Type 0
  Alone es = IsDistinct (same code_of) (keys_of es)

  -- at each name the same tree stands
  abbrev Alike : List (K × V) → List (K × V) → Type 0
  Alike es fs = (n : Name) → last_of n (members_of text f es) ≡ last_of n (members_of text f fs)

  part : (es : List (K × V)) (e : K × V) → AllByRecursion Part es → Contains es e → Part e
  part es e p c = All-contains Part es e (All-from_recursion Part es p) c

  -- keys with one text have one code
  one_code : (a b : K) → key_valid a → key_valid b → text a ≡ text b → code_of a ≡ code_of b
  one_code a b p q e =
      let c = back a p in
      let d = back b q in
      let read_same : Some (content c.0) ≡ Some (content d.0) = sym c.2 ∙ ap read e ∙ d.2 in
      sym c.3 ∙ ap code (same_Some _ _ read_same) ∙ d.3

  -- something stands at the name of an entry
  stands : (e : K × V) (es : List (K × V)) → Contains es e → (t : Tree) × (last_of (text e.0) (members_of text f es) ≡ Some t)
  stands e [] c = absurd (omega (arith, c.1))
  stands e (d ∷ es) c = elim (contains-cases d e es c) as (λ _. (t : Tree) × (last_of (text e.0) (members_of text f (d ∷ es)) ≡ Some t)) [
    | inl s ↦ elim (last_of (text e.0) (members_of text f es))
        as (λ o. (t : Tree) × (or_else o (cond (bytes_eq (text d.0) (text e.0)) (Some (f d.1)) None) ≡ Some t)) [
          | None ↦ (f d.1, rw (tested_if_equal (text d.0) (text e.0) (ap (λ z. text z.0) s)) refl)
          | Some t ↦ (t, refl)
        ]
    | inr m ↦ let r = stands e es m in (r.0, rw r.1 refl)
  ]

  -- what stands at a name is the value of an entry
  entry_of : (n : Name) (es : List (K × V)) (t : Tree) → last_of n (members_of text f es) ≡ Some t
      → (e : K × V) × Contains es e × (text e.0 ≡ n) × (f e.1 ≡ t)
  entry_of n [] t s = absurd (cc)
  entry_of n (d ∷ es) t s =
      elim (last_of n (members_of text f es))
      as (λ o. last_of n (members_of text f es) ≡ o → or_else o (cond (bytes_eq (text d.0) n) (Some (f d.1)) None)
      ≡ Some t → (e : K × V) × Contains (d ∷ es) e × (text e.0 ≡ n) × (f e.1 ≡ t)) [
        | None ↦ λ r. elim (bytes_eq (text d.0) n)
            as (λ b. bytes_eq (text d.0) n ≡ b → cond b (Some (f d.1)) None ≡ Some t
            → (e : K × V) × Contains (d ∷ es) e × (text e.0 ≡ n) × (f e.1 ≡ t)) [
              | true ↦ λ b h. (d, contains-first d es, equal_if_tested _ _ b, same_Some _ _ h)
              | false ↦ λ b h. absurd (cc)
            ] refl
        | Some u ↦ λ r h. let e = entry_of n es t (r ∙ h) in (e.0, contains-later d e.0 es e.1, e.2, e.3)
      ] refl s

  -- an entry has its like in the other map
  like : (es fs : List (K × V)) → AllByRecursion Part es → AllByRecursion Part fs → Alone es → Alike es fs
      → (e : K × V) → Contains es e → (g : K × V) × Contains fs g × (code_of g.0 ≡ code_of e.0)
      × (value g.1 ≡ value e.1)
  like es fs p q d a e c =
      let s = stands e es c in
      let o = entry_of (text e.0) es s.0 s.1 in
      let g = entry_of (text e.0) fs s.0 (sym (a (text e.0)) ∙ s.1) in
      let r = part es e p c in
      let there = part fs g.0 q g.1 in
      let own : o.0 ≡ e = same_Some _ _
      (sym (at-contained code_of (code_of e.0) es o.0 d o.1 (one_code o.0.0 e.0 (part es o.0 p o.1).0 r.0 o.2))
      ∙ at-contained code_of (code_of e.0) es e d c refl) in
      (g.0, g.1, one_code g.0.0 e.0 there.0 r.0 g.2, lossless g.0.1 e.1 there.1 r.1 (g.3 ∙ sym o.3 ∙ ap (λ z. f z.1) own))

  like_found : (es fs : List (K × V)) → AllByRecursion Part es → AllByRecursion Part fs → Alone es → Alone fs
      → Alike es fs → (q : Key) (x : Key × C) → map_content code content value es q ≡ Some x
      → map_content code content value fs q ≡ Some x
  like_found es fs p r d b a q x s =
      elim (entry_at code_of q es)
      as (λ o. entry_at code_of q es ≡ o → option_map {U = Key × C} (λ e. (content e.0, value e.1)) o ≡ Some x
      → map_content code content value fs q ≡ Some x) [
        | None ↦ λ n s. absurd (cc)
        | Some e ↦ λ n s.
            let m = found code_of q es e n in
            let g = like es fs p r d a e m.0 in
            rw (at-contained code_of q fs g.0 b g.1 (g.2 ∙ m.1), injective g.0.0 e.0 g.2, g.3) s
      ] refl s

  same_content : (es fs : List (K × V)) → AllByRecursion Part es → AllByRecursion Part fs → Alone es → Alone fs
      → Alike es fs → map_content code content value es ≡ map_content code content value fs
  same_content es fs p r d b a =
      λ i q. either (map_content code content value es q) (map_content code content value fs q)
      (like_found es fs p r d b a q) (like_found fs es r p b d (λ n. sym (a n)) q) i

  -- ---- ordered by their keys

  module _ (cmp : K → K → Ordering) (agrees : (a b : K) → is_eq (cmp a b) ≡ bytes_eq (code (content a)) (code (content b))) where
    sorted_alone : (es : List (K × V)) → IsStrictlySortedBy cmp (keys_of es) → Alone es
    sorted_alone es o = subst (λ r. IsDistinct r (keys_of es)) (λ i a b. agrees a b i) (IsDistinct-from_sorted cmp (keys_of es) o)

    pub one_sorted : (es fs : List (K × V)) → IsStrictlySortedBy cmp (keys_of es) × AllByRecursion Part es
        → IsStrictlySortedBy cmp (keys_of fs) × AllByRecursion Part fs
        → members (members_of text f es) ≡ members (members_of text f fs)
        → map_content code content value es ≡ map_content code content value fs
    one_sorted es fs p q e =
        let same : members_of text f es ≡ members_of text f fs = cc in
        same_content es fs p.1 q.1 (sorted_alone es p.0) (sorted_alone fs q.0) (λ n. ap (last_of n) same)

  -- ---- hashed

  module _ (eq : K → K → Bool) (agrees : (a b : K) → eq a b ≡ bytes_eq (code (content a)) (code (content b))) where
    hashed_alone : (es : List (K × V)) → IsDistinct eq (keys_of es) → Alone es
    hashed_alone es d = subst (λ r. IsDistinct r (keys_of es)) (λ i a b. agrees a b i) d

    pub one_hashed : (es fs : List (K × V)) → IsDistinct eq (keys_of es) × AllByRecursion Part es
        → IsDistinct eq (keys_of fs) × AllByRecursion Part fs → members (in_order (members_of text f es))
        ≡ members (in_order (members_of text f fs)) → map_content code content value es ≡ map_content code content
        value fs
    one_hashed es fs p q e =
        let same : in_order (members_of text f es) ≡ in_order (members_of text f fs) = cc in
        same_content es fs p.1 q.1 (hashed_alone es p.0) (hashed_alone fs q.0)
        (λ n. sym (last_in_order n (members_of text f es)) ∙ ap (last_of n) same ∙ last_in_order n
        (members_of text f fs))
