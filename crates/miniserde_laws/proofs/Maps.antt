-- A map that was written is read as a map with the same members. Each key and each value is read back by its own
-- round trip (`read_of`), the member met at a code means the entry read there (`met_read`), and sorted or distinct
-- keys stay so (`sorted_read`, `unique_read`).
use Rattle.std.proofs.Common.{◌≡◌, ℕ, Bool, true, false, cond, List, [], ◌∷◌, Option, Some, None, refl, sym, ap}
use Rattle.std.proofs.Common.{ap₂, ◌∙◌, subst, true≢false}
use Rattle.std.specs.Prelude.{IsSome, bytes_eq}
use Rattle.std.specs.Map.{keys_of}
use Rattle.std.specs.Ordering.{is_eq, ordering_reverse}
use Rattle.std.specs.declared.cmp.Ordering.{Ordering}
use Rattle.std.specs.Cmp.{IsTotalOrder, Equal-is}
use Rattle.std.specs.List.{AllByRecursion, IsDistinct}
use Rattle.std.specs.List.Sorted.{IsStrictlySortedBy}
use Rattle.std.proofs.lemmas.List.Elements.{All-contains, All-from_recursion}
use Rattle.std.proofs.lemmas.Map.Keys.{IsDistinct-from_sorted}
use Rattle.miniserde_model.specs.Tree.{Tree, members}
use Rattle.miniserde_model.specs.Normal.{with_if_absent}
use Rattle.miniserde_keys.specs.Keys.{Key}
use Rattle.miniserde_keys.specs.laws.Keys.{ReadsBack}
use Rattle.miniserde_read.specs.types.Objects.{Name}
use Rattle.miniserde_read.specs.types.Maps.{key_meaning, first_and_last, first_and_last_at, AllAccepted, entry_at}
use Rattle.miniserde_read.specs.types.Maps.{EntryFits, MapReads}
use Rattle.miniserde_read.proofs.Entries.{same, equal_if_tested, tested_if_equal, found}
use Rattle.miniserde_ser.specs.Trees.{members_of, in_order}
use Rattle.miniserde_ser.proofs.Names.{distinct_names}
use Rattle.miniserde_ser.proofs.Ordered.{names}
use Rattle.miniserde_laws.specs.RoundTrip.{RoundTrips}
use Rattle.miniserde_laws.proofs.Agree.{written, Agree}
use Rattle.miniserde_laws.proofs.Sorted.{sorted_same}
use Rattle.miniserde_laws.proofs.Hashed.{hashed_same, taken_in_order, met_other, met_first}

module _ {K V C : Type 0} (read : Name → Option Key) (code : Key → Key) (content : K → Key) (text : K → List ℕ)
    (key_valid : K → Type 0) (valid : V → Type 0) (f : V → Tree) (of : Tree → Option C) (R : Tree → V → Type 0)
    (gives : (t : Tree) (v : V) → R t v → IsSome (of t)) (back : ReadsBack key_valid content code read text)
    (one_text : (a b : K) → code (content a) ≡ code (content b) → text a ≡ text b)
    (round_trips : (v : V) → valid v → RoundTrips valid f R (f v)) where
  abbrev code_of : K → Key
  code_of k = code (content k)

  -- each key and each value is one that Rust has
  abbrev Parts : List (K × V) → Type 0
  Parts es = AllByRecursion (λ e. key_valid e.0 × valid e.1) es

  -- the codes are distinct
  abbrev Alone : List (K × V) → Type 0
  Alone es = IsDistinct (same code_of) (keys_of es)

  -- the tree means the entries
  abbrev Reads : Tree → List (K × V) → Type 0
  Reads t es = MapReads (key_meaning read code content) of R t es

  -- ---- the entries that are read

  -- the key and the value that each entry reads as
  abbrev pub read_of : (es : List (K × V)) → Parts es → List (K × V)
  read_of [] h = []
  read_of (e ∷ es) h = ((back e.0 h.0.0).0, (round_trips e.1 h.0.1).0.0) ∷ read_of es h.1

  parts_read : (es : List (K × V)) (h : Parts es) → Parts (read_of es h)
  parts_read [] h = tt
  parts_read (e ∷ es) h = (((back e.0 h.0.0).1, (round_trips e.1 h.0.1).0.1), parts_read es h.1)

  key_parts : (es : List (K × V)) → Parts es → AllByRecursion (λ e. key_valid e.0) es
  key_parts [] h = tt
  key_parts (e ∷ es) h = (h.0.0, key_parts es h.1)

  -- their keys pass where keys of the same codes do
  keys_read : (P Q : K → Type 0) → ((k w : K) → code_of w ≡ code_of k → P k → Q w)
      → (es : List (K × V)) (h : Parts es) → AllByRecursion P (keys_of es)
      → AllByRecursion Q (keys_of (read_of es h))
  keys_read P Q move [] h a = tt
  keys_read P Q move (e ∷ es) h a = (move e.0 (back e.0 h.0.0).0 (back e.0 h.0.0).3 a.0, keys_read P Q move es h.1 a.1)

  -- ---- what is met at a code

  -- every member is taken
  taken : (es : List (K × V)) → Parts es → AllAccepted read of (members_of text f es)
  taken [] h = tt
  taken (e ∷ es) h =
      let v = (round_trips e.1 h.0.1).0 in
      (rw ((back e.0 h.0.0).2) refl, (gives (f e.1) v.0 v.2, taken es h.1))

  -- the entries have other codes
  abbrev Apart : Key → List (K × V) → Type 0
  Apart q es = AllByRecursion (λ k. bytes_eq (code_of k) q ≡ false) (keys_of es)

  -- no member is met there
  none_met : (q : Key) (es : List (K × V)) → Parts es → Apart q es → first_and_last_at read code q (members_of text f es) ≡ None
  none_met q [] h a = refl
  none_met q (e ∷ es) h a = let b = back e.0 h.0.0 in rw (b.2, b.3, a.0) (none_met q es h.1 a.1)

  -- with distinct codes, the rest has none of the first one's
  others_apart : (q : Key) (e : K × V) (es : List (K × V)) → Alone (e ∷ es) → code_of e.0 ≡ q → Apart q es
  unfolding IsDistinct
  others_apart q e es d s = go (keys_of es) d.0
    where
      go : (ks : List K) → AllByRecursion (λ k. bytes_eq (code_of e.0) (code_of k) ≡ false) ks
          → AllByRecursion (λ k. bytes_eq (code_of k) q ≡ false) ks
      go [] a = tt
      go (k ∷ ks) a = (
        elim (bytes_eq (code_of k) q) as (λ b. bytes_eq (code_of k) q ≡ b → b ≡ false) [
          | false ↦ λ b. refl
          | true ↦ λ b. absurd (true≢false (sym (tested_if_equal (code_of e.0) (code_of k) (s ∙ sym (equal_if_tested _ _ b))) ∙ a.0))
        ] refl,
        go ks a.1,
      )

  -- the members mean the entries that are read
  met_read : (q : Key) (es : List (K × V)) (h : Parts es) → Alone es
      → EntryFits content R (first_and_last_at read code q (members_of text f es)) (entry_at code_of q (read_of es h))
  unfolding IsDistinct
  met_read q [] h d = tt
  met_read q (e ∷ es) h d =
      let b = back e.0 h.0.0 in
      let v = (round_trips e.1 h.0.1).0 in
      rw b.2 (elim (bytes_eq (code_of b.0) q)
      as (λ c. bytes_eq (code_of b.0) q ≡ c
      → EntryFits content R (first_and_last (cond c (Some (content b.0)) None) (f e.1)
      (first_and_last_at read code q (members_of text f es)))
      (cond c (Some (b.0, v.0)) (entry_at code_of q (read_of es h.1)))) [
        | true ↦ λ c. rw (none_met q es h.1 (others_apart q e es d (sym b.3 ∙ equal_if_tested _ _ c))) (refl, v.2)
        | false ↦ λ c. met_read q es h.1 d.1
      ] refl)

  -- ---- each entry that the members mean is written as they are

  -- where one member was met
  one_written : (q : Key) (e : K × V) (k : Key) → valid e.1 → code_of e.0 ≡ q → (o : Option (K × V))
      → ((g : K × V) → o ≡ Some g → valid g.1 × (code_of g.0 ≡ q)) → EntryFits content R (Some (k, f e.1)) o
      → Some (text e.0, f e.1) ≡ written code_of text f o
  one_written q e k i at None r m = absurd m
  one_written q e k i at (Some g) r m =
      let own = r g refl in
      rw (one_text e.0 g.0 (at ∙ sym own.1), (round_trips e.1 i).1 g.1 own.0 m.1) refl

  met_written : (q : Key) (es : List (K × V)) → Parts es → Alone es → (o : Option (K × V))
      → ((g : K × V) → o ≡ Some g → valid g.1 × (code_of g.0 ≡ q))
      → EntryFits content R (first_and_last_at read code q (members_of text f es)) o
      → written code_of text f (entry_at code_of q es) ≡ written code_of text f o
  unfolding IsDistinct
  met_written q [] h d None r m = refl
  met_written q [] h d (Some g) r m = absurd m
  met_written q (e ∷ es) h d o r m =
      let b = back e.0 h.0.0 in
      let first = ap (λ c. bytes_eq c q) (sym b.3) in
      rw first (elim (bytes_eq (code_of b.0) q)
      as (λ c. bytes_eq (code_of b.0) q ≡ c
      → EntryFits content R (first_and_last (cond c (Some (content b.0)) None) (f e.1)
      (first_and_last_at read code q (members_of text f es))) o
      → written code_of text f (cond c (Some e) (entry_at code_of q es)) ≡ written code_of text f o) [
        | true ↦ λ c n.
            let at : code_of e.0 ≡ q = sym b.3 ∙ equal_if_tested _ _ c in
            one_written q e (content b.0) h.0.1 at o r (rw (none_met q es h.1 (others_apart q e es d at)) at n)
        | false ↦ λ c n. met_written q es h.1 d.1 o r n
      ] refl (rw b.2 at m))

  -- entries of which each, at its code, was met
  abbrev Met : List (K × V) → List (K × V) → Type 0
  Met es fs = (q : Key) → EntryFits content R (first_and_last_at read code q (members_of text f es)) (entry_at code_of q fs)

  met_agree : (es fs : List (K × V)) → Parts es → Alone es → Parts fs → Met es fs → Agree code_of text f es fs
  met_agree es fs h d p m q = met_written q es h d (entry_at code_of q fs) go (m q)
    where
      go : (g : K × V) → entry_at code_of q fs ≡ Some g → valid g.1 × (code_of g.0 ≡ q)
      go g e =
          let c = found code_of q fs g e in
          ((All-contains (λ e. key_valid e.0 × valid e.1) fs g (All-from_recursion _ fs p) c.0).1, c.1)

  -- ---- maps in the order of their keys

  module _ (cmp : K → K → Ordering) (total : IsTotalOrder cmp)
      (agrees : (a b : K) → is_eq (cmp a b) ≡ bytes_eq (code_of a) (code_of b)) where
    abbrev InOrder : List (K × V) → Type 0
    InOrder es = IsStrictlySortedBy cmp (keys_of es)

    -- the order looks at codes alone
    same_order : (a b x : K) → code_of a ≡ code_of b → cmp a x ≡ cmp b x
    same_order a b x s = total.congr a b x ((Equal-is (cmp a b)).0 (agrees a b ∙ tested_if_equal _ _ s))

    order_same : (a b c d : K) → code_of a ≡ code_of b → code_of c ≡ code_of d → cmp a c ≡ cmp b d
    order_same a b c d s t = same_order a b c s ∙ total.antisymm b c ∙ ap ordering_reverse (same_order c d b t) ∙ sym (total.antisymm b d)

    -- what is read is in order too
    sorted_read : (es : List (K × V)) (h : Parts es) → InOrder es → InOrder (read_of es h)
    unfolding IsStrictlySortedBy
    sorted_read [] h o = tt
    sorted_read (e ∷ es) h o = (
      keys_read _ _ (λ k w s l. order_same _ _ _ _ (back e.0 h.0.0).3 s ∙ l) es h.1 o.0,
      sorted_read es h.1 o.1,
    )

    -- the codes of sorted keys are distinct
    distinct_codes : (es : List (K × V)) → InOrder es → Alone es
    distinct_codes es o = subst (λ r. IsDistinct r (keys_of es)) (λ i a b. agrees a b i) (IsDistinct-from_sorted cmp (keys_of es) o)

    pub round_trips-sorted : {M : Type 0} (entries : M → List (K × V)) (with : M → List (K × V) → M)
        → ((m : M) (es : List (K × V)) → entries (with m es) ≡ es) → (m : M) → InOrder (entries m)
        × Parts (entries m)
        → RoundTrips (λ w. InOrder (entries w) × Parts (entries w)) (λ w. members (members_of text f (entries w)))
        (λ t w. Reads t (entries w)) (members (members_of text f (entries m)))
    round_trips-sorted entries with same m r =
        let es = entries m in
        let d = distinct_codes es r.0 in
        let s = sym (same m (read_of es r.1)) in
        let t = members (members_of text f es) in (
          (
            with m (read_of es r.1),
            subst (λ fs. InOrder fs × Parts fs) s (sorted_read es r.1 r.0, parts_read es r.1),
            subst (Reads t) s (taken es r.1, λ q. met_read q es r.1 d),
          ),
          λ w p e. ap members (sym
              (sorted_same code_of text f cmp total agrees es (entries w) r.0 p.0
              (met_agree es (entries w) r.1 d p.1 e.1))),
        )

  -- ---- hashed maps

  -- what is met in order is what is met
  met_in_order : (q : Key) (es : List (K × V)) → Parts es → Alone es
      → first_and_last_at read code q (in_order (members_of text f es)) ≡ first_and_last_at read code q
      (members_of text f es)
  unfolding IsDistinct
  met_in_order q [] h d = refl
  met_in_order q (e ∷ es) h d =
      let b = back e.0 h.0.0 in
      let rest = met_in_order q es h.1 d.1 in
      elim (bytes_eq (code_of b.0) q)
      as (λ c. bytes_eq (code_of b.0) q ≡ c
      → first_and_last_at read code q (with_if_absent (text e.0) (f e.1) (in_order (members_of text f es)))
      ≡ first_and_last (cond c (Some (content b.0)) None) (f e.1)
      (first_and_last_at read code q (members_of text f es))) [
        | false ↦ λ c. met_other read code of q (text e.0) (f e.1) (in_order (members_of text f es)) (rw (b.2, c) refl) ∙ rest
        | true ↦ λ c.
            let none = none_met q es h.1 (others_apart q e es d (sym b.3 ∙ equal_if_tested _ _ c)) in
            met_first read code of q (text e.0) (f e.1) (content b.0) (in_order (members_of text f es))
            (rw (b.2, c) refl) (rest ∙ none) ∙ ap (first_and_last (Some (content b.0)) (f e.1)) (sym none)
      ] refl ∙ rw b.2 refl

  module _ (eq : K → K → Bool) (alike : (a b : K) → eq a b ≡ bytes_eq (code_of a) (code_of b)) where
    -- no two keys are equal
    abbrev Unique : List (K × V) → Type 0
    Unique es = IsDistinct eq (keys_of es)

    alone : (es : List (K × V)) → Unique es → Alone es
    alone es d = subst (λ r. IsDistinct r (keys_of es)) (λ i a b. alike a b i) d

    -- what is read is distinct too
    unique_read : (es : List (K × V)) (h : Parts es) → Unique es → Unique (read_of es h)
    unfolding IsDistinct
    unique_read [] h d = tt
    unique_read (e ∷ es) h d = (
      keys_read _ _ (λ k w s n. alike _ _ ∙ ap₂ bytes_eq (back e.0 h.0.0).3 s ∙ sym (alike _ _) ∙ n) es h.1 d.0,
      unique_read es h.1 d.1,
    )

    -- their names are distinct too
    names_apart : (es : List (K × V)) → Unique es × Parts es → IsDistinct bytes_eq (names text f es)
    names_apart es r = distinct_names eq key_valid content code read text alike back es (key_parts es r.1) r.0

    pub round_trips-hashed : {M : Type 0} (entries : M → List (K × V)) (with : M → List (K × V) → M)
        → ((m : M) (es : List (K × V)) → entries (with m es) ≡ es) → (m : M) → Unique (entries m)
        × Parts (entries m)
        → RoundTrips (λ w. Unique (entries w) × Parts (entries w))
        (λ w. members (in_order (members_of text f (entries w)))) (λ t w. Reads t (entries w))
        (members (in_order (members_of text f (entries m))))
    round_trips-hashed entries with same m r =
        let es = entries m in
        let d = alone es r.0 in
        let s = sym (same m (read_of es r.1)) in
        let t = members (in_order (members_of text f es)) in
        let all = taken_in_order read code of (members_of text f es) (taken es r.1) in (
          (
            with m (read_of es r.1),
            subst (λ fs. Unique fs × Parts fs) s (unique_read es r.1 r.0, parts_read es r.1),
            subst (Reads t) s (all, λ q. rw (met_in_order q es r.1 d) (met_read q es r.1 d)),
          ),
          λ w p e.
              let a = met_agree es (entries w) r.1 d p.1 (λ q. rw (met_in_order q es r.1 d) at (e.1 q)) in
              ap members (sym (hashed_same code_of text f es (entries w) d (alone (entries w) p.0)
              (names_apart es r) (names_apart (entries w) p) a)),
        )
