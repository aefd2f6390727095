-- Entries with distinct names, sorted by name, give the members in order. Both lists of members strictly ascend and
-- have the same last tree at each name (`alike`), so they are equal (`one_rising`).
use Rattle.std.proofs.Common.{◌≡◌, ℕ, suc, ◌+◌, Bool, true, false, cond, List, [], ◌∷◌, map, Option, Some, None}
use Rattle.std.proofs.Common.{bytes_eq, refl, sym, ap, subst, ◌∙◌, arith, is_lt, Ordering, Less, Equal, Greater}
use Rattle.std.proofs.Common.{true≢false, IsPermutation, IsSortedByKey}
use Rattle.std.specs.List.{AllByRecursion, IsDistinct}
use Rattle.std.specs.Ordering.{ordering_reverse}
use Rattle.std.proofs.lemmas.Cmp.{nat_list_cmp_total}
use Rattle.std.proofs.lemmas.Map.Lookups.{exact_bytes}
use Rattle.std.proofs.lemmas.Map.Keys.{IsDistinct-head, IsDistinct-tail, IsDistinct-IsPermutation}
use Rattle.std.proofs.lemmas.List.Sorted.{All-permutation, IsPermutation-map, IsPermutation-sym}
use Rattle.std.proofs.lemmas.List.Elements.{All-from_recursion, recursion_from_All}
use Rattle.std.proofs.lemmas.Slice.Eq.{bytes_eq-Decides}
use Rattle.miniserde_text.proofs.Equal.{bytes_eq-flips}
use Rattle.miniserde_model.specs.Tree.{Tree, Members, no_members, member}
use Rattle.miniserde_model.specs.Normal.{text_cmp, or_else, last_of, Rise}
use Rattle.miniserde_model.proofs.Lookups.{last_with_first, rise_insert}
use Rattle.miniserde_model.proofs.OneNormal.{one_rising}
use Rattle.miniserde_ser.specs.Trees.{members_of, in_order}

-- ---- the members in order

pub rise_in_order : (ms : Members) → Rise (in_order ms)
rise_in_order no_members = tt
rise_in_order (member name t ms) = rise_insert (λ t u. u) name t (in_order ms) (rise_in_order ms)

last_in_order : (q : List ℕ) (ms : Members) → last_of q (in_order ms) ≡ last_of q ms
last_in_order q no_members = refl
last_in_order q (member name t ms) =
    last_with_first q name t (in_order ms) ∙ ap (λ o. or_else o (cond (bytes_eq name q) (Some t) None))
    (last_in_order q ms)

-- ---- what members have at a name, by their entries

module _ {K V : Type 0} (text : K → List ℕ) (f : V → Tree) where
  abbrev pub names : List (K × V) → List (List ℕ)
  names es = map (λ e. text e.0) es

  -- the entry stands in ms under its name
  abbrev pub Stands : Members → K × V → Type 0
  Stands ms e = last_of (text e.0) ms ≡ Some (f e.1)

  none_of : (q : List ℕ) (es : List (K × V)) → AllByRecursion (λ n. bytes_eq q n ≡ false) (names es)
      → last_of q (members_of text f es) ≡ None
  none_of q [] h = refl
  none_of q (e ∷ es) h = rw (none_of q es h.1, bytes_eq-flips (text e.0) q, h.0) refl

  stands_later : (ms : Members) (d : K × V) (es : List (K × V)) → AllByRecursion (Stands ms) es
      → AllByRecursion (Stands (member (text d.0) (f d.1) ms)) es
  stands_later ms d [] h = tt
  stands_later ms d (e ∷ es) h = (
    ap (λ o. or_else o (cond (bytes_eq (text d.0) (text e.0)) (Some (f d.1)) None)) h.0,
    stands_later ms d es h.1,
  )

  pub all_stand : (es : List (K × V)) → IsDistinct bytes_eq (names es) → AllByRecursion (Stands (members_of text f es)) es
  all_stand [] h = tt
  all_stand (e ∷ es) h = (
    rw (none_of (text e.0) es (IsDistinct-head bytes_eq _ _ h), (bytes_eq-Decides (text e.0) (text e.0)).1 refl) refl,
    stands_later (members_of text f es) e es (all_stand es (IsDistinct-tail bytes_eq _ _ h)),
  )

  -- what members have, ms has
  found : (ms : Members) (es : List (K × V)) → AllByRecursion (Stands ms) es → (q : List ℕ) (t : Tree)
      → last_of q (members_of text f es) ≡ Some t → last_of q ms ≡ Some t
  found ms [] h q t e = cc
  found ms (d ∷ es) h q t e = go (last_of q (members_of text f es)) (bytes_eq (text d.0) q) refl refl (found ms es h.1 q t) e
    where
      go : (o : Option Tree) (b : Bool) → last_of q (members_of text f es) ≡ o → bytes_eq (text d.0) q ≡ b
          → (last_of q (members_of text f es) ≡ Some t → last_of q ms ≡ Some t)
          → or_else o (cond b (Some (f d.1)) None) ≡ Some t → last_of q ms ≡ Some t
      go (Some u) b r s more g = more (r ∙ g)
      go None true r s more g = subst (λ z. last_of z ms ≡ Some t) ((bytes_eq-Decides (text d.0) q).0 s) (h.0 ∙ g)
      go None false r s more g = cc

  either : (a b : Option Tree) → ((t : Tree) → a ≡ Some t → b ≡ Some t) → ((t : Tree) → b ≡ Some t → a ≡ Some t) → a ≡ b
  either None None p q = refl
  either None (Some t) p q = q t refl
  either (Some t) b p q = sym (p t refl)

  all_moved : (P : K × V → Type 0) (xs ys : List (K × V)) → IsPermutation xs ys → AllByRecursion P xs → AllByRecursion P ys
  all_moved P xs ys p h = recursion_from_All P ys (All-permutation P xs ys p (All-from_recursion P xs h))

  alike : (xs ys : List (K × V)) → IsDistinct bytes_eq (names xs) → IsDistinct bytes_eq (names ys)
      → IsPermutation xs ys → (q : List ℕ) → last_of q (members_of text f xs) ≡ last_of q (members_of text f ys)
  alike xs ys dx dy p q =
      let ms = members_of text f xs in
      let ns = members_of text f ys in
      either _ _ (found ns xs (all_moved (Stands ns) ys xs (IsPermutation-sym xs ys p) (all_stand ys dy)) q)
      (found ms ys (all_moved (Stands ms) xs ys p (all_stand xs dx)) q)

  -- entries that stand in each other's members give the same members in order
  pub in_order_same : (xs ys : List (K × V)) → AllByRecursion (Stands (members_of text f ys)) xs
      → AllByRecursion (Stands (members_of text f xs)) ys
      → in_order (members_of text f xs) ≡ in_order (members_of text f ys)
  in_order_same xs ys p q =
      one_rising _ _ (rise_in_order (members_of text f xs)) (rise_in_order (members_of text f ys))
      (λ n. last_in_order n (members_of text f xs) ∙ either _ _ (found (members_of text f ys) xs p n)
      (found (members_of text f xs) ys q n) ∙ sym (last_in_order n (members_of text f ys)))

  -- ---- sorted entries

  less : (a b : List ℕ) → is_lt (text_cmp b a) ≡ false → bytes_eq a b ≡ false → text_cmp a b ≡ Less
  less a b s d = go (text_cmp a b) refl
    where
      go : (o : Ordering) → text_cmp a b ≡ o → o ≡ Less
      go Less e = refl
      go Equal e = absurd (true≢false (sym ((bytes_eq-Decides a b).1 (exact_bytes a b e)) ∙ d))
      go Greater e = absurd (true≢false (sym (ap is_lt (nat_list_cmp_total.antisymm b a ∙ ap ordering_reverse e)) ∙ s))

  rise_sorted : (es : List (K × V)) → IsDistinct bytes_eq (names es) → IsSortedByKey (λ e. text e.0) text_cmp es
      → Rise (members_of text f es)
  rise_sorted [] d s = tt
  rise_sorted (e ∷ []) d s = (tt, tt)
  rise_sorted (e ∷ g ∷ es) d s = (
    less (text e.0) (text g.0) (s 0 e (omega arith) (omega arith)) (IsDistinct-head bytes_eq _ _ d).0,
    rise_sorted (g ∷ es) (IsDistinct-tail bytes_eq _ _ d)
        (λ k c l h. let next : suc k + 1 ≡ suc (k + 1) =
        omega arith in rw next at (s (suc k) c (omega arith) (omega arith))),
  )

  pub in_order_sorted : (xs ys : List (K × V)) → IsDistinct bytes_eq (names xs)
      → IsSortedByKey (λ e. text e.0) text_cmp ys → IsPermutation xs ys
      → members_of text f ys ≡ in_order (members_of text f xs)
  in_order_sorted xs ys d s p =
      let dy = IsDistinct-IsPermutation bytes_eq bytes_eq-flips (names xs) (names ys) (IsPermutation-map (λ e. text e.0) xs ys p) d in
      one_rising _ _ (rise_sorted ys dy s) (rise_in_order (members_of text f xs))
      (λ q. sym (alike xs ys d dy p q) ∙ sym (last_in_order q (members_of text f xs)))
