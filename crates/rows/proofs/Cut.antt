-- The first elements of a list that rises: each is below each of the others.
use Rattle.std.proofs.Common.{arith, ◌≡◌, ◌≤◌, inl, inr, ℕ, zero, suc, List, [], ◌∷◌, ◌++◌}
use Rattle.std.proofs.Common.{map, take, drop, length, refl, sym, ap, subst, ◌∙◌}
use Rattle.std.proofs.lemmas.List.{length-append}
use Rattle.std.specs.Cmp.Lexicographic.{slice_cmp}
use Rattle.std.specs.List.{AllByRecursion}
use Rattle.std.specs.List.Sorted.{IsStrictlySortedBy}
use Rattle.std.specs.Ordering.{nat_cmp}
use Rattle.std.specs.declared.cmp.Ordering.{Ordering}
use Rattle.std.specs.declared.cmp.Ordering.TheVariants.{Less}
use Rattle.sqlite_rules.specs.Lists.{Has}
use Rattle.sqlite_rules.proofs.ListLemmas.{all_has, all_from, has_left, has_right}
use Rattle.sqlite_value.proofs.OrderLemmas.{value_cmp-Text}
use Rattle.sqlite.specs.declared.types.Value.TheVariants.{Text}
use Rattle.sqlite.specs.Order.{value_cmp}

-- the front of a list that rises
pub front_rises : {K : Type 0} (c : K → K → Ordering) (xs ys : List K) → IsStrictlySortedBy c (xs ++ ys) → IsStrictlySortedBy c xs
unfolding IsStrictlySortedBy
front_rises c [] ys up = tt
front_rises c (x ∷ xs) ys up = (
  all_from (λ y. c x y ≡ Less) xs (λ y h. all_has _ (xs ++ ys) y up.0 (has_left xs ys y h)),
  front_rises c xs ys up.1,
)

-- what is in front is below what is behind
pub front_below : {K : Type 0} (c : K → K → Ordering) (xs ys : List K) (a b : K) → IsStrictlySortedBy c (xs ++ ys) → Has xs a → Has ys b
    → c a b ≡ Less
unfolding IsStrictlySortedBy
front_below c [] ys a b up ha hb = absurd ha
front_below c (x ∷ xs) ys a b up (inl same) hb = subst (λ k. c k b ≡ Less) (sym same) (all_has _ (xs ++ ys) b up.0 (has_right xs ys b hb))
front_below c (x ∷ xs) ys a b up (inr later) hb = front_below c xs ys a b up.1 later hb

above : (k : List ℕ) (entries : List (List ℕ × List ℕ)) → AllByRecursion (λ v. value_cmp (Text k) v ≡ Less) (map (λ e. Text e.0) entries)
    → AllByRecursion (λ y. slice_cmp nat_cmp k y ≡ Less) (map (λ e. e.0) entries)
above k [] all = tt
above k (e ∷ entries) all = (sym (value_cmp-Text k e.0) ∙ all.0, above k entries all.1)

-- texts that rise as values rise by their bytes
pub texts_rise : (entries : List (List ℕ × List ℕ)) → IsStrictlySortedBy value_cmp (map (λ e. Text e.0) entries)
    → IsStrictlySortedBy (slice_cmp nat_cmp) (map (λ e. e.0) entries)
unfolding IsStrictlySortedBy
texts_rise [] up = tt
texts_rise (e ∷ entries) up = (above e.0 entries up.0, texts_rise entries up.1)

pub at_most : {X : Type 0} (n : ℕ) (xs : List X) → length (take n xs) ≤ n
at_most zero xs = omega arith
at_most (suc n) [] = omega arith
at_most (suc n) (x ∷ xs) = let rest = at_most n xs in omega arith

-- if an element is left behind, so many are in front
pub just : {X : Type 0} (n : ℕ) (xs : List X) (x : X) → Has (drop n xs) x → length (take n xs) ≡ n
just zero xs x h = refl
just (suc n) [] x h = absurd h
just (suc n) (y ∷ xs) x h = ap suc (just n xs x h)

-- a list with a last element is not empty
pub never_empty : {X : Type 0} (front : List X) (last : X) → front ++ last ∷ [] ≡ [] → ⊥
never_empty [] last e = absurd (let n = ap length e in omega (arith, n))
never_empty (x ∷ front) last e = absurd (let n = ap length e in omega (arith, n))

-- two lists that are equal with a last element each are equal without
pub without_last : {X : Type 0} (xs ys : List X) (a b : X) → xs ++ a ∷ [] ≡ ys ++ b ∷ [] → xs ≡ ys
without_last [] [] a b e = refl
without_last [] (y ∷ ys) a b e =
    let n : 1 ≡ suc (length (ys ++ b ∷ [])) = ap length e in
    let sum = length-append ys (b ∷ []) in
    absurd (omega (arith, n, sum))
without_last (x ∷ xs) [] a b e =
    let n : suc (length (xs ++ a ∷ [])) ≡ 1 = ap length e in
    let sum = length-append xs (a ∷ []) in
    absurd (omega (arith, n, sum))
without_last (x ∷ xs) (y ∷ ys) a b e =
    let head : x ≡ y = cc in
    let tail : xs ++ a ∷ [] ≡ ys ++ b ∷ [] = cc in
    let rest = without_last xs ys a b tail in
    λ i. head i ∷ rest i
