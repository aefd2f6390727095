-- If the first eight bytes of a name are below those of another as a number, the name is below the other. By
-- induction over the bytes: the first bytes differ and decide, or they are equal and the rest decides.
use Rattle.std.proofs.Common.{◌≡◌, ◌<◌, ◌≤◌, ◌+◌, ◌*◌, ◌^◌, ℕ, zero, suc, List, [], ◌∷◌, get_or, refl, sym, ap, ◌∙◌}
use Rattle.std.proofs.Common.{arith, Less, Equal, Greater, inl, inr}
use Rattle.std.specs.Int.{from_be_bytes, w64}
use Rattle.std.specs.Ordering.{ordering_then, ordering_reverse}
use Rattle.std.specs.Cmp.{nat_cmp_is}
use Rattle.std.proofs.lemmas.Bool.{cases_lt, cases_eq}
use Rattle.std.proofs.lemmas.Cmp.{nat_list_cmp_total}
use Rattle.std.proofs.lemmas.Nat.{mul-le}
use Rattle.std.proofs.Math.Nat.{pow-suc}
use Rattle.miniserde_model.specs.Normal.{text_cmp}
use Rattle.miniserde_canonical.specs.private.MemberNames.{leading_number, IsLeadingBytes}

abbrev Small : List ℕ → Type 0
Small s = (i : ℕ) → get_or s i 0 < 256

lead_small : (n : ℕ) (s : List ℕ) → Small s → leading_number n s < 256 ^ n
lead_small zero s h = omega arith
lead_small (suc n) [] h = omega (arith, power n)
  where
    power : (n : ℕ) → 0 < 256 ^ suc n
    power zero = omega arith
    power (suc n) = omega (arith, power n, pow-suc 256 (suc n))
lead_small (suc n) (c ∷ s) h =
    let rest = lead_small n s (λ i. h (suc i)) in
    let most : c * 256 ^ n ≤ 255 * 256 ^ n = mul-le c (256 ^ n) 255 (256 ^ n) (omega (arith, h 0)) (omega arith) in
    omega (arith, rest, most, pow-suc 256 n)

lead_below : (n : ℕ) (a b : List ℕ) → Small a → Small b → leading_number n a < leading_number n b → text_cmp a b ≡ Less
lead_below zero a b h k l = absurd (omega (arith, l))
lead_below (suc n) [] [] h k l = absurd (omega (arith, l))
lead_below (suc n) [] (d ∷ b) h k l = refl
lead_below (suc n) (c ∷ a) [] h k l = absurd (omega (arith, l))
lead_below (suc n) (c ∷ a) (d ∷ b) h k l = elim (cases_lt c d) [
  | inl low ↦ ap (λ o. ordering_then o (text_cmp a b)) (sym (nat_cmp_is c d Less low))
  | inr high ↦ elim (cases_eq c d) [
    | inl same ↦
        let rest : leading_number n a < leading_number n b = omega (arith, l, ap (λ z. z * 256 ^ n) same) in
        ap (λ o. ordering_then o (text_cmp a b)) (sym (nat_cmp_is c d Equal same)) ∙ lead_below n a b (λ i. h (suc i)) (λ i. k (suc i)) rest
    | inr other ↦
        let small = lead_small n b (λ i. k (suc i)) in
        let more : suc d * 256 ^ n ≤ c * 256 ^ n = mul-le (suc d) (256 ^ n) c (256 ^ n) (omega (arith, high, other)) (omega arith) in
        absurd (omega (arith, l, small, more, step d (256 ^ n)))
  ]
]
  where
    step : (d p : ℕ) → suc d * p ≡ p + d * p
    step d p = omega arith

-- if the leading bytes p of a are, as a number, below those of b, then a is below b
pub prefix_below : (p q : ℕ) (a b : List ℕ) → IsLeadingBytes p a → IsLeadingBytes q b → p < q → text_cmp a b ≡ Less
prefix_below p q a b h k l = lead_below 8 a b h.small k.small (omega (arith, h.value, k.value, l))

-- if the leading bytes p of a are, as a number, above those of b, then a is above b
pub prefix_above : (p q : ℕ) (a b : List ℕ) → IsLeadingBytes p a → IsLeadingBytes q b → q < p → text_cmp a b ≡ Greater
prefix_above p q a b h k l = nat_list_cmp_total.antisymm a b ∙ ap ordering_reverse (prefix_below q p b a k h l)

-- the first eight bytes of s, with 0 for each missing one, are the big-endian bytes of `leading_number 8 s`
pub first_eight : (s : List ℕ)
    → from_be_bytes w64 (get_or s 0 0 ∷ get_or s 1 0 ∷ get_or s 2 0 ∷ get_or s 3 0 ∷ get_or s 4 0 ∷ get_or s 5 0 ∷
    get_or s 6 0 ∷ get_or s 7 0 ∷ []) ≡ leading_number 8 s
first_eight [] = omega arith
first_eight (a ∷ []) = omega arith
first_eight (a ∷ b ∷ []) = omega arith
first_eight (a ∷ b ∷ c ∷ []) = omega arith
first_eight (a ∷ b ∷ c ∷ d ∷ []) = omega arith
first_eight (a ∷ b ∷ c ∷ d ∷ e ∷ []) = omega arith
first_eight (a ∷ b ∷ c ∷ d ∷ e ∷ f ∷ []) = omega arith
first_eight (a ∷ b ∷ c ∷ d ∷ e ∷ f ∷ g ∷ []) = omega arith
first_eight (a ∷ b ∷ c ∷ d ∷ e ∷ f ∷ g ∷ h ∷ s) = omega arith
