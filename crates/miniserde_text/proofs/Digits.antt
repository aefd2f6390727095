-- Each turn of a loop over digits keeps the value of all digits, and the number so far never exceeds that value.
-- `turn` takes one digit off the list; `below_next` and `wraps_not` bound the number, so that up to 19 digits never
-- overflow 64 bits.
use Rattle.std.proofs.Common.{◌≡◌, ℕ, suc, ◌+◌, ◌-◌, ◌*◌, ◌%◌, ◌^◌, ◌≤◌, ◌<◌, List, [], ◌∷◌, length, drop, get_or, ap, ◌∙◌, subst, arith}
use Rattle.std.proofs.Math.Nat.{pow-suc, pow-le-pow_right}
use Rattle.std.proofs.lemmas.Bool.Decides.{nat_tests}
use Rattle.std.proofs.lemmas.List.{drop_more}
use Rattle.std.specs.List.{AllByRecursion}
use Rattle.std.specs.Char.{digit_value}
use Rattle.std.specs.Str.Parse.{digits_value_after}
use Rattle.miniserde_model.specs.Number.{IsDigit}

le-digits_value_after : (n : ℕ) (ds : List ℕ) → n ≤ digits_value_after 10 n ds
le-digits_value_after n [] = omega arith
le-digits_value_after n (c ∷ cs) = omega (arith, le-digits_value_after (n * 10 + digit_value c) cs)

-- the value of a decimal digit is its byte minus 48, the byte `0`
pub digit_value_is : (c : ℕ) → IsDigit c → digit_value c ≡ c - 48
digit_value_is c h = grind (arith, nat_tests)

-- the digit at i, and what the turn makes of it
pub record Turn (n : ℕ) (ds : List ℕ) (i : ℕ) : Type 0 where
  pub low : 48 ≤ get_or ds i 0
  pub high : get_or ds i 0 ≤ 57
  pub rest : AllByRecursion IsDigit (drop (i + 1) ds)
  pub value : digits_value_after 10 n (drop i ds) ≡ digits_value_after 10 (n * 10 + (get_or ds i 0 - 48)) (drop (i + 1) ds)
  pub grown : n * 10 + (get_or ds i 0 - 48) ≤ digits_value_after 10 n (drop i ds)

-- if the bytes of ds from i on are digits, the turn at i is as `Turn` says, with n the number so far
pub turn : (n : ℕ) (ds : List ℕ) (i : ℕ) → i < length ds → AllByRecursion IsDigit (drop i ds) → Turn n ds i
turn n ds i h e =
    let both = subst (AllByRecursion IsDigit) (drop_more ds i 0 h) e in
    let same : digits_value_after 10 n (drop i ds) ≡ digits_value_after 10 (n * 10 + (get_or ds i 0 - 48))
    (drop (i + 1) ds) = ap (digits_value_after 10 n) (drop_more ds i 0 h)
    ∙ ap (λ d. digits_value_after 10 (n * 10 + d) (drop (i + 1) ds)) (digit_value_is (get_or ds i 0) both.0) in
    record {
      low = both.0.0;
      high = both.0.1;
      rest = both.1;
      value = same;
      grown = omega (arith, same, le-digits_value_after (n * 10 + (get_or ds i 0 - 48)) (drop (i + 1) ds));
    }

-- what fewer than 20 digits write leaves room for each of them
pub short_fits : (v i n : ℕ) → v < 10 ^ i → i < n → n < 20 → v < 10 ^ 18
short_fits v i n small within few = omega (arith, pow-le-pow_right {n = 10} (omega arith) {i = i} {j = 18} (omega arith))

-- a number below 10^i, times 10 and plus a digit, is below 10^(i + 1)
pub below_next : (v i d : ℕ) → v < 10 ^ i → d ≤ 9 → v * 10 + d < 10 ^ (i + 1)
below_next v i d small digit = let next : suc i ≡ i + 1 = omega arith in omega (arith, pow-suc 10 i, ap (λ k. 10 ^ k) next)

-- what may wrap in a turn doesn't where fewer than 19 digits stand before it
pub wraps_not : (v i d : ℕ) → v < 10 ^ i → i < 19 → d ≤ 9 → (v * 10 % 2 ^ 64 + d) % 2 ^ 64 ≡ v * 10 + d
wraps_not v i d small few digit = omega (arith, short_fits v i 19 small few (omega arith))
