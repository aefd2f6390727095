-- Each table contains, for each byte, the value of the function that it tabulates. All 256 entries are compared by
-- computation (`alike`).
use Rattle.std.proofs.Common.{◌≡◌, ℕ, zero, suc, ◌-◌, ◌<◌, ◌≤◌, ◌==◌, Bool, true, false, cond, ◌&&◌, T, eqb, get_or}
use Rattle.std.proofs.Common.{if◌then◌else◌, None, Some, refl, subst, inl, inr, arith, eq-zero-or-pos, eqb→eq}
use lib.Ieee.Fits.{and_l, and_r}
use Rattle.std.specs.Prelude.{◌||◌}
use Rattle.std.specs.Char.{digit_value}
use Rattle.std.proofs.lemmas.Bool.Decides.{nat_tests}
use Rattle.miniserde_text.specs.private.Reading.{is_hex, short_at}
use Rattle.miniserde_model.specs.Bytes.{is_number_byte, is_special, is_space}
use Rattle.miniserde_text.specs.declared.json.lex.bytes.TheConstants.{SPACE}
use Rattle.miniserde_text.specs.declared.json.lex.tables.TheConstants.{HEX, SHORT, NUMBER}
use Rattle.miniserde_text.specs.declared.scan.TheConstants.{SPECIAL}

abbrev agree : (ℕ → ℕ) → (ℕ → ℕ) → ℕ → Bool
agree f g zero = true
agree f g (suc c) = eqb (f c) (g c) && agree f g c

alike : (f g : ℕ → ℕ) (n c : ℕ) → T (agree f g n) → c < n → f c ≡ g c
alike f g zero c t h = absurd (omega arith)
alike f g (suc n) c t h =
    elim (eq-zero-or-pos (n - c)) [
      | inl z ↦ let e : c ≡ n = omega arith in rw e (eqb→eq _ _ (and_l _ (agree f g n) t))
      | inr g' ↦ alike f g n c (and_r _ (agree f g n) t) (omega arith)
    ]

abbrev hex_entry : ℕ → ℕ
hex_entry c = if is_hex c then digit_value c else 65536

-- the entry of `HEX` for a byte is its value as a hexadecimal digit, or 65536
pub hex_at : (c : ℕ) → c < 256 → get_or HEX c 0 ≡ (if is_hex c then digit_value c else 65536)
hex_at c h = alike (λ k. get_or HEX k 0) hex_entry 256 c tt h

hex_small : (c : ℕ) → hex_entry c ≤ 65536
hex_small c = grind (arith, nat_tests)

hex_ascii : (c : ℕ) → hex_entry c < 65536 → (0 < c) × (c < 128)
hex_ascii c h = (grind (arith, nat_tests), grind (arith, nat_tests))

pub hex_at_small : (c : ℕ) → c < 256 → get_or HEX c 0 ≤ 65536
hex_at_small c h = rw (hex_at c h) (hex_small c)

-- a byte whose entry of `HEX` is below 65536 is ASCII and not 0
pub hex_at_ascii : (c : ℕ) → c < 256 → get_or HEX c 0 < 65536 → (0 < c) × (c < 128)
hex_at_ascii c h k = hex_ascii c (subst (λ n. n < 65536) (hex_at c h) k)

one_if : (b : Bool) (n : ℕ) → n ≡ cond b 1 0 → (n == 1) ≡ b
one_if true n e = rw e refl
one_if false n e = rw e refl

-- the entry of `NUMBER` for a byte is 1 exactly if a number text may contain the byte
pub number_at : (c : ℕ) → c < 256 → (get_or NUMBER c 0 == 1) ≡ is_number_byte c
number_at c h = one_if (is_number_byte c) _ (alike (λ k. get_or NUMBER k 0) (λ k. cond (is_number_byte k) 1 0) 256 c tt h)

-- the entry of `SPECIAL` for a byte is 1 exactly if the byte must be escaped
pub special_at : (c : ℕ) → c < 256 → (get_or SPECIAL c 0 == 1) ≡ is_special c
special_at c h = one_if (is_special c) _ (alike (λ k. get_or SPECIAL k 0) (λ k. cond (is_special k) 1 0) 256 c tt h)

abbrev code_of : ℕ → ℕ
code_of x =
    if (x == 34) || ((x == 92) || (x == 47)) then x
    else if x == 98 then 8
    else if x == 102 then 12
    else if x == 110 then 10
    else if x == 114 then 13
    else if x == 116 then 9
    else 0

short_code : (x : ℕ) → short_at x ≡ (if code_of x == 0 then None else Some (code_of x))
short_code x = grind (arith, nat_tests)

code_ascii : (x : ℕ) → code_of x < 128
code_ascii x = grind (arith, nat_tests)

short_code_at : (c : ℕ) → c < 256 → get_or SHORT c 0 ≡ code_of c
short_code_at c h = alike (λ k. get_or SHORT k 0) code_of 256 c tt h

-- the entry of `SHORT` for a byte is the character of its short escape, or 0 if it has none
pub short_is : (c : ℕ) → c < 256 → short_at c ≡ (if get_or SHORT c 0 == 0 then None else Some (get_or SHORT c 0))
short_is c h = rw (short_code_at c h) (short_code c)

-- each entry of `SHORT` is ASCII
pub short_ascii : (c : ℕ) → c < 256 → get_or SHORT c 0 < 128
short_ascii c h = rw (short_code_at c h) (code_ascii c)

-- the entry of `SPACE` for a byte is 1 exactly if the byte is whitespace
pub space_at : (c : ℕ) → c < 256 → (get_or SPACE c 0 == 1) ≡ is_space c
space_at c h = one_if (is_space c) _ (alike (λ k. get_or SPACE k 0) (λ k. cond (is_space k) 1 0) 256 c tt h)
