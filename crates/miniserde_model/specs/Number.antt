-- The texts of numbers, and the leaf of each of them (RFC 8259, section 6).
use Rattle.std.specs.Prelude.{◌≡◌, ℕ, ◌^◌, ◌<◌, ◌⊎◌, pos, neg_ℤ, List, [], ◌∷◌, ◌++◌, length, drop, slice_index}
use Rattle.std.specs.Prelude.{Bool, true, not, ◌&&◌, ◌||◌, ◌==◌, nat_lt, nat_le, if◌then◌else◌, codes, refl}
use Rattle.std.specs.Int.{IsInRange}
use Rattle.std.specs.List.{AllByRecursion}
use Rattle.std.specs.Str.Parse.{digits_value}
use Rattle.std.proofs.Common.{inl, inr, arith}
use Rattle.miniserde_model.specs.Ascii.{minus_sign, plus_sign, decimal_point, digit_0, digit_1, digit_9, letter_E, letter_e}
use Rattle.miniserde_model.specs.Tree.{Tree, nonneg, neg, num}

-- ---- the shape

-- the byte is a digit
abbrev pub IsDigit : ℕ → Type 0
IsDigit c = IsInRange digit_0 digit_9 c

-- the text is one digit or more
abbrev pub AreDigits : List ℕ → Type 0
AreDigits ds = (0 < length ds) × AllByRecursion IsDigit ds

-- the text is the integer part of a number: `0` alone, or digits of which the first is not `0`
abbrev pub IsInt : List ℕ → Type 0
IsInt [] = ⊥
IsInt (c ∷ cs) = ((c ≡ digit_0) × (cs ≡ [])) ⊎ (IsInRange digit_1 digit_9 c × AllByRecursion IsDigit cs)

-- the text is empty or `-`
abbrev pub IsMinus : List ℕ → Type 0
IsMinus x = (x ≡ []) ⊎ (x ≡ minus_sign ∷ [])

-- the text is empty, or `.` and one digit or more
abbrev pub IsFraction : List ℕ → Type 0
IsFraction x = (x ≡ []) ⊎ ((ds : List ℕ) × (x ≡ decimal_point ∷ ds) × AreDigits ds)

-- the text is empty, `+` or `-`
abbrev pub IsSign : List ℕ → Type 0
IsSign x = (x ≡ []) ⊎ ((x ≡ plus_sign ∷ []) ⊎ (x ≡ minus_sign ∷ []))

-- the text is empty, or `e` or `E`, then a sign or none, then one digit or more
abbrev pub IsExponent : List ℕ → Type 0
IsExponent x = (x ≡ []) ⊎ ((e : ℕ) × (sign ds : List ℕ) × (x ≡ e ∷ (sign ++ ds)) × ((e ≡ letter_e) ⊎ (e ≡ letter_E))
    × IsSign sign × AreDigits ds)

-- the text x is a number: a minus or none, an integer part, a fraction or none, and an exponent or none
pub record IsNumberText (x : List ℕ) : Type 0 where
  pub minus : List ℕ
  pub int : List ℕ
  pub fraction : List ℕ
  pub exponent : List ℕ
  pub text : x ≡ minus ++ (int ++ (fraction ++ exponent))
  pub is_minus : IsMinus minus
  pub is_int : IsInt int
  pub is_fraction : IsFraction fraction
  pub is_exponent : IsExponent exponent

-- ---- the leaf

-- whether the text contains no `.`, no `e` and no `E`
abbrev pub is_plain : List ℕ → Bool
is_plain [] = true
is_plain (c ∷ cs) = not ((c == decimal_point) || (c == letter_e) || (c == letter_E)) && is_plain cs

-- whether the text begins with `-`
abbrev pub begins_minus : List ℕ → Bool
begins_minus x = slice_index x 0 == minus_sign

-- the leaf of a number whose text x is the digits ds: an integer if it is below 2 ^ 64, and else the number text x
abbrev pub leaf_of_digits : List ℕ → List ℕ → Tree
leaf_of_digits ds x = if nat_lt (digits_value 10 ds) (2 ^ 64) then nonneg (digits_value 10 ds) else num x

-- the leaf of a number text x that is a minus and the digits ds: an integer if it is - 2 ^ 63 or
-- above, and else the number text x
abbrev pub leaf_of_negated : List ℕ → List ℕ → Tree
leaf_of_negated ds x = if nat_le (digits_value 10 ds) (2 ^ 63) then neg (neg_ℤ (pos (digits_value 10 ds))) else num x

-- the leaf of a number text: an integer if it has no fraction and no exponent and is in range, and else the text
-- itself
unfoldable pub leaf : List ℕ → Tree
leaf x = if is_plain x then if begins_minus x then leaf_of_negated (drop 1 x) x else leaf_of_digits x x else num x

-- x is a number text, and t is its leaf
abbrev pub IsNumber : List ℕ → Tree → Type 0
IsNumber x t = IsNumberText x × (leaf x ≡ t)

-- Worked cases: `-0` is a number text, and `01` is no integer part.
pub negated_zero : IsNumberText (codes "-0")
negated_zero = record {
  minus = codes "-";
  int = codes "0";
  fraction = [];
  exponent = [];
  text = refl;
  is_minus =
      inr refl;
  is_int = inl (refl, refl);
  is_fraction = inl refl;
  is_exponent = inl refl;
}

pub leading_zero : IsInt (digit_0 ∷ digit_1 ∷ []) → ⊥
leading_zero (inl h) = let e : digit_1 ∷ [] ≡ [] = h.1 in absurd (cc)
leading_zero (inr h) = omega (arith, h.0.0)
