-- The laws of `bool`, integers and texts: their trees mean the values that have them, no two values have one tree, and
-- no tree is `null`. By the definitions of the trees.
use Rattle.std.proofs.Common.{◌≡◌, ◌<◌, ◌^◌, ◌-◌, ℕ, ℤ, pos, negsuc, true, nat_lt, List, refl, sym, ap, subst, arith}
use Rattle.std.specs.Prelude.{Bool, FitsSigned, ⊤}
use Rattle.std.proofs.lemmas.Bool.Decides.{nat_tests}
use mir.Syntax.{Width}
use Rattle.miniserde_model.specs.Tree.{Tree, null, truth, nonneg, str}
use Rattle.miniserde_read.specs.types.Integers.{fits_signed, ReadsUnsigned, ReadsSigned}
use Rattle.miniserde_keys.specs.Integers.{integer}
use Rattle.miniserde_keys.specs.laws.Bits.{HasBits}
use Rattle.miniserde_laws.specs.RoundTrip.{RoundTrips, IsLossless}

-- ---- the tree of a value is read back

-- a tree that means exactly the values that have it
pub leaf-round_trips : {T : Type 0} (f : T → Tree) (v : T) → RoundTrips (λ _. ⊤) f (λ t w. t ≡ f w) (f v)
leaf-round_trips f v = ((v, tt, refl), λ w r e. sym e)

-- the tree of an unsigned integer in range means one, and each one that it means has that tree
pub unsigned-round_trips : (bits n : ℕ) → n < 2 ^ bits → RoundTrips (λ n. n < 2 ^ bits) nonneg (ReadsUnsigned bits) (nonneg n)
unsigned-round_trips bits n h = ((n, h, (refl, h)), λ w r e. sym e.0)

integer-read : (bits : ℕ) (z : ℤ) → fits_signed bits z ≡ true → ReadsSigned bits (integer z) z
integer-read bits (pos n) h = (refl, h)
integer-read bits (negsuc n) h = (refl, h)

integer-same : (bits : ℕ) (z w : ℤ) → ReadsSigned bits (integer z) w → integer w ≡ integer z
integer-same bits (pos n) w h = ap integer (sym h.0)
integer-same bits (negsuc n) w h = ap integer (sym h.0)

passes : (k n : ℕ) → n < k → nat_lt n k ≡ true
passes k n h = grind (arith, nat_tests)

-- a number of a signed type passes its test
signed-valid : {bits : ℕ} {w : Width} → HasBits w bits → (z : ℤ) → FitsSigned w z → fits_signed bits z ≡ true
signed-valid {bits = bits} has (pos n) h = passes (2 ^ (bits - 1)) n (subst (λ k. n < 2 ^ k) has.besides_sign h.sfits)
signed-valid {bits = bits} has (negsuc n) h = passes (2 ^ (bits - 1)) n (subst (λ k. n < 2 ^ k) has.besides_sign h.sfits)

-- the tree of a signed integer in range means one, and each one that it means has that tree
pub signed-round_trips : {bits : ℕ} {w : Width} → HasBits w bits → (z : ℤ) → FitsSigned w z
    → RoundTrips (FitsSigned w) integer (ReadsSigned bits) (integer z)
signed-round_trips {bits = bits} has z h = ((z, h, integer-read bits z (signed-valid has z h)), λ v r i. integer-same bits z v i)

-- ---- no two values have one tree

-- booleans with equal trees are equal
pub boolean-same : IsLossless (λ _. ⊤) truth (λ b. b)
boolean-same v w r s e = cc

-- texts with equal trees have equal bytes
pub text-same : {T : Type 0} (bytes : T → List ℕ) → IsLossless (λ _. ⊤) (λ v. str (bytes v)) bytes
text-same bytes v w r s e = cc

-- unsigned integers with equal trees have equal contents
pub unsigned-same : (bits : ℕ) → IsLossless (λ n. n < 2 ^ bits) nonneg (λ n. pos n)
unsigned-same bits v w r s e = let i : v ≡ w = cc in ap pos i

-- signed integers with equal trees are equal
pub signed-same : (w : Width) → IsLossless (FitsSigned w) integer (λ z. z)
signed-same w (pos n) (pos m) r s e = let i : n ≡ m = cc in ap pos i
signed-same w (pos n) (negsuc m) r s e = absurd (cc)
signed-same w (negsuc n) (pos m) r s e = absurd (cc)
signed-same w (negsuc n) (negsuc m) r s e = cc

-- ---- no tree is `null`

-- the tree of a boolean is not `null`
pub boolean-not_null : (v : Bool) → ⊤ → truth v ≡ null → ⊥
boolean-not_null v r e = cc

-- the tree of a text is not `null`
pub text-not_null : {T : Type 0} (bytes : T → List ℕ) (v : T) → ⊤ → str (bytes v) ≡ null → ⊥
text-not_null bytes v r e = cc

-- the tree of an unsigned integer is not `null`
pub unsigned-not_null : (bits v : ℕ) → v < 2 ^ bits → nonneg v ≡ null → ⊥
unsigned-not_null bits v r e = cc

-- the tree of a signed integer is not `null`
pub signed-not_null : (w : Width) (v : ℤ) → FitsSigned w v → integer v ≡ null → ⊥
signed-not_null w (pos n) r e = cc
signed-not_null w (negsuc n) r e = cc
