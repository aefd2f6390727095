-- If a conditional or a chain of options has a value, its test and the value before the last step are known. Each
-- lemma is by cases on the test or the option; the last ones do the same for the first byte of a list and for the
-- part before a suffix.
use Rattle.std.proofs.Common.{◌≡◌, ℕ, suc, ◌-◌, Bool, true, false, cond, List, [], ◌∷◌, ◌++◌, length, take, drop}
use Rattle.std.proofs.Common.{Option, Some, None, refl, ap, sym, ◌∙◌, inl, inr, arith}
use Rattle.std.specs.Prelude.{◌⊎◌, ◌&&◌, slice_index, option_and_then, option_map, is_some, if◌then◌else◌}
use Rattle.std.proofs.lemmas.Bool.{true≢false}
use Rattle.std.proofs.lemmas.List.{take-append-le, length-append, take_all}
use Rattle.miniserde_text.specs.private.Reading.{before}

-- a conditional is its first branch, with the test true, or its second, with the test false
pub chosen : {A : Type 0} (b : Bool) (x y z : A) → cond b x y ≡ z → ((b ≡ true) × (x ≡ z)) ⊎ ((b ≡ false) × (y ≡ z))
chosen true x y z e = inl (refl, e)
chosen false x y z e = inr (refl, e)

-- if a conditional of `None` and x is `Some y`, its test is false, and x is `Some y`
pub none_if : {A : Type 0} (b : Bool) (x : Option A) (y : A) → cond b None x ≡ Some y → (b ≡ false) × (x ≡ Some y)
none_if true x y e = cc
none_if false x y e = (refl, e)

-- if a conditional of x and `None` is `Some y`, its test is true, and x is `Some y`
pub then_if : {A : Type 0} (b : Bool) (x : Option A) (y : A) → cond b x None ≡ Some y → (b ≡ true) × (x ≡ Some y)
then_if true x y e = (refl, e)
then_if false x y e = cc

-- if `map` of f gives `Some y`, the option is `Some x`, and f x is y, for an x
pub map_some : {A B : Type 0} (f : A → B) (o : Option A) (y : B) → option_map f o ≡ Some y → (x : A) × (o ≡ Some x) × (f x ≡ y)
map_some f None y e = cc
map_some f (Some x) y e = (x, refl, cc)

-- if `and_then` of f gives `Some y`, the option is `Some x`, and f x is `Some y`, for an x
pub bind_some : {A B : Type 0} (f : A → Option B) (o : Option A) (y : B) → option_and_then f o ≡ Some y
    → (x : A) × (o ≡ Some x) × (f x ≡ Some y)
bind_some f None y e = cc
bind_some f (Some x) y e = (x, refl, e)

-- no option is both `None` and `Some x`
pub none_is_some : {A : Type 0} (o : Option A) (x : A) → o ≡ None → o ≡ Some x → ⊥
none_is_some o x n e = true≢false (sym (ap is_some e) ∙ ap is_some n)

-- if P holds for both branches, it holds for the conditional
pub if_cases : {A : Type 0} (b : Bool) (P : A → Type 0) (x y : A) → P x → P y → P (if b then x else y)
if_cases true P x y p q = p
if_cases false P x y p q = q

-- if a conjunction is true, so are both its parts
pub and_parts : (a b : Bool) → (a && b) ≡ true → (a ≡ true) × (b ≡ true)
and_parts true b e = (refl, e)
and_parts false b e = absurd (true≢false (sym e))

-- if the byte at index 0 is c + 1, and so is not 0, t is that byte and then `drop 1 t`
pub first_byte : (t : List ℕ) (c : ℕ) → slice_index t 0 ≡ suc c → t ≡ suc c ∷ drop 1 t
first_byte [] c e = cc
first_byte (x ∷ xs) c e = ap (λ y. y ∷ xs) e

-- if the first byte of t passes a test that 0 fails, it is there: t is that byte, and `drop 1 t`
pub first_of_test : (p : ℕ → Bool) (t : List ℕ) → p 0 ≡ false → p (slice_index t 0) ≡ true → t ≡ slice_index t 0 ∷ drop 1 t
first_of_test p [] z h = absurd (true≢false (sym h ∙ z))
first_of_test p (x ∷ xs) z h = refl

-- the bytes of b ++ r before r are b
pub before_append : (b r : List ℕ) → before (b ++ r) r ≡ b
before_append b r =
    let n : length (b ++ r) - length r ≡ length b = omega (arith, length-append b r) in
    ap (λ k. take k (b ++ r)) n ∙ take-append-le (length b) b r (omega arith) ∙ take_all (length b) b (omega arith)

-- if t is b ++ r, the bytes of t before r are b
pub before_is : (t b r : List ℕ) → t ≡ b ++ r → before t r ≡ b
before_is t b r e = ap (λ x. before x r) e ∙ before_append b r
