-- A text begins with at most one number, if no byte of number texts follows it. Each part of a number consists of
-- such bytes, so the number is the longest prefix of them (`same_run`).
use Rattle.std.proofs.Common.{◌≡◌, ℕ, ◌⊎◌, true, List, [], ◌∷◌, ◌++◌, refl, sym, ap, ◌∙◌, arith, inl, inr}
use Rattle.std.specs.List.{AllByRecursion}
use Rattle.std.proofs.lemmas.Bool.Decides.{nat_tests}
use Rattle.miniserde_model.specs.Tree.{Tree}
use Rattle.miniserde_model.specs.Number.{IsDigit, IsInt, IsMinus, IsFraction, IsSign, IsExponent, IsNumberText, IsNumber, leaf}
use Rattle.miniserde_model.specs.Bytes.{is_number_byte, StopsAt}
use Rattle.miniserde_model.proofs.LongestRuns.{AllPass, LongestRun, same_run, pass_append}
use Rattle.miniserde_model.proofs.Prefixes.{Prefix}

digit_byte : (c : ℕ) → IsDigit c → is_number_byte c ≡ true
digit_byte c h = grind (arith, nat_tests)

digits_pass : (ds : List ℕ) → AllByRecursion IsDigit ds → AllPass is_number_byte ds
digits_pass [] h = tt
digits_pass (c ∷ cs) h = (digit_byte c h.0, digits_pass cs h.1)

whole_pass : (x : List ℕ) → IsInt x → AllPass is_number_byte x
whole_pass [] h = absurd h
whole_pass (c ∷ cs) (inl h) = rw (h.0, h.1) (refl, tt)
whole_pass (c ∷ cs) (inr h) = (grind (arith, nat_tests), digits_pass cs h.1)

minus_pass : (x : List ℕ) → IsMinus x → AllPass is_number_byte x
minus_pass x (inl h) = rw h tt
minus_pass x (inr h) = rw h (refl, tt)

sign_pass : (x : List ℕ) → IsSign x → AllPass is_number_byte x
sign_pass x (inl h) = rw h tt
sign_pass x (inr (inl h)) = rw h (refl, tt)
sign_pass x (inr (inr h)) = rw h (refl, tt)

fraction_pass : (x : List ℕ) → IsFraction x → AllPass is_number_byte x
fraction_pass x (inl h) = rw h tt
fraction_pass x (inr h) = rw h.1 (refl, digits_pass h.0 h.2.1)

e_pass : (c : ℕ) → (c ≡ 101) ⊎ (c ≡ 69) → is_number_byte c ≡ true
e_pass c (inl h) = rw h refl
e_pass c (inr h) = rw h refl

exponent_pass : (x : List ℕ) → IsExponent x → AllPass is_number_byte x
exponent_pass x (inl h) = rw h tt
exponent_pass x (inr h) = rw h.3 (e_pass h.0 h.4, pass_append is_number_byte h.1 h.2 (sign_pass h.1 h.5) (digits_pass h.2 h.6.1))

-- each byte of a number text passes `is_number_byte`
pub number_pass : (x : List ℕ) → IsNumberText x → AllPass is_number_byte x
number_pass x n =
    let tail = pass_append is_number_byte n.fraction n.exponent (fraction_pass n.fraction n.is_fraction)
    (exponent_pass n.exponent n.is_exponent) in
    let more = pass_append is_number_byte n.int (n.fraction ++ n.exponent) (whole_pass n.int n.is_int) tail in
    rw n.text (pass_append is_number_byte n.minus _ (minus_pass n.minus n.is_minus) more)

-- if s is the number text a and then x, which begins with no byte of a number, a is the longest run of such bytes
pub number_run : {s a x : List ℕ} → s ≡ a ++ x → IsNumberText a → StopsAt is_number_byte x → LongestRun is_number_byte s a x
number_run {a = a} e n k = record { text = e; pass = number_pass a n; stops = k }

-- if a is a number with the leaf t, b one with u, x and y end numbers, and `a ++ x` is `b ++ y`: t is u, and x is y
pub same_number : (t u : Tree) → Prefix (λ a. IsNumber a t) (λ b. IsNumber b u) (StopsAt is_number_byte) (t ≡ u)
same_number t u a b x y p q sx sy e =
    let run = same_run (number_run refl p.0 sx) (number_run e q.0 sy) in
    (sym p.1 ∙ ap leaf run.0 ∙ q.1, run.1)
