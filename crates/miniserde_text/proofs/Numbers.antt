-- Reading a number takes exactly the numbers of the grammar. Part by part, for whole part, fraction and exponent: a
-- lemma `X_takes` shows that the bytes read are an X of the grammar, and `X_only` that each X is read.
use Rattle.std.proofs.Common.{◌≡◌, ◌≢◌, ℕ, zero, suc, ◌+◌, ◌<◌, ◌≤◌, ◌==◌, Bool, true, false, cond, List, []}
use Rattle.std.proofs.Common.{◌∷◌, ◌++◌, length, take, drop, Some, None, refl, ap, sym, subst, ◌∙◌, inl, inr, arith}
use Rattle.std.proofs.Common.{eqb-true, eq-eqb, append_assoc}
use Rattle.std.specs.Prelude.{◌⊎◌, slice_index, option_and_then}
use Rattle.std.specs.List.{AllByRecursion, prefix_len}
use Rattle.std.proofs.lemmas.List.{take-append-drop, length-take-le}
use Rattle.std.proofs.lemmas.List.Sums.{prefix_len-le-length}
use Rattle.std.proofs.lemmas.Bool.Decides.{nat_tests}
use Rattle.std.proofs.lemmas.Bool.{true≢false}
use Rattle.miniserde_model.specs.Step.{Step}
use Rattle.miniserde_model.specs.Number.{IsDigit, AreDigits, IsInt, IsMinus, IsFraction, IsSign, IsExponent, IsNumberText, leaf}
use Rattle.miniserde_model.specs.Bytes.{is_number_byte, StopsAt}
use Rattle.miniserde_model.proofs.LongestRuns.{AllPass}
use Rattle.miniserde_text.specs.private.Reading.{after_run, is_digit, is_sign, is_exponent_letter, after_digits}
use Rattle.miniserde_text.specs.private.Reading.{after_minus, after_int, after_fraction, after_sign, after_exponent}
use Rattle.miniserde_text.specs.private.Reading.{after_tail, before, event_of_parts, event_at, number_at}
use Rattle.miniserde_text.specs.private.LexerParts.{BeginsWith}
use Rattle.miniserde_text.proofs.ByteRuns.{run_split, run_only, stops_at, stops_of, or_true}
use Rattle.std.proofs.lemmas.Option.{cond_some, same_Some}
use Rattle.miniserde_text.proofs.Options.{chosen, none_if, bind_some, first_byte, first_of_test, before_append, before_is}
use Rattle.miniserde_text.proofs.Leaves.{event_of, sign_of, whole_digits, int_has_no_minus, number_event_of_text}

-- a byte that passes `is_digit` is a digit
pub digit_of : (c : ℕ) → is_digit c ≡ true → IsDigit c
digit_of c h = (grind (arith, nat_tests), grind (arith, nat_tests))

digits_of : (w : List ℕ) → AllPass is_digit w → AllByRecursion IsDigit w
digits_of [] h = tt
digits_of (c ∷ w) h = (digit_of c h.0, digits_of w h.1)

digit_passes : (c : ℕ) → IsDigit c → is_digit c ≡ true
digit_passes c h = grind (arith, nat_tests)

digits_pass : (w : List ℕ) → AllByRecursion IsDigit w → AllPass is_digit w
digits_pass [] h = tt
digits_pass (c ∷ w) h = (digit_passes c h.0, digits_pass w h.1)

-- ---- what is read

digits_takes : (t r : List ℕ) → after_digits t ≡ Some r → BeginsWith AreDigits t r
digits_takes [] r e = cc
digits_takes (x ∷ xs) r e =
    let q = cond_some (is_digit x) (after_run is_digit (x ∷ xs)) r e in
    let w = run_split is_digit xs in
    let rest : after_run is_digit xs ≡ r = sym (ap (λ b. cond b (after_run is_digit xs) (x ∷ xs)) q.0) ∙ q.1 in
    (x ∷ w.0, (omega arith, (digit_of x q.0, digits_of w.0 w.1)), ap (λ t. x ∷ t) (w.2 ∙ ap (λ t. w.0 ++ t) rest))

whole_of_digits : (t r w : List ℕ) → t ≡ w ++ r → (slice_index t 0 == 48) ≡ false → AreDigits w → IsInt w
whole_of_digits t r [] j e h = absurd (omega arith)
whole_of_digits t r (c ∷ cs) j e h =
    let away : c ≢ 48 = λ z. true≢false (sym (eq-eqb _ 48 (ap (λ x. slice_index x 0) j ∙ z)) ∙ e) in
    inr ((omega arith, h.1.0.1), h.1.1)

-- if `after_int` leaves r of t, t begins with an integer part, and r is the rest
pub whole_takes : (t r : List ℕ) → after_int t ≡ Some r → BeginsWith IsInt t r
whole_takes t r e =
    elim (chosen (slice_index t 0 == 48) _ _ _ e) [
      | inl p ↦ (48 ∷ [], inl (refl, refl), first_byte t 47 (eqb-true _ 48 p.0) ∙ ap (λ x. 48 ∷ x) (same_Some _ _ p.1))
      | inr p ↦ let d = digits_takes t r p.1 in (d.0, whole_of_digits t r d.0 d.2 p.0 d.1, d.2)
    ]

fraction_takes : (t r : List ℕ) → after_fraction t ≡ Some r → BeginsWith IsFraction t r
fraction_takes t r e =
    elim (chosen (slice_index t 0 == 46) _ _ _ e) [
      | inl p ↦ let d = digits_takes (drop 1 t) r p.1 in
          (46 ∷ d.0, inr (d.0, refl, d.1), first_byte t 45 (eqb-true _ 46 p.0) ∙ ap (λ x. 46 ∷ x) d.2)
      | inr p ↦ ([], inl refl, same_Some _ _ p.1)
    ]

sign_is : (c : ℕ) → is_sign c ≡ true → IsSign (c ∷ [])
sign_is c h = elim (or_true (c == 43) (c == 45) h) [
  | inl d ↦ inr (inl (ap (λ x. x ∷ []) (eqb-true c 43 d)))
  | inr d ↦ inr (inr (ap (λ x. x ∷ []) (eqb-true c 45 d)))
]

letter_is : (c : ℕ) → is_exponent_letter c ≡ true → (c ≡ 101) ⊎ (c ≡ 69)
letter_is c h = elim (or_true (c == 101) (c == 69) h) [
  | inl d ↦ inl (eqb-true c 101 d)
  | inr d ↦ inr (eqb-true c 69 d)
]

-- digits with a sign or without
record Signed (t r : List ℕ) : Type 0 where
  sign : List ℕ
  digits : List ℕ
  is_sign : IsSign sign
  are_digits : AreDigits digits
  text : t ≡ sign ++ (digits ++ r)

signed_cases : (t r : List ℕ) (b : Bool) → is_sign (slice_index t 0) ≡ b → after_digits (cond b (drop 1 t) t) ≡ Some r → Signed t r
signed_cases t r true s e =
    let d = digits_takes (drop 1 t) r e in
    record {
      sign = slice_index t 0 ∷ [];
      digits = d.0;
      is_sign = sign_is _ s;
      are_digits = d.1;
      text =
          first_of_test is_sign t refl s ∙ ap (λ x. slice_index t 0 ∷ x) d.2;
    }
signed_cases t r false s e = let d = digits_takes t r e in
    record { sign = []; digits = d.0; is_sign = inl refl; are_digits = d.1; text = d.2 }

exponent_takes : (t r : List ℕ) → after_exponent t ≡ Some r → BeginsWith IsExponent t r
exponent_takes t r e =
    elim (chosen (is_exponent_letter (slice_index t 0)) _ _ _ e) [
      | inl p ↦
          let d = signed_cases (drop 1 t) r (is_sign (slice_index (drop 1 t) 0)) refl p.1 in
          let c : ℕ = slice_index t 0 in (
            c ∷ (d.sign ++ d.digits),
            inr (c, d.sign, d.digits, refl, letter_is c p.0, d.is_sign, d.are_digits),
            first_of_test is_exponent_letter t refl p.0 ∙ ap (λ x. c ∷ x) (d.text ∙ sym (append_assoc d.sign d.digits r)),
          )
      | inr p ↦ ([], inl refl, same_Some _ _ p.1)
    ]

minus_cases : (t : List ℕ) (m : Bool) → (slice_index t 0 == 45) ≡ m → t ≡ sign_of m ++ cond m (drop 1 t) t
minus_cases t true e = first_byte t 44 (eqb-true _ 45 e)
minus_cases t false e = refl

minus_takes : (t : List ℕ) → t ≡ sign_of (slice_index t 0 == 45) ++ after_minus t
minus_takes t = minus_cases t (slice_index t 0 == 45) refl

minus_is : (m : Bool) → IsMinus (sign_of m)
minus_is true = inr refl
minus_is false = inl refl

-- a fraction and an exponent
abbrev pub IsTail : List ℕ → Type 0
IsTail b = (f e : List ℕ) × IsFraction f × IsExponent e × (b ≡ f ++ e)

-- if `after_tail` leaves r of w, w begins with a fraction and an exponent, and r is the rest
pub tail_takes : (w r : List ℕ) → after_tail w ≡ Some r → BeginsWith IsTail w r
tail_takes w r h =
    let v = bind_some after_exponent (after_fraction w) r h in
    let f = fraction_takes w v.0 v.1 in
    let e = exponent_takes v.0 r v.2 in
    (f.0 ++ e.0, (f.0, e.0, f.1, e.1, refl), f.2 ∙ ap (λ x. f.0 ++ x) e.2 ∙ sym (append_assoc f.0 e.0 r))

-- a number text in front, its event, and where it ends
pub record Numbered (t : List ℕ) (e : Step) (r : List ℕ) : Type 0 where
  pub number : List ℕ
  pub is_number : IsNumberText number
  pub event : event_of (leaf number) ≡ e
  pub text : t ≡ number ++ r
  pub ends : is_number_byte (slice_index r 0) ≡ false

number_of : (t w r : List ℕ) → BeginsWith IsInt (after_minus t) w → BeginsWith IsTail w r → is_number_byte (slice_index r 0) ≡ false
    → Numbered t (event_of_parts (before t r) (slice_index t 0 == 45) (before (after_minus t) w) (before w r)) r
number_of t w r (int, is_int, jw) (tail, (fraction, exponent, is_fraction, is_exponent, jt), jr) ends =
    let m : Bool = slice_index t 0 == 45 in
    let sign : List ℕ = sign_of m in
    let b : List ℕ = sign ++ (int ++ (fraction ++ exponent)) in
    let joined : t ≡ b ++ r =
    minus_takes t ∙ ap (λ x. sign ++ x)
    (jw ∙ ap (λ x. int ++ x) (jr ∙ ap (λ x. x ++ r) jt) ∙ sym (append_assoc int (fraction ++ exponent) r))
    ∙ sym (append_assoc sign (int ++ (fraction ++ exponent)) r) in
    let n : IsNumberText b =
    record {
      minus = sign;
      int = int;
      fraction = fraction;
      exponent = exponent;
      text = refl;
      is_minus =
          minus_is m;
      is_int = is_int;
      is_fraction = is_fraction;
      is_exponent = is_exponent;
    } in
    let e1 : before t r ≡ b = before_is t b r joined in
    let e2 : before (after_minus t) w ≡ int = before_is _ int w jw in
    let e3 : before w r ≡ fraction ++ exponent = before_is w _ r jr ∙ jt in
    record {
      number = b;
      is_number = n;
      event =
          rw (e1, e2, e3) (sym (number_event_of_text m int fraction exponent is_int is_fraction is_exponent));
      text =
          joined;
      ends = ends;
    }

-- if `number_at` reads the event e from t and leaves r, t begins with a number text of e, and r is the rest
pub number_takes : (t : List ℕ) (e : Step) (r : List ℕ) → number_at t ≡ Some (e, r) → Numbered t e r
unfolding number_at
number_takes t e r h =
    let w = bind_some _ (after_int (after_minus t)) (e, r) h in
    let q = bind_some _ (after_tail w.0) (e, r) w.2 in
    let one = none_if _ _ _ q.2 in
    subst (λ x. Numbered t x.0 x.1) (same_Some _ _ one.1)
    (number_of t w.0 q.0 (whole_takes (after_minus t) w.0 w.1) (tail_takes w.0 q.0 q.1) one.0)

-- if `after_int` leaves w of t without its minus, and `after_tail` leaves r of w, t ends with r
pub splits_at : (t w r : List ℕ) → after_int (after_minus t) ≡ Some w → after_tail w ≡ Some r → (b : List ℕ) × (t ≡ b ++ r)
splits_at t w r h k =
    let p = whole_takes (after_minus t) w h in
    let q = tail_takes w r k in
    let sign : List ℕ = sign_of (slice_index t 0 == 45) in (
      sign ++ (p.0 ++ q.0),
      minus_takes t ∙ ap (λ x. sign ++ x)
          (p.2 ∙ ap (λ x. p.0 ++ x) q.2 ∙ sym (append_assoc p.0 q.0 r)) ∙ sym (append_assoc sign (p.0 ++ q.0) r),
    )

-- the bytes w of t before the rest that `after_int` leaves are digits
pub whole_before : (t r w : List ℕ) → after_int t ≡ Some r → w ≡ before t r → AllByRecursion IsDigit w
whole_before t r w h e =
    let p = whole_takes t r h in
    subst (AllByRecursion IsDigit) (sym (e ∙ before_is t p.0 r p.2)) (whole_digits p.0 p.1)

-- ---- what the grammar has is read

number_byte_parts : (c : ℕ) → is_number_byte c ≡ false → (is_digit c ≡ false) × ((c == 46) ≡ false) × (is_exponent_letter c ≡ false)
number_byte_parts c h = (grind (arith, nat_tests), grind (arith, nat_tests), grind (arith, nat_tests))

digit_no_sign : (c : ℕ) → IsDigit c → is_sign c ≡ false
digit_no_sign c h = grind (arith, nat_tests)

digits_only : (d r : List ℕ) → AreDigits d → is_digit (slice_index r 0) ≡ false → after_digits (d ++ r) ≡ Some r
digits_only [] r h stop = absurd (omega arith)
digits_only (c ∷ cs) r h stop =
    ap (λ b. cond b (Some (after_run is_digit (c ∷ (cs ++ r)))) None) (digit_passes c h.1.0)
    ∙ ap Some (run_only is_digit (c ∷ cs) r (digits_pass (c ∷ cs) h.1) (stops_at is_digit r stop))

large_no_zero : (c : ℕ) → 49 ≤ c → (c == 48) ≡ false
large_no_zero c h = grind (arith, nat_tests)

whole_only : (d r : List ℕ) → IsInt d → is_digit (slice_index r 0) ≡ false → after_int (d ++ r) ≡ Some r
whole_only [] r h stop = absurd h
whole_only (c ∷ cs) r (inl h) stop = rw (h.0, h.1) refl
whole_only (c ∷ cs) r (inr h) stop =
    ap (λ b. cond b (Some (cs ++ r)) (after_digits (c ∷ (cs ++ r)))) (large_no_zero c h.0.0) ∙ digits_only (c ∷ cs)
    r (omega arith, ((omega arith, h.0.1), h.1)) stop

fraction_only : (d r : List ℕ) → IsFraction d → is_digit (slice_index r 0) ≡ false → (slice_index r 0 == 46) ≡ false
    → after_fraction (d ++ r) ≡ Some r
fraction_only d r (inl h) stop away = rw h (ap (λ b. cond b (after_digits (drop 1 r)) (Some r)) away)
fraction_only d r (inr h) stop away = rw (h.1) (digits_only h.0 r h.2 stop)

digits_signed : (d r : List ℕ) → AreDigits d → is_digit (slice_index r 0) ≡ false → after_digits (after_sign (d ++ r)) ≡ Some r
digits_signed [] r h stop = absurd (omega arith)
digits_signed (c ∷ cs) r h stop = ap (λ b. after_digits (cond b (cs ++ r) (c ∷ (cs ++ r)))) (digit_no_sign c h.1.0)
    ∙ digits_only (c ∷ cs) r h stop

signed_only : (s d r : List ℕ) → IsSign s → AreDigits d → is_digit (slice_index r 0) ≡ false
    → after_digits (after_sign (s ++ (d ++ r))) ≡ Some r
signed_only s d r (inl h) k stop = rw h (digits_signed d r k stop)
signed_only s d r (inr (inl h)) k stop = rw h (digits_only d r k stop)
signed_only s d r (inr (inr h)) k stop = rw h (digits_only d r k stop)

letter_passes : (c : ℕ) → (c ≡ 101) ⊎ (c ≡ 69) → (is_exponent_letter c ≡ true) × (is_digit c ≡ false) × ((c == 46) ≡ false)
letter_passes c (inl h) = rw h (refl, refl, refl)
letter_passes c (inr h) = rw h (refl, refl, refl)

exponent_only : (d r : List ℕ) → IsExponent d → is_digit (slice_index r 0) ≡ false
    → is_exponent_letter (slice_index r 0) ≡ false → after_exponent (d ++ r) ≡ Some r
exponent_only d r (inl h) stop away = rw h (ap (λ b. cond b (after_digits (after_sign (drop 1 r))) (Some r)) away)
exponent_only d r (inr h) stop away =
    let t : List ℕ = h.1 ++ h.2 in
    rw (h.3) (
    ap (λ b. cond b (after_digits (after_sign (t ++ r))) (Some (h.0 ∷ (t ++ r)))) (letter_passes h.0 h.4).0
    ∙ ap (λ x. after_digits (after_sign x)) (append_assoc h.1 h.2 r) ∙ signed_only h.1 h.2 r h.5 h.6 stop)

-- no digit and no point stands where an exponent may begin, and no digit where a fraction may
before_exponent : (e r : List ℕ) → IsExponent e → is_number_byte (slice_index r 0) ≡ false
    → (is_digit (slice_index (e ++ r) 0) ≡ false) × ((slice_index (e ++ r) 0 == 46) ≡ false)
before_exponent e r (inl h) ends = let p = number_byte_parts _ ends in rw h (p.0, p.1)
before_exponent e r (inr h) ends = let p = letter_passes h.0 h.4 in rw (h.3) (p.1, p.2)

-- no digit stands where a fraction and an exponent may begin
tail_stops : (t r : List ℕ) → IsTail t → is_number_byte (slice_index r 0) ≡ false → is_digit (slice_index (t ++ r) 0) ≡ false
tail_stops t r (f, e, inl h, k, j) ends = rw (j, h) (before_exponent e r k ends).0
tail_stops t r (f, e, inr h, k, j) ends = rw (j, h.1) refl

-- `after_tail` passes over a fraction and an exponent
tail_only : (t r : List ℕ) → IsTail t → is_number_byte (slice_index r 0) ≡ false → after_tail (t ++ r) ≡ Some r
tail_only t r (f, e, is_fraction, is_exponent, j) ends =
    let parts = number_byte_parts (slice_index r 0) ends in
    let at_e = before_exponent e r is_exponent ends in
    ap (λ x. after_tail (x ++ r)) j ∙ ap after_tail (append_assoc f e r)
    ∙ ap (option_and_then after_exponent) (fraction_only f (e ++ r) is_fraction at_e.0 at_e.1)
    ∙ exponent_only e r is_exponent parts.0 parts.2

sign_only : (m : Bool) (t : List ℕ) → (slice_index t 0 == 45) ≡ false → ((slice_index (sign_of m ++ t) 0 == 45) ≡ m)
    × (after_minus (sign_of m ++ t) ≡ t)
sign_only true t h = (refl, refl)
sign_only false t h = (h, ap (λ b. cond b (drop 1 t) t) h)

-- a minus or none, an integer part w and a tail t are read as the event of these parts
read_parts : (m : Bool) (w t r : List ℕ) → IsInt w → IsTail t → is_number_byte (slice_index r 0) ≡ false
    → number_at (sign_of m ++ (w ++ (t ++ r))) ≡ Some (event_of_parts (sign_of m ++ (w ++ t)) m w t, r)
unfolding number_at
read_parts m w t r is_int is_tail ends =
    let s : List ℕ = sign_of m ++ (w ++ (t ++ r)) in
    let sign = sign_only m (w ++ (t ++ r)) (int_has_no_minus w _ is_int) in
    let first : after_int (after_minus s) ≡ Some (t ++ r) = ap after_int sign.1 ∙ whole_only w _ is_int (tail_stops t r is_tail ends) in
    let text : before s r ≡ sign_of m ++ (w ++ t) =
    before_is s _ r (ap (λ x. sign_of m ++ x) (sym (append_assoc w t r)) ∙ sym (append_assoc (sign_of m) (w ++ t) r)) in
    let int : before (after_minus s) (t ++ r) ≡ w = ap (λ x. before x (t ++ r)) sign.1 ∙ before_append w _ in
    let event : event_at s (t ++ r) r ≡ Some (event_of_parts (sign_of m ++ (w ++ t)) m w t, r) =
    ap (λ b. cond b None (Some (
      event_of_parts (before s r) (slice_index s 0 == 45) (before (after_minus s) (t ++ r))
          (before (t ++ r) r),
      r,
    ))) ends
    ∙ ap (λ x. Some (event_of_parts x (slice_index s 0 == 45) (before (after_minus s) (t ++ r)) (before (t ++ r) r), r)) text
    ∙ ap (λ x. Some (event_of_parts (sign_of m ++ (w ++ t)) x (before (after_minus s) (t ++ r)) (before (t ++ r) r), r)) sign.0
    ∙ ap (λ x. Some (event_of_parts (sign_of m ++ (w ++ t)) m x (before (t ++ r) r), r)) int
    ∙ ap (λ x. Some (event_of_parts (sign_of m ++ (w ++ t)) m w x, r)) (before_append t r) in
    ap (option_and_then (λ x. option_and_then (λ y. event_at s x y) (after_tail x))) first
    ∙ ap (option_and_then (λ y. event_at s (t ++ r) y)) (tail_only t r is_tail ends) ∙ event

minus_of : (x : List ℕ) → IsMinus x → (m : Bool) × (x ≡ sign_of m)
minus_of x (inl h) = (false, h)
minus_of x (inr h) = (true, h)

-- a number text with no byte of a number after it is read as the event of its leaf
pub number_only : (b r : List ℕ) → IsNumberText b → StopsAt is_number_byte r → number_at (b ++ r) ≡ Some (event_of (leaf b), r)
number_only b r n stops =
    let ends = stops_of is_number_byte refl r stops in
    let sign = minus_of n.minus n.is_minus in
    let m : Bool = sign.0 in
    let text : b ≡ sign_of m ++ (n.int ++ (n.fraction ++ n.exponent)) =
    n.text ∙ ap (λ x. x ++ (n.int ++ (n.fraction ++ n.exponent))) sign.1 in
    ap (λ x. number_at (x ++ r)) text
    ∙ ap number_at (append_assoc (sign_of m) _ r ∙ ap (λ x. sign_of m ++ x) (append_assoc n.int _ r))
    ∙ read_parts m n.int (n.fraction ++ n.exponent) r n.is_int
    (n.fraction, n.exponent, n.is_fraction, n.is_exponent, refl) ends
    ∙ ap (λ x. Some (x, r)) (number_event_of_text m n.int n.fraction n.exponent n.is_int n.is_fraction n.is_exponent
    ∙ ap (λ x. event_of (leaf x)) (sym text))

-- ---- a number of digits alone

front_step : (b : Bool) (c k : ℕ) (cs : List ℕ) → is_digit c ≡ b → suc k ≤ cond b (1 + prefix_len is_digit cs) 0
    → (k ≤ prefix_len is_digit cs → AllByRecursion IsDigit (take k cs)) → AllByRecursion IsDigit (c ∷ take k cs)
front_step true c k cs e h rest = (digit_of c e, rest (omega arith))
front_step false c k cs e h rest = let never : ⊥ = omega arith in absurd never

front_digits : (n : ℕ) (s : List ℕ) → n ≤ prefix_len is_digit s → AllByRecursion IsDigit (take n s)
front_digits zero s h = tt
front_digits (suc k) [] h = tt
front_digits (suc k) (c ∷ cs) h = front_step (is_digit c) c k cs refl h (front_digits k cs)

one_digit : (b : Bool) (c : ℕ) → (c == 48) ≡ b → IsDigit c → IsInt (c ∷ [])
one_digit true c e h = inl (eqb-true c 48 e, refl)
one_digit false c e h = whole_of_digits (c ∷ []) [] (c ∷ []) refl e (omega arith, (h, tt))

whole_of : (w r : List ℕ) → AreDigits w → (1 < length w → (slice_index (w ++ r) 0 == 48) ≡ false) → IsInt w
whole_of [] r h z = absurd (omega arith)
whole_of (c ∷ []) r h z = one_digit (c == 48) c refl h.1.0
whole_of (c ∷ d ∷ cs) r h z = whole_of_digits (c ∷ d ∷ (cs ++ r)) r (c ∷ d ∷ cs) refl (z (omega arith)) h

-- n digits in front without a leading zero are an integer part
pub front_int : (t : List ℕ) (n : ℕ) → 0 < n → n ≤ prefix_len is_digit t → (1 < n → (slice_index t 0 == 48) ≡ false) → IsInt (take n t)
front_int t n some digits away =
    let long : length (take n t) ≡ n = length-take-le n t (omega (arith, digits, prefix_len-le-length is_digit t)) in
    whole_of (take n t) (drop n t) (omega (arith, long), front_digits n t digits)
    (λ many. ap (λ x. slice_index x 0 == 48) (take-append-drop n t) ∙ away (omega (arith, long)))

-- an integer part w after a minus or none, with no byte of a number after it, is read as the event of its parts
pub int_read : (s w r : List ℕ) → after_minus s ≡ w ++ r → IsInt w → is_number_byte (slice_index r 0) ≡ false
    → number_at s ≡ Some (event_of_parts (sign_of (slice_index s 0 == 45) ++ (w ++ [])) (slice_index s 0 == 45) w [], r)
int_read s w r j is_int ends =
    let m : Bool = slice_index s 0 == 45 in
    ap number_at (minus_takes s ∙ ap (λ x. sign_of m ++ x) j)
    ∙ read_parts m w [] r is_int ([], [], inl refl, inl refl, refl) ends
