-- The event that the lexer makes of a number text is the event of its leaf. By cases on whether a fraction or an
-- exponent follows the whole part (`by_tail`): with one, both keep the text, and without, both take the integer.
use Rattle.std.proofs.Common.{◌≡◌, ℕ, ◌==◌, Bool, true, false, cond, List, [], ◌∷◌, ◌++◌, drop, refl, ap, sym, ◌∙◌, inl, inr, arith}
use Rattle.std.specs.Prelude.{◌⊎◌, ◌&&◌, ◌||◌, not, nat_le, nat_lt, ◌^◌, slice_index, if◌then◌else◌, ℤ}
use Rattle.std.specs.List.{AllByRecursion}
use Rattle.std.specs.Str.Parse.{digits_value}
use Rattle.std.proofs.lemmas.Bool.Decides.{nat_tests}
use Rattle.std.proofs.lemmas.List.{append-nil}
use Rattle.miniserde_model.specs.Tree.{Tree, null, truth, nonneg, neg, num, str, list, members}
use Rattle.miniserde_model.specs.Step.{Step, boolean, string, negative, nonnegative, float, seq, map}
use Rattle.miniserde_model.specs.Step as step
use Rattle.miniserde_model.specs.Number.{IsDigit, IsInt, IsFraction, IsExponent, IsNumberText, is_plain}
use Rattle.miniserde_model.specs.Number.{begins_minus, leaf_of_digits, leaf_of_negated, leaf}
use Rattle.miniserde_model.specs.Bytes.{is_number_byte, StopsAt}
use Rattle.miniserde_model.specs.Lexing.{Piece, Ends}
use Rattle.miniserde_text.specs.private.Reading.{event_of_parts}
use Rattle.miniserde_text.proofs.Options.{if_cases}

-- the first event of a tree
abbrev pub event_of : Tree → Step
event_of null = step.null
event_of (truth x) = boolean x
event_of (nonneg n) = nonnegative n
event_of (neg z) = negative z
event_of (num x) = float x
event_of (str s) = string s
event_of (list ts) = seq
event_of (members ms) = map

leaf_cases : (b : List ℕ) (P : Tree → Type 0) → ((z : ℤ) → P (neg z)) → ((n : ℕ) → P (nonneg n)) → P (num b) → P (leaf b)
unfolding leaf
leaf_cases b P p q s =
    if_cases (is_plain b) P _ _
    (if_cases (begins_minus b) P _ _ (if_cases (nat_le (digits_value 10 (drop 1 b)) (2 ^ 63)) P _ _ (p _) s)
    (if_cases (nat_lt (digits_value 10 b) (2 ^ 64)) P _ _ (q _) s)) s

-- a number text is the piece of its event, and ends where such a text ends
pub number_piece : (b r : List ℕ) → IsNumberText b → StopsAt is_number_byte r → Piece (event_of (leaf b)) b × Ends (event_of (leaf b)) r
number_piece b r n h =
    leaf_cases b (λ t. leaf b ≡ t → Piece (event_of t) b × Ends (event_of t) r) (λ z e. ((n, e), h))
    (λ m e. ((n, e), h)) (λ e. ((n, e), h)) refl

-- the event of a kept text is that of no other leaf
pub leaf_of_float : (b x : List ℕ) → event_of (leaf b) ≡ float x → leaf b ≡ num b
leaf_of_float b x = leaf_cases b (λ t. event_of t ≡ float x → t ≡ num b) (λ z e. cc) (λ n e. cc) (λ e. refl)

-- ---- the leaf of the parts

-- each byte of an integer part is a digit
pub whole_digits : (w : List ℕ) → IsInt w → AllByRecursion IsDigit w
whole_digits [] h = absurd h
whole_digits (c ∷ cs) (inl h) = rw (h.0, h.1) ((omega arith, omega arith), tt)
whole_digits (c ∷ cs) (inr h) = ((omega arith, h.0.1), h.1)

-- `-` if the flag is set, and else the empty text
abbrev pub sign_of : Bool → List ℕ
sign_of m = if m then 45 ∷ [] else []

digit_no_minus : (c : ℕ) → IsDigit c → (c == 45) ≡ false
digit_no_minus c h = grind (arith, nat_tests)

-- a text that begins with an int does not begin with `-`, so its first byte tells whether a number has a minus
pub int_has_no_minus : (w r : List ℕ) → IsInt w → (slice_index (w ++ r) 0 == 45) ≡ false
int_has_no_minus [] r h = absurd h
int_has_no_minus (c ∷ cs) r h = digit_no_minus c (whole_digits (c ∷ cs) h).0

digit_plain : (c : ℕ) → IsDigit c → not ((c == 46) || (c == 101) || (c == 69)) ≡ true
digit_plain c h = grind (arith, nat_tests)

digits_plain : (w t : List ℕ) → AllByRecursion IsDigit w → is_plain (w ++ t) ≡ is_plain t
digits_plain [] t h = refl
digits_plain (c ∷ w) t h = ap (λ b. b && is_plain (w ++ t)) (digit_plain c h.0) ∙ digits_plain w t h.1

parts_plain : (m : Bool) (w t : List ℕ) → IsInt w → is_plain (sign_of m ++ (w ++ t)) ≡ is_plain t
parts_plain true w t h = digits_plain w t (whole_digits w h)
parts_plain false w t h = digits_plain w t (whole_digits w h)

abbrev is_nil : List ℕ → Bool
is_nil [] = true
is_nil (c ∷ cs) = false

letter_plain : (c : ℕ) (t : List ℕ) → (c ≡ 101) ⊎ (c ≡ 69) → is_plain (c ∷ t) ≡ false
letter_plain c t (inl h) = rw h refl
letter_plain c t (inr h) = rw h refl

tail_plain : (f e : List ℕ) → IsFraction f → IsExponent e → is_plain (f ++ e) ≡ is_nil (f ++ e)
tail_plain f e (inr h) k = rw (h.1) refl
tail_plain f e (inl h) (inl k) = rw (h, k) refl
tail_plain f e (inl h) (inr k) = rw (h, k.3) (letter_plain k.0 (k.1 ++ k.2) k.4)

leaf_plain : (b : List ℕ) → is_plain b ≡ true → leaf b ≡ (if begins_minus b then leaf_of_negated (drop 1 b) b else leaf_of_digits b b)
unfolding leaf
leaf_plain b h = ap (λ x. cond x (if begins_minus b then leaf_of_negated (drop 1 b) b else leaf_of_digits b b) (num b)) h

leaf_other : (b : List ℕ) → is_plain b ≡ false → leaf b ≡ num b
unfolding leaf
leaf_other b h = ap (λ x. cond x (if begins_minus b then leaf_of_negated (drop 1 b) b else leaf_of_digits b b) (num b)) h

event_if : (v : Bool) (t u : Tree) → event_of (cond v t u) ≡ cond v (event_of t) (event_of u)
event_if true t u = refl
event_if false t u = refl

by_tail : (m : Bool) (w t : List ℕ) → IsInt w → is_plain t ≡ is_nil t → event_of_parts (sign_of m ++ (w ++ t)) m w t
    ≡ event_of (leaf (sign_of m ++ (w ++ t)))
by_tail m w (c ∷ cs) h p = sym (ap event_of (leaf_other _ (parts_plain m w (c ∷ cs) h ∙ p)))
by_tail true w [] h p =
    let b : List ℕ = 45 ∷ (w ++ []) in
    sym (ap event_of (leaf_plain b (parts_plain true w [] h) ∙ ap (λ ds. leaf_of_negated ds b) (append-nil w))
    ∙ event_if (nat_le (digits_value 10 w) (2 ^ 63)) _ _)
by_tail false w [] h p =
    let b : List ℕ = w ++ [] in
    sym (ap event_of (leaf_plain b (parts_plain false w [] h)
    ∙ ap (λ v. cond v (leaf_of_negated (drop 1 b) b) (leaf_of_digits b b)) (int_has_no_minus w [] h)
    ∙ ap (λ ds. leaf_of_digits ds b) (append-nil w)) ∙ event_if (nat_lt (digits_value 10 w) (2 ^ 64)) _ _)

-- the event by the parts of a number text is the event of the text's leaf
pub number_event_of_text : (m : Bool) (w f e : List ℕ) → IsInt w → IsFraction f → IsExponent e
    → event_of_parts (sign_of m ++ (w ++ (f ++ e))) m w (f ++ e) ≡ event_of (leaf (sign_of m ++ (w ++ (f ++ e))))
number_event_of_text m w f e h k l = by_tail m w (f ++ e) h (tail_plain f e k l)
