-- Reading as functions on lists, in the order of the code (RFC 8259, sections 6 and 7).
-- Only private clauses cite them: lemmas show that each reads exactly what the grammar has.
-- `slice_index s n` is the byte of s at the index n, or 0 if there is none. A function that returns an
-- `Option` returns `None` if its text does not begin with what it takes.
use Rattle.std.specs.Prelude.{◌≡◌, ℕ, ◌<◌, ◌≤◌, ◌-◌, ◌+◌, ◌*◌, ◌^◌, ◌&&◌, ◌||◌, nat_le, nat_lt, pos, neg_ℤ}
use Rattle.std.specs.Prelude.{if◌then◌else◌, option_map, List, [], ◌∷◌, ◌++◌, Bool, true, false, cond, not, ◌==◌}
use Rattle.std.specs.Prelude.{nat_eq, Option, Some, None, option_and_then, length, take, drop, codes, slice_index}
use Rattle.std.specs.List.{starts_with}
use Rattle.std.specs.Char.{digit_value}
use Rattle.std.specs.Str.Parse.{digits_value}
use Rattle.miniserde_model.specs.Bytes.{is_number_byte, is_space, is_special}
use Rattle.miniserde_model.specs.Step.{Step, boolean, negative, nonnegative, float, seq, map}
use Rattle.miniserde_model.specs.Step as step
use Rattle.miniserde_model.specs.Lexing.{closing}
use Rattle.miniserde_model.specs.declared.kind.Kind.{Kind}

-- ---- tests of bytes

-- whether the byte is a digit
abbrev pub is_digit : ℕ → Bool
is_digit c = nat_le 48 c && nat_le c 57

-- whether the byte is `+` or `-`
abbrev pub is_sign : ℕ → Bool
is_sign c = (c == 43) || (c == 45)

-- whether the byte is `e` or `E`
abbrev pub is_exponent_letter : ℕ → Bool
is_exponent_letter c = (c == 101) || (c == 69)

-- whether the byte may stand unescaped inside a string
abbrev pub is_unescaped : ℕ → Bool
is_unescaped c = not (is_special c)

-- whether the byte is no whitespace
abbrev pub is_not_space : ℕ → Bool
is_not_space c = not (is_space c)

-- whether the byte is a hexadecimal digit
abbrev pub is_hex : ℕ → Bool
is_hex c = nat_lt (digit_value c) 16

-- whether the number is a high surrogate
abbrev pub is_high : ℕ → Bool
is_high u = nat_le 0xd800 u && nat_lt u 0xdc00

-- whether the number is a low surrogate
abbrev pub is_low : ℕ → Bool
is_low u = nat_le 0xdc00 u && nat_lt u 0xe000

-- whether the byte is a closing bracket
abbrev pub is_closing : ℕ → Bool
is_closing c = (c == 93) || (c == 125)

-- ---- runs

-- the text after all the bytes at its front that pass the test p
abbrev pub after_run : (ℕ → Bool) → List ℕ → List ℕ
after_run p [] = []
after_run p (c ∷ cs) = if p c then after_run p cs else c ∷ cs

-- the text s ends with the text r
abbrev pub EndsWith : List ℕ → List ℕ → Type 0
EndsWith s r = (b : List ℕ) × (s ≡ b ++ r)

-- s has a byte right before the index i, and that byte is ASCII
abbrev pub FollowsAscii : List ℕ → ℕ → Type 0
FollowsAscii s i = (0 < i) × (i ≤ length s) × (slice_index s (i - 1) < 128)

-- the suffix of s from the index r on, or `None` if r is `None`
abbrev pub suffix_at : List ℕ → Option ℕ → Option (List ℕ)
suffix_at s r = option_map (λ i. drop i s) r

-- the bytes of s before its suffix r
abbrev pub before : List ℕ → List ℕ → List ℕ
before s r = take (length s - length r) s

-- ---- numbers

-- the text s without the digits at its beginning, if there is at least one
abbrev pub after_digits : List ℕ → Option (List ℕ)
after_digits s = if is_digit (slice_index s 0) then Some (after_run is_digit s) else None

-- the text s without the `-` at its beginning, or s if it begins with none
abbrev pub after_minus : List ℕ → List ℕ
after_minus s = if slice_index s 0 == 45 then drop 1 s else s

-- the text s without the integer part at its beginning, `0` or a run of digits, if there is one
abbrev pub after_int : List ℕ → Option (List ℕ)
after_int s = if slice_index s 0 == 48 then Some (drop 1 s) else after_digits s

-- the text s without the fraction at its beginning, or s if it does not begin with `.`; `None` if
-- no digit follows the `.`
abbrev pub after_fraction : List ℕ → Option (List ℕ)
after_fraction s = if slice_index s 0 == 46 then after_digits (drop 1 s) else Some s

-- the text s without the sign at its beginning, or s if it begins with none
abbrev pub after_sign : List ℕ → List ℕ
after_sign s = if is_sign (slice_index s 0) then drop 1 s else s

-- the text s without the exponent at its beginning, or s if it does not begin with `e` or `E`;
-- `None` if no digit follows the letter and its optional sign
abbrev pub after_exponent : List ℕ → Option (List ℕ)
after_exponent s = if is_exponent_letter (slice_index s 0) then after_digits (after_sign (drop 1 s)) else Some s

-- the text s without the fraction and the exponent at its beginning, both of which are optional;
-- `None` if one of them has no digit
abbrev pub after_tail : List ℕ → Option (List ℕ)
after_tail s = option_and_then after_exponent (after_fraction s)

-- the event of the number text b, by whether it begins with a minus, by its integer part without the minus, and by the
-- bytes after that part
abbrev pub event_of_parts : List ℕ → Bool → List ℕ → List ℕ → Step
event_of_parts b minus int [] =
    if minus then
    (if nat_le (digits_value 10 int) (2 ^ 63) then negative (neg_ℤ (pos (digits_value 10 int))) else float b)
    else (if nat_lt (digits_value 10 int) (2 ^ 64) then nonnegative (digits_value 10 int) else float b)
event_of_parts b minus int (c ∷ cs) = float b

-- the event of the number that s begins with, and r, the text after the number; w is the text after
-- the number's integer part; `None` if r begins with a byte that a number can have
abbrev pub event_at : List ℕ → List ℕ → List ℕ → Option (Step × List ℕ)
event_at s w r =
    cond (is_number_byte (slice_index r 0)) None
    (Some (event_of_parts (before s r) (slice_index s 0 == 45) (before (after_minus s) w) (before w r), r))

-- the event of the number that s begins with, and the text after it; `None` if there is no number, or
-- if the text after it begins with a byte that a number can have
unfoldable pub number_at : List ℕ → Option (Step × List ℕ)
number_at s = option_and_then (λ w. option_and_then (λ r. event_at s w r) (after_tail w)) (after_int (after_minus s))

-- ---- the first token of a value that is no string

-- the event e and the text after the word w, if s begins with w
unfoldable pub word_at : List ℕ → Step → List ℕ → Option (Step × List ℕ)
word_at w e s = if starts_with nat_eq s w then Some (e, drop (length w) s) else None

-- the event of the token that s begins with, and the text after it, if s begins with a token that
-- is no string; c is the first byte of s
unfoldable pub token_by : ℕ → List ℕ → Option (Step × List ℕ)
token_by c s =
    cond (c == 110) (word_at (codes "null") step.null s)
    (cond (c == 116) (word_at (codes "true") (boolean true) s)
    (cond (c == 102) (word_at (codes "false") (boolean false) s)
    (if c == 91 then Some (seq, drop 1 s) else if c == 123 then Some (map, drop 1 s) else number_at s)))

-- the event of the token that s begins with, and the text after it, if s begins with a token that
-- is no string
abbrev pub token_at : List ℕ → Option (Step × List ℕ)
token_at s = token_by (slice_index s 0) s

-- ---- the next child or the end

-- whether the text is not empty and does not begin with a closing bracket
abbrev pub begins_child : List ℕ → Bool
begins_child [] = false
begins_child (c ∷ cs) = not (is_closing c)

-- If t begins with the closing bracket of the kind: `true`, and the text after it. Else, if `first`
-- says that the opening bracket was just taken: `false` and t itself, if t begins with a byte that is
-- no closing bracket. Else, without `first`, if t begins with a comma: `false`, and the text after the
-- comma, whatever it begins with. Else `None`.
unfoldable pub punctuation_at : Kind → Bool → List ℕ → Option (Bool × List ℕ)
punctuation_at kind first t =
    cond (slice_index t 0 == closing kind) (Some (true, drop 1 t))
    (if first then (if begins_child t then Some (false, t) else None) else if slice_index t 0 == 44 then Some (false, drop 1 t) else None)

-- ---- escapes, after the backslash

-- the first number of the pair r, and the suffix of s from the index that is the second number, if
-- there is a pair
abbrev pub with_suffix : List ℕ → Option (ℕ × ℕ) → Option (ℕ × List ℕ)
with_suffix s r = option_map (λ x. (x.0, drop x.1 s)) r

-- whether the text begins with four hexadecimal digits
abbrev pub begins_code_unit : List ℕ → Bool
begins_code_unit s =
    is_hex (slice_index s 0) && is_hex (slice_index s 1) && is_hex (slice_index s 2) && is_hex (slice_index s 3)

-- the number of the four hexadecimal digits that s begins with, and the text after them, if there
-- are four
abbrev pub code_unit_at : List ℕ → Option (ℕ × List ℕ)
code_unit_at s =
    cond (begins_code_unit s)
    (Some (
      digit_value (slice_index s 0) * 4096 + digit_value (slice_index s 1) * 256
          + digit_value (slice_index s 2) * 16 + digit_value (slice_index s 3),
      drop 4 s,
    ))
    None

-- whether the text begins with `\u`
abbrev pub begins_unicode_escape : List ℕ → Bool
begins_unicode_escape s = (slice_index s 0 == 92) && (slice_index s 1 == 117)

-- the character of a high and a low surrogate
abbrev pub pair_of : ℕ → ℕ → ℕ
pair_of high low = 0x10000 + (high - 0xd800) * 1024 + (low - 0xdc00)

-- if s begins with the `\u` escape of a low surrogate: the character of the pair of `high` and that surrogate, and the
-- text after the escape
abbrev pub low_at : ℕ → List ℕ → Option (ℕ × List ℕ)
low_at high s =
    cond (begins_unicode_escape s)
    (option_and_then (λ l. if is_low l.0 then Some (pair_of high l.0, l.1) else None) (code_unit_at (drop 2 s))) None

-- the character of a `\u` escape or of a surrogate pair, and the text after it; s is the text after
-- the first `\u`; `None` if a digit is missing, or if a surrogate has no partner
unfoldable pub unicode_at : List ℕ → Option (ℕ × List ℕ)
unicode_at s = option_and_then (λ u. if is_high u.0 then low_at u.0 u.1 else if is_low u.0 then None else Some u) (code_unit_at s)

-- the character of the escape of a backslash and the byte x, if there is such an escape
abbrev pub short_at : ℕ → Option ℕ
short_at x =
    if (x == 34) || ((x == 92) || (x == 47)) then Some x
    else if x == 98 then Some 8
    else if x == 102 then Some 12
    else if x == 110 then Some 10
    else if x == 114 then Some 13
    else if x == 116 then Some 9
    else None

-- the character of an escape or of a surrogate pair, and the text after it, if there is such an
-- escape; s is the text after the backslash
unfoldable pub escape_at : List ℕ → Option (ℕ × List ℕ)
escape_at s =
    cond (slice_index s 0 == 117) (unicode_at (drop 1 s))
    (option_map (λ c. (c, drop 1 s)) (short_at (slice_index s 0)))
