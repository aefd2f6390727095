-- The classes of bytes that a lexer tests for, and where a run of such bytes stops (RFC 8259, sections 2, 6 and 7).
use Rattle.std.specs.Prelude.{◌≡◌, ℕ, Bool, false, ◌||◌, ◌&&◌, nat_le, nat_lt, ◌==◌, List, [], ◌∷◌, ⊤, true, refl}
use Rattle.miniserde_model.specs.Ascii.{quotation_mark, reverse_solidus, minus_sign, plus_sign, decimal_point}
use Rattle.miniserde_model.specs.Ascii.{digit_0, digit_9, letter_E, letter_e, letter_n}

-- whether the byte is a space, a tab, a line feed or a carriage return
abbrev pub is_space : ℕ → Bool
is_space c = (c == 32) || (c == 9) || (c == 10) || (c == 13)

-- whether the byte is a digit, `+`, `-`, `.`, `E` or `e`
abbrev pub is_number_byte : ℕ → Bool
is_number_byte c = (nat_le digit_0 c && nat_le c digit_9) || (c == plus_sign) || (c == minus_sign) ||
    (c == decimal_point) || (c == letter_E) || (c == letter_e)

-- whether the byte may not stand unescaped inside a string: a control byte below 0x20, `"` or `\`
abbrev pub is_special : ℕ → Bool
is_special c = nat_lt c 0x20 || (c == quotation_mark) || (c == reverse_solidus)

-- the text is empty, or begins with a byte that fails the test p
abbrev pub StopsAt : (ℕ → Bool) → List ℕ → Type 0
StopsAt p [] = ⊤
StopsAt p (c ∷ cs) = p c ≡ false

-- Worked cases: a line feed is whitespace, and `n` is no byte of a number.
pub line_feed_is_space : is_space 0x0A ≡ true
line_feed_is_space = refl

pub n_is_no_number_byte : is_number_byte letter_n ≡ false
n_is_no_number_byte = refl
