-- Bytes in the grammar of a JSON text, as numbers (RFC 8259, sections 2, 6 and 7).
use Rattle.std.specs.Prelude.{◌≡◌, ℕ, ◌∷◌, [], codes, refl}

-- the byte `[`
abbrev pub begin_array : ℕ
begin_array = 0x5B

-- the byte `]`
abbrev pub end_array : ℕ
end_array = 0x5D

-- the byte `{`
abbrev pub begin_object : ℕ
begin_object = 0x7B

-- the byte `}`
abbrev pub end_object : ℕ
end_object = 0x7D

-- the byte `:`, which stands between a name and its value
abbrev pub name_separator : ℕ
name_separator = 0x3A

-- the byte `,`, which stands between two elements or two members
abbrev pub value_separator : ℕ
value_separator = 0x2C

-- the byte `"`
abbrev pub quotation_mark : ℕ
quotation_mark = 0x22

-- the byte `\`, with which an escape begins
abbrev pub reverse_solidus : ℕ
reverse_solidus = 0x5C

-- the byte `-`
abbrev pub minus_sign : ℕ
minus_sign = 0x2D

-- the byte `+`
abbrev pub plus_sign : ℕ
plus_sign = 0x2B

-- the byte `.`
abbrev pub decimal_point : ℕ
decimal_point = 0x2E

-- the digit `0`
abbrev pub digit_0 : ℕ
digit_0 = 0x30

-- the digit `1`
abbrev pub digit_1 : ℕ
digit_1 = 0x31

-- the digit `9`
abbrev pub digit_9 : ℕ
digit_9 = 0x39

-- the letter `E` of an exponent
abbrev pub letter_E : ℕ
letter_E = 0x45

-- the letter of the escape `\b`
abbrev pub letter_b : ℕ
letter_b = 0x62

-- the letter `e` of an exponent
abbrev pub letter_e : ℕ
letter_e = 0x65

-- the letter of the escape `\f`
abbrev pub letter_f : ℕ
letter_f = 0x66

-- the letter of the escape `\n`
abbrev pub letter_n : ℕ
letter_n = 0x6E

-- the letter of the escape `\r`
abbrev pub letter_r : ℕ
letter_r = 0x72

-- the letter of the escape `\t`
abbrev pub letter_t : ℕ
letter_t = 0x74

-- the letter of an escape by hexadecimal digits, such as `\u0041`
abbrev pub letter_u : ℕ
letter_u = 0x75

-- Worked cases: the structural characters, the bytes of numbers and the bytes of strings are the
-- codes of the characters that RFC 8259 prints.
pub structural : begin_array ∷ begin_object ∷ end_array ∷ end_object ∷ name_separator ∷ value_separator ∷ [] ≡ codes "[{]}:,"
structural = refl

pub of_numbers : minus_sign ∷ plus_sign ∷ decimal_point ∷ digit_0 ∷ digit_1 ∷ digit_9 ∷ letter_e ∷ letter_E ∷ [] ≡ codes "-+.019eE"
of_numbers = refl

pub of_strings : quotation_mark ∷ reverse_solidus ∷ letter_b ∷ letter_f ∷ letter_n ∷ letter_r ∷ letter_t ∷ letter_u
    ∷ [] ≡ codes "\"\\bfnrtu"
of_strings = refl
