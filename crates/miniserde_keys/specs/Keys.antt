-- The keys of maps: the content of each type of keys, and the key that a text is parsed as.
use Rattle.std.specs.Prelude.{ℕ, suc, ◌+◌, ◌-◌, ◌^◌, ℤ, pos, negsuc, neg_ℤ, Bool, true, false, ◌&&◌, nat_lt, List}
use Rattle.std.specs.Prelude.{[], ◌∷◌, length, drop, Option, Some, None, codes, if◌then◌else◌}
use Rattle.std.specs.Str.{all_ascii_digits, bytes_eq, chars, is_utf8}
use Rattle.std.specs.Str.Parse.{digits_value, starts_with_minus, without_leading_plus}

-- the content of a key, as a list of numbers
abbrev pub Key : Type 0
Key = List ℕ

-- the content of an unsigned integer or of a character
abbrev pub of_nat : ℕ → Key
of_nat n = n ∷ []

-- the content of a signed integer: 1 if it is below 0 and else 0, and its absolute value
abbrev pub of_int : ℤ → Key
of_int (pos n) = 0 ∷ n ∷ []
of_int (negsuc n) = 1 ∷ suc n ∷ []

-- the content of a `bool`
abbrev pub of_bool : Bool → Key
of_bool true = 1 ∷ []
of_bool false = 0 ∷ []

-- the text of a `bool`
abbrev pub bool_text : Bool → List ℕ
bool_text true = codes "true"
bool_text false = codes "false"

-- the content of the `bool` that the text is parsed as, if it is the text of one
abbrev pub read_bool : List ℕ → Option Key
read_bool k =
    if bytes_eq k (bool_text true) then Some (of_bool true)
    else (if bytes_eq k (bool_text false) then Some (of_bool false) else None)

-- the content of the one character of a list, if the list has exactly one
abbrev pub single_char : List ℕ → Option Key
single_char (c ∷ []) = Some (of_nat c)
single_char _ = None

-- the content of the character that the text is parsed as, if it is the UTF-8 text of exactly one
unfoldable pub read_char : List ℕ → Option Key
read_char k = if is_utf8 k then single_char (chars k) else None

-- whether the text is one digit or more, and their number is below the limit
abbrev pub are_digits_below : ℕ → List ℕ → Bool
are_digits_below limit ds = nat_lt 0 (length ds) && (all_ascii_digits ds && nat_lt (digits_value 10 ds) limit)

-- `content` of the number that ds is in decimal, if ds is one digit or more and the number is below
-- the limit
abbrev pub read_digits : ℕ → (ℕ → Key) → List ℕ → Option Key
read_digits limit content ds = if are_digits_below limit ds then Some (content (digits_value 10 ds)) else None

-- the content of the unsigned integer of so many bits that the text k is parsed as, if k is digits,
-- with a `+` before them or not, and the integer is in range
unfoldable pub read_unsigned : ℕ → List ℕ → Option Key
read_unsigned bits k = read_digits (2 ^ bits) of_nat (without_leading_plus k)

-- the content of the signed integer of so many bits that the text k is parsed as, if k is digits,
-- with a `+` or a `-` before them or not, and the integer is in range
unfoldable pub read_signed : ℕ → List ℕ → Option Key
read_signed bits k =
    if starts_with_minus k then read_digits (2 ^ (bits - 1) + 1) (λ n. of_int (neg_ℤ (pos n))) (drop 1 k)
    else read_digits (2 ^ (bits - 1)) (λ n. of_int (pos n)) (without_leading_plus k)
