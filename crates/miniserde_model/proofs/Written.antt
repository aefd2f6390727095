-- The compact text of a tree spells the tree. By recursion over the tree, from the numbers (`written_nonneg`,
-- `written_neg`) and the strings (`written_string`), where each escape is a piece of the grammar (`piece_of`).
use Rattle.std.proofs.Common.{◌≡◌, ◌≢◌, ℕ, zero, suc, ◌/◌, ◌%◌, ◌^◌, ◌<◌, ◌≤◌, ℤ, pos, negsuc, neg_ℤ, unsigned_abs}
use Rattle.std.proofs.Common.{◌≤ℤ◌, true, false, not, ◌==◌, ◌||◌, List, [], ◌∷◌, ◌++◌, length, get_or, slice_index}
use Rattle.std.proofs.Common.{decimal, flat_map, IsUtf8, encode_utf8, encode_utf8_all, refl, sym, ap, ap₂, subst}
use Rattle.std.proofs.Common.{◌∙◌, append-nil, arith, inl, inr, ◌⊎◌, lt-ltb, le-leb}
use Rattle.std.specs.List.{AllByRecursion}
use Rattle.std.specs.Char.{IsScalar, digit_char, digit_value}
use Rattle.std.specs.Str.Parse.{digits_value, AllDigits}
use Rattle.std.proofs.lemmas.Bool.{cases_eq, cases_lt, and_parts}
use Rattle.std.proofs.lemmas.Bool.Decides.{nat_tests}
use Rattle.std.proofs.lemmas.Fmt.{decimal_is_IsNumeral, decimal_digit, first_decimal}
use Rattle.std.proofs.lemmas.List.Concat.{flat_map-append}
use Rattle.std.proofs.lemmas.Str.{encode_ascii, inside_one, digit_value-digit_char}
use Rattle.std.proofs.lemmas.Str.Parse.{digit_from_value}
use Rattle.std.proofs.lemmas.Int.{ints}
use lib.Utf8.{scalars}
use Rattle.miniserde_model.specs.Tree.{Tree, null, truth, nonneg, neg, num, str, list, members, Trees, no_trees}
use Rattle.miniserde_model.specs.Tree.{tree, Members, no_members, member}
use Rattle.miniserde_model.specs.Number.{IsDigit, IsInt, IsNumberText, IsNumber, is_plain, leaf}
use Rattle.miniserde_model.specs.String.{quote, backslash, backspace, form_feed, line_feed, carriage_return, tab}
use Rattle.miniserde_model.specs.String.{IsPiece, raw, short, unit, ArePieces, IsString}
use Rattle.miniserde_model.specs.Value.{Spaced, IsValue, AreElements, AreMoreElements, AreMembers, AreMoreMembers, IsJson}
use Rattle.miniserde_model.specs.InRange.{InRange, AllInRange, MembersInRange}
use Rattle.miniserde_model.specs.Compact.{escape_text, string_text, compact, compact_children, compact_more}
use Rattle.miniserde_model.specs.Compact.{compact_members, compact_more_members}

-- ---- numbers

from_AllDigits : (ds : List ℕ) → AllDigits 10 ds → AllByRecursion IsDigit ds
from_AllDigits [] h = tt
from_AllDigits (c ∷ cs) h = (digit_from_value c h.0, from_AllDigits cs h.1)

digits_plain : (ds : List ℕ) → AllByRecursion IsDigit ds → is_plain ds ≡ true
digits_plain [] h = refl
digits_plain (c ∷ cs) h = let one : not ((c == 46) || (c == 101) || (c == 69)) ≡ true = grind (arith, nat_tests) in
    rw (one) (digits_plain cs h.1)

no_minus : (ds : List ℕ) → AllByRecursion IsDigit ds → (slice_index ds 0 == 45) ≡ false
no_minus [] h = refl
no_minus (c ∷ cs) h = grind (arith, nat_tests)

whole_digits : (ds : List ℕ) → AllByRecursion IsDigit ds → 0 < length ds → (get_or ds 0 0 ≡ 48 → length ds ≡ 1) → IsInt ds
whole_digits [] h l z = absurd (omega arith)
whole_digits (c ∷ []) h l z = elim (cases_eq c 48) [ inl e ↦ inl (e, refl) | inr e ↦ inr ((omega arith, omega arith), tt) ]
whole_digits (c ∷ (d ∷ cs)) h l z =
    elim (cases_eq c 48) [ inl e ↦ absurd (omega (arith, z e)) | inr e ↦ inr ((omega arith, omega arith), h.1) ]

leaf_digits : (ds : List ℕ) → AllByRecursion IsDigit ds → digits_value 10 ds < 2 ^ 64 → leaf ds ≡ nonneg (digits_value 10 ds)
unfolding leaf
leaf_digits ds h l = rw (digits_plain ds h, no_minus ds h, lt-ltb (digits_value 10 ds) (2 ^ 64) l) refl

leaf_minus : (ds : List ℕ) → AllByRecursion IsDigit ds → digits_value 10 ds ≤ 2 ^ 63
    → leaf (45 ∷ ds) ≡ neg (neg_ℤ (pos (digits_value 10 ds)))
unfolding leaf
leaf_minus ds h l = rw (digits_plain ds h, le-leb (digits_value 10 ds) (2 ^ 63) l) refl

decimal_whole : (n : ℕ) → n < 2 ^ 64 → IsInt (decimal n)
decimal_whole zero h = rw (decimal_digit 0 (omega arith)) (inl (refl, refl))
decimal_whole (suc n) h =
    let d = decimal_is_IsNumeral (suc n) h in
    whole_digits (decimal (suc n)) (from_AllDigits _ d.0.1) d.0.0 (λ e. absurd (omega (arith, first_decimal (suc n) (omega arith) h)))

number_text : (m w : List ℕ) → (m ≡ []) ⊎ (m ≡ 45 ∷ []) → IsInt w → IsNumberText (m ++ w)
number_text m w p q = record {
  minus = m;
  int = w;
  fraction = [];
  exponent = [];
  text =
      ap (λ z. m ++ z) (sym (append-nil w));
  is_minus = p;
  is_int = q;
  is_fraction = inl refl;
  is_exponent =
      inl refl;
}

written_nonneg : (n : ℕ) → n < 2 ^ 64 → IsNumber (decimal n) (nonneg n)
written_nonneg n h =
    let d = decimal_is_IsNumeral n h in (
      number_text [] (decimal n) (inl refl) (decimal_whole n h),
      leaf_digits (decimal n) (from_AllDigits _ d.0.1)
          (rw (d.1) h) ∙ ap nonneg d.1,
    )

written_minus : (n : ℕ) → n ≤ 2 ^ 63 → IsNumber (45 ∷ decimal n) (neg (neg_ℤ (pos n)))
written_minus n h =
    let small : n < 2 ^ 64 = omega arith in
    let d = decimal_is_IsNumeral n small in (
      number_text (45 ∷ []) (decimal n) (inr refl) (decimal_whole n small),
      leaf_minus (decimal n) (from_AllDigits _ d.0.1) (rw (d.1) h) ∙ ap (λ z. neg (neg_ℤ (pos z))) d.1,
    )

negated : (z : ℤ) → z ≤ℤ pos 0 → neg_ℤ (pos (unsigned_abs z)) ≡ z
negated (pos zero) h = refl
negated (pos (suc n)) h = absurd (omega (arith, ints))
negated (negsuc n) h = refl

written_neg : (z : ℤ) → z ≤ℤ pos 0 → unsigned_abs z ≤ 2 ^ 63 → IsNumber (45 ∷ decimal (unsigned_abs z)) (neg z)
written_neg z s h = subst (λ y. IsNumber (45 ∷ decimal (unsigned_abs z)) (neg y)) (negated z s) (written_minus (unsigned_abs z) h)

-- ---- strings

escaped_high : (x : ℕ) → 128 ≤ x → escape_text x ≡ x ∷ []
escaped_high x h = grind (arith, nat_tests)

escape_high : (xs : List ℕ) → ((k : ℕ) → k < length xs → 128 ≤ get_or xs k 0) → flat_map escape_text xs ≡ xs
escape_high [] h = refl
escape_high (x ∷ xs) h = ap₂ (λ (a b : List ℕ). a ++ b) (escaped_high x (h 0 (omega arith)))
    (escape_high xs (λ k below. h (suc k) (omega arith)))

-- no byte of a character from 128 on is escaped
pub high_stays : (c : ℕ) → 128 ≤ c → flat_map escape_text (encode_utf8 c) ≡ encode_utf8 c
high_stays c big =
    let high : (k : ℕ) → k < length (encode_utf8 c) → 128 ≤ get_or (encode_utf8 c) k 0 =
    λ k below. elim (cases_lt (get_or (encode_utf8 c) k 0) 128) [
      | inl low ↦ absurd (omega (arith, inside_one c [] (encode_utf8 c) k (sym (append-nil _)) below low))
      | inr h ↦ h
    ] in
    escape_high (encode_utf8 c) high

-- a character below 128 is written as `escape_text` writes its one byte
pub low_stays : (c : ℕ) → c < 128 → flat_map escape_text (encode_utf8 c) ≡ escape_text c
low_stays c small = rw (encode_ascii c small, append-nil) refl

piece_high : (c : ℕ) → IsScalar c → 128 ≤ c → IsPiece (flat_map escape_text (encode_utf8 c)) c
piece_high c s big = rw (high_stays c big)
    (raw (record {
      scalar = s;
      printable = omega arith;
      not_quote = λ e. omega arith;
      not_backslash =
          λ e. omega arith;
      text = refl;
    }))

escaped_as : (n c : ℕ) → c ≡ n → IsPiece (escape_text n) n → IsPiece (escape_text c) c
escaped_as n c e p = subst (λ z. IsPiece (escape_text z) z) (sym e) p

-- c is none of the control characters that have an escape of one letter
record HasNoLetter (c : ℕ) : Type 0 where
  n8 : c ≢ 8
  n9 : c ≢ 9
  n10 : c ≢ 10
  n12 : c ≢ 12
  n13 : c ≢ 13

control_text : (c : ℕ) → c < 32 → HasNoLetter c
    → escape_text c ≡ 92 ∷ 117 ∷ 48 ∷ 48 ∷ digit_char (c / 16) ∷ digit_char (c % 16) ∷ []
control_text c low n = grind (arith, nat_tests, n.n8, n.n9, n.n10, n.n12, n.n13)

-- a byte from 0x20 on that is neither a quotation mark nor a backslash is written as itself
pub raw_text : (c : ℕ) → 32 ≤ c → c ≢ 34 → c ≢ 92 → escape_text c ≡ c ∷ []
raw_text c high n34 n92 = grind (arith, nat_tests)

piece_control : (c : ℕ) → IsScalar c → c < 32 → HasNoLetter c → IsPiece (escape_text c) c
piece_control c s low n =
    let v1 : digit_value (digit_char (c / 16)) ≡ c / 16 = digit_value-digit_char (c / 16) (omega arith) in
    let v0 : digit_value (digit_char (c % 16)) ≡ c % 16 = digit_value-digit_char (c % 16) (omega arith) in
    rw (control_text c low n)
    (unit s (record {
      d3 = 48;
      d2 = 48;
      d1 = digit_char (c / 16);
      d0 = digit_char (c % 16);
      hex3 =
          omega arith;
      hex2 = omega arith;
      hex1 = rw v1 (omega arith);
      hex0 = rw v0 (omega arith);
      text =
          refl;
      value = rw (v1, v0) (omega arith);
    }))

piece_raw : (c : ℕ) → IsScalar c → 32 ≤ c → c < 128 → c ≢ 34 → c ≢ 92 → IsPiece (escape_text c) c
piece_raw c s high small n34 n92 =
    rw (raw_text c high n34 n92)
    (raw (record {
      scalar = s;
      printable = high;
      not_quote = n34;
      not_backslash = n92;
      text =
          sym (encode_ascii c small);
    }))

piece_low : (c : ℕ) → IsScalar c → c < 128 → IsPiece (escape_text c) c
piece_low c s small =
    elim (cases_eq c 8) [
      | inl e ↦ escaped_as 8 c e (short 98 backspace refl)
      | inr n8 ↦
          elim (cases_eq c 9) [
            | inl e ↦ escaped_as 9 c e (short 116 tab refl)
            | inr n9 ↦
                elim (cases_eq c 10) [
                  | inl e ↦ escaped_as 10 c e (short 110 line_feed refl)
                  | inr n10 ↦
                      elim (cases_eq c 12) [
                        | inl e ↦ escaped_as 12 c e (short 102 form_feed refl)
                        | inr n12 ↦
                            elim (cases_eq c 13) [
                              | inl e ↦ escaped_as 13 c e (short 114 carriage_return refl)
                              | inr n13 ↦
                                  elim (cases_eq c 34) [
                                    | inl e ↦ escaped_as 34 c e (short 34 quote refl)
                                    | inr n34 ↦
                                        elim (cases_eq c 92) [
                                          | inl e ↦ escaped_as 92 c e (short 92 backslash refl)
                                          | inr n92 ↦
                                              elim (cases_lt c 32) [
                                                | inl low ↦ piece_control c s low
                                                    (record { n8 = n8; n9 = n9; n10 = n10; n12 = n12; n13 = n13 })
                                                | inr high ↦ piece_raw c s high small n34 n92
                                              ]
                                        ]
                                  ]
                            ]
                      ]
                ]
          ]
    ]

piece_of : (c : ℕ) → IsScalar c → IsPiece (flat_map escape_text (encode_utf8 c)) c
piece_of c s = elim (cases_lt c 128) [
  | inl small ↦ rw (low_stays c small) (piece_low c s small)
  | inr big ↦ piece_high c s big
]

pieces_of : (cs : List ℕ) → scalars cs ≡ true → ArePieces (flat_map escape_text (encode_utf8_all cs)) cs
pieces_of [] h = refl
pieces_of (c ∷ cs) h = let p = and_parts _ _ h in (
  flat_map escape_text (encode_utf8 c),
  flat_map escape_text (encode_utf8_all cs),
  flat_map-append escape_text
      (encode_utf8 c) (encode_utf8_all cs),
  piece_of c p.0,
  pieces_of cs p.1,
)

pub written_string : (s : List ℕ) → IsUtf8 s → IsString (string_text s) s
unfolding string_text
written_string s u = record {
  inside = flat_map escape_text s;
  characters = u.0;
  text = refl;
  pieces =
      subst (λ z. ArePieces (flat_map escape_text z) u.0) u.1.1 (pieces_of u.0 u.1.0);
  value = sym u.1.1;
}

-- ---- values

alone : {P : List ℕ → Type 0} (b : List ℕ) → P b → Spaced P b
alone b p = record { before = []; inner = b; after = []; text = sym (append-nil b); is_before = tt; is_inner = p; is_after = tt }

mutual
  pub written_value : (t : Tree) → InRange t → IsValue t (compact t)
  written_value null h = refl
  written_value (truth x) h = refl
  written_value (nonneg n) h = written_nonneg n h
  written_value (neg z) h = written_neg z h.0 h.1
  written_value (num x) h = h
  written_value (str s) h = written_string s h
  written_value (list ts) h = record { inside = compact_children ts; text = refl; is_inside = written_children ts h }
  written_value (members ms) h = record { inside = compact_members ms; text = refl; is_inside = written_members ms h }

  written_children : (ts : Trees) → AllInRange ts → AreElements ts (compact_children ts)
  written_children no_trees h = tt
  written_children (tree t ts) h =
      record {
        first = compact t;
        rest = compact_more ts;
        text = refl;
        is_first =
            alone (compact t) (written_value t h.0);
        is_rest = written_more ts h.1;
      }

  written_more : (ts : Trees) → AllInRange ts → AreMoreElements ts (compact_more ts)
  written_more no_trees h = refl
  written_more (tree t ts) h = (
    compact t ++ compact_more ts,
    refl,
    record {
      first = compact t;
      rest = compact_more ts;
      text = refl;
      is_first =
          alone (compact t) (written_value t h.0);
      is_rest = written_more ts h.1;
    },
  )

  written_members : (ms : Members) → MembersInRange ms → AreMembers ms (compact_members ms)
  written_members no_members h = tt
  written_members (member s t ms) h =
      record {
        first = string_text s ++ 58 ∷ compact t;
        rest = compact_more_members ms;
        text = refl;
        is_first =
            record {
              name = string_text s;
              value = compact t;
              text = refl;
              is_name =
                  alone (string_text s) (written_string s h.0);
              is_value = alone (compact t) (written_value t h.1);
            };
        is_rest = written_more_members ms h.2;
      }

  written_more_members : (ms : Members) → MembersInRange ms → AreMoreMembers ms (compact_more_members ms)
  written_more_members no_members h = refl
  written_more_members (member s t ms) h = (
    (string_text s ++ 58 ∷ compact t) ++ compact_more_members ms,
    refl,
    record {
      first = string_text s ++ 58 ∷ compact t;
      rest = compact_more_members ms;
      text = refl;
      is_first =
          record {
            name = string_text s;
            value = compact t;
            text = refl;
            is_name =
                alone (string_text s) (written_string s h.0);
            is_value = alone (compact t) (written_value t h.1);
          };
      is_rest = written_more_members ms h.2;
    },
  )

-- the compact text of a tree in range spells the tree
pub written : (t : Tree) → InRange t → IsJson (compact t) t
written t h = alone (compact t) (written_value t h)
