-- The examples of texts with their trees, and of normal forms with their compact texts, hold. For each text the proof
-- builds a derivation of the grammar; each normal form and each compact text is computed.
use Rattle.std.proofs.Common.{◌≡◌, ℕ, ◌≤◌, pos, negsuc, Bool, true, ◌&&◌, nat_le, List, [], ◌∷◌, ◌++◌, codes}
use Rattle.std.proofs.Common.{encode_utf8, refl, sym, ap, append-nil, arith, inl, inr}
use Rattle.std.specs.List.{AllByRecursion}
use Rattle.std.proofs.lemmas.Bool.{and_parts}
use Rattle.std.proofs.lemmas.Bool.Decides.{nat_tests}
use Rattle.std.proofs.lemmas.Fmt.{decimal_digit}
use lib.Utf8.{encode}
use Rattle.miniserde_model.specs.Tree.{null, nonneg, neg, num, str, list, members, no_trees, tree, no_members, member}
use Rattle.miniserde_model.specs.Number.{IsDigit, IsInt, IsMinus, IsNumberText, leaf}
use Rattle.miniserde_model.specs.String.{slash, raw, short, unit, pair, IsString}
use Rattle.miniserde_model.specs.Value.{Spaced, IsValue, IsJson}
use Rattle.miniserde_model.specs.Compact.{compact, string_text}
use Rattle.miniserde_model.specs.Examples.{SpelledTexts, NormalForms}

abbrev is_digit : ℕ → Bool
is_digit c = nat_le 48 c && nat_le c 57

abbrev all_digits : List ℕ → Bool
all_digits [] = true
all_digits (c ∷ cs) = is_digit c && all_digits cs

-- a byte for which `is_digit` is true is a digit of the grammar
pub digit : (c : ℕ) → is_digit c ≡ true → IsDigit c
digit c h = grind (arith, nat_tests)

digits : (ds : List ℕ) → all_digits ds ≡ true → AllByRecursion IsDigit ds
digits [] h = tt
digits (c ∷ cs) h = let p = and_parts (is_digit c) (all_digits cs) h in (digit c p.0, digits cs p.1)

-- digits that begin with one of 1 to 9
pub int : (c : ℕ) (cs : List ℕ) → 49 ≤ c → c ≤ 57 → all_digits cs ≡ true → IsInt (c ∷ cs)
int c cs low high h = inr ((low, high), digits cs h)

-- a number text of whole part w behind m
plain : (m w : List ℕ) → IsMinus m → IsInt w → IsNumberText (m ++ w)
plain m w p q = record {
  minus = m;
  int = w;
  fraction = [];
  exponent = [];
  text =
      ap (λ z. m ++ z) (sym (append-nil w));
  is_minus = p;
  is_int = q;
  is_fraction = inl refl;
  is_exponent =
      inl refl;
}

-- the number texts

pub numeral_1 : IsValue (nonneg 1) (codes "1")
unfolding leaf
numeral_1 = (plain [] (codes "1") (inl refl) (int 49 [] (omega arith) (omega arith) refl), refl)

pub numeral_2 : IsValue (nonneg 2) (codes "2")
unfolding leaf
numeral_2 = (plain [] (codes "2") (inl refl) (int 50 [] (omega arith) (omega arith) refl), refl)

largest : IsValue (nonneg 18446744073709551615) (codes "18446744073709551615")
unfolding leaf
largest = (
  plain [] (codes "18446744073709551615") (inl refl)
      (int 49 (codes "8446744073709551615") (omega arith) (omega arith) refl),
  refl,
)

above_largest : IsValue (num (codes "18446744073709551616")) (codes "18446744073709551616")
unfolding leaf
above_largest = (
  plain [] (codes "18446744073709551616") (inl refl)
      (int 49 (codes "8446744073709551616") (omega arith) (omega arith) refl),
  refl,
)

negated_zero : IsValue (neg (pos 0)) (codes "-0")
unfolding leaf
negated_zero = (plain (codes "-") (codes "0") (inr refl) (inl (refl, refl)), refl)

smallest : IsValue (neg (negsuc 9223372036854775807)) (codes "-9223372036854775808")
unfolding leaf
smallest = (
  plain (codes "-") (codes "9223372036854775808") (inr refl)
      (int 57 (codes "223372036854775808") (omega arith) (omega arith) refl),
  refl,
)

below_smallest : IsValue (num (codes "-9223372036854775809")) (codes "-9223372036854775809")
unfolding leaf
below_smallest = (
  plain (codes "-") (codes "9223372036854775809") (inr refl)
      (int 57 (codes "223372036854775809") (omega arith) (omega arith) refl),
  refl,
)

fraction : IsValue (num (codes "1.50")) (codes "1.50")
unfolding leaf
fraction = (
  record {
    minus = [];
    int = codes "1";
    fraction = codes ".50";
    exponent = [];
    text = refl;
    is_minus = inl refl;
    is_int = int 49 [] (omega arith) (omega arith) refl;
    is_fraction = inr (codes "50", refl, (omega arith, digits (codes "50") refl));
    is_exponent = inl refl;
  },
  refl,
)

exponent : IsValue (num (codes "1e400")) (codes "1e400")
unfolding leaf
exponent = (
  record {
    minus = [];
    int = codes "1";
    fraction = [];
    exponent = codes "e400";
    text = refl;
    is_minus = inl refl;
    is_int = int 49 [] (omega arith) (omega arith) refl;
    is_fraction = inl refl;
    is_exponent = inr (101, [], codes "400", refl, inl refl, inl refl, (omega arith, digits (codes "400") refl));
  },
  refl,
)

-- strings

surrogate_pair : IsValue (str (encode_utf8 0x1F600)) (codes "\"\\ud83d\\ude00\"")
unfolding encode
surrogate_pair = record {
  inside = codes "\\ud83d\\ude00";
  characters = 0x1F600 ∷ [];
  text = refl;
  pieces = (
    codes "\\ud83d\\ude00",
    [],
    refl,
    pair (record {
      first = codes "\\ud83d";
      second = codes "\\ude00";
      high = 0xD83D;
      low = 0xDE00;
      text = refl;
      is_first = record {
        d3 = 100;
        d2 = 56;
        d1 = 51;
        d0 = 100;
        hex3 = omega arith;
        hex2 = omega arith;
        hex1 = omega arith;
        hex0 = omega arith;
        text = refl;
        value = refl;
      };
      is_second = record {
        d3 = 100;
        d2 = 101;
        d1 = 48;
        d0 = 48;
        hex3 = omega arith;
        hex2 = omega arith;
        hex1 = omega arith;
        hex0 = omega arith;
        text = refl;
        value = refl;
      };
      is_high = (omega arith, omega arith);
      is_low = (omega arith, omega arith);
      character = refl;
    }),
    refl,
  );
  value = refl;
}

escapes : IsValue (str (codes "A/")) (codes "\"\\u0041\\/\"")
unfolding encode
escapes = record {
  inside = codes "\\u0041\\/";
  characters = codes "A/";
  text = refl;
  pieces = (
    codes "\\u0041",
    codes "\\/",
    refl,
    unit refl (record {
      d3 = 48;
      d2 = 48;
      d1 = 52;
      d0 = 49;
      hex3 = omega arith;
      hex2 = omega arith;
      hex1 = omega arith;
      hex0 = omega arith;
      text = refl;
      value = refl;
    }),
    (codes "\\/", [], refl, short 47 slash refl, refl),
  );
  value = refl;
}

name_a : IsString (codes "\"a\"") (codes "a")
unfolding encode
name_a = record {
  inside = codes "a";
  characters = codes "a";
  text = refl;
  pieces = (
    codes "a",
    [],
    refl,
    raw (record {
      scalar = refl;
      printable = omega arith;
      not_quote = λ e. omega arith;
      not_backslash =
          λ e. omega arith;
      text = refl;
    }),
    refl,
  );
  value = refl;
}

-- lists and members

bare : {P : List ℕ → Type 0} (b : List ℕ) → P b → Spaced P b
bare b p = record { before = []; inner = b; after = []; text = sym (append-nil b); is_before = tt; is_inner = p; is_after = tt }

empty_list : IsJson (codes " [ ] ") (list no_trees)
empty_list = record {
  before = codes " ";
  inner = codes "[ ]";
  after = codes " ";
  text = refl;
  is_before =
      (inl refl, tt);
  is_inner = record { inside = codes " "; text = refl; is_inside = (inl refl, tt) };
  is_after =
      (inl refl, tt);
}

three_numbers : IsValue (list (tree (nonneg 1) (tree (nonneg 2) (tree (nonneg 18446744073709551615) no_trees))))
    (codes "[1, 2 ,18446744073709551615]")
three_numbers = record {
  inside = codes "1, 2 ,18446744073709551615";
  text = refl;
  is_inside = record {
    first = codes "1";
    rest = codes ", 2 ,18446744073709551615";
    text = refl;
    is_first = bare (codes "1") numeral_1;
    is_rest = (
      codes " 2 ,18446744073709551615",
      refl,
      record {
        first = codes " 2 ";
        rest = codes ",18446744073709551615";
        text = refl;
        is_first = record {
          before = codes " ";
          inner = codes "2";
          after = codes " ";
          text = refl;
          is_before = (inl refl, tt);
          is_inner = numeral_2;
          is_after = (inl refl, tt);
        };
        is_rest = (
          codes "18446744073709551615",
          refl,
          record {
            first = codes "18446744073709551615";
            rest = [];
            text = refl;
            is_first = bare (codes "18446744073709551615") largest;
            is_rest = refl;
          },
        );
      },
    );
  };
}

repeated_name : IsValue (members (member (codes "a") (nonneg 1) (member (codes "a") (nonneg 2) no_members))) (codes "{\"a\":1,\"a\":2}")
repeated_name = record {
  inside = codes "\"a\":1,\"a\":2";
  text = refl;
  is_inside = record {
    first = codes "\"a\":1";
    rest = codes ",\"a\":2";
    text = refl;
    is_first = record {
      name = codes "\"a\"";
      value = codes "1";
      text = refl;
      is_name =
          bare (codes "\"a\"") name_a;
      is_value = bare (codes "1") numeral_1;
    };
    is_rest = (
      codes "\"a\":2",
      refl,
      record {
        first = codes "\"a\":2";
        rest = [];
        text = refl;
        is_first = record {
          name = codes "\"a\"";
          value = codes "2";
          text = refl;
          is_name =
              bare (codes "\"a\"") name_a;
          is_value = bare (codes "2") numeral_2;
        };
        is_rest = refl;
      },
    );
  };
}

-- each text of `SpelledTexts` spells its tree
pub spelled_texts : SpelledTexts
spelled_texts = record {
  empty_list = empty_list;
  three_numbers = bare (codes "[1, 2 ,18446744073709551615]") three_numbers;
  negated_zero = bare (codes "-0") negated_zero;
  above_largest = bare (codes "18446744073709551616") above_largest;
  smallest = bare (codes "-9223372036854775808") smallest;
  below_smallest = bare (codes "-9223372036854775809") below_smallest;
  fraction = bare (codes "1.50") fraction;
  exponent = bare (codes "1e400") exponent;
  surrogate_pair = bare (codes "\"\\ud83d\\ude00\"") surrogate_pair;
  escapes = bare (codes "\"\\u0041\\/\"") escapes;
  repeated_name = bare (codes "{\"a\":1,\"a\":2}") repeated_name;
}

-- ---- normal forms and compact texts

last_stays_text : compact (members (member (codes "a") (nonneg 2) no_members)) ≡ codes "{\"a\":2}"
unfolding string_text
last_stays_text = rw (decimal_digit 2 (omega arith)) refl

list_text : compact (list (tree (nonneg 1) (tree (neg (pos 0)) (tree null no_trees)))) ≡ codes "[1,-0,null]"
list_text = rw (decimal_digit 1 (omega arith), decimal_digit 0 (omega arith)) refl

escaped_text : compact (str (97 ∷ 34 ∷ 92 ∷ 47 ∷ 10 ∷ 0x1F ∷ 0x7F ∷ [])) ≡ codes "\"a\\\"\\\\/\\n\\u001f" ++ 0x7F ∷ 34 ∷ []
unfolding string_text
escaped_text = refl

character_bytes : encode_utf8 0x1F600 ≡ 0xF0 ∷ 0x9F ∷ 0x98 ∷ 0x80 ∷ []
unfolding encode
character_bytes = refl

-- each tree of `NormalForms` has its normal form or its compact text
pub normal_forms : NormalForms
normal_forms = record {
  last_stays = refl;
  last_stays_text = last_stays_text;
  names_rise = refl;
  no_negated_zero = refl;
  list_text = list_text;
  escaped_text = escaped_text;
  character_bytes = character_bytes;
}
