-- A text that spells a tree is UTF-8. By recursion over the tree: each byte outside of strings is ASCII, and each
-- piece of a string is ASCII or an encoded character (`piece_utf8`).
use Rattle.std.proofs.Common.{◌≡◌, ℕ, ◌<◌, Bool, true, false, List, [], ◌∷◌, ◌++◌, IsUtf8, sym, subst, arith}
use Rattle.std.specs.Char.{digit_value}
use Rattle.std.specs.Str.{IsAscii}
use Rattle.std.proofs.lemmas.Bool.Decides.{nat_tests}
use Rattle.std.proofs.lemmas.Str.{IsUtf8-nil, IsUtf8-append, IsUtf8-from_ascii, IsUtf8-encode}
use Rattle.std.proofs.lemmas.Str.Ascii.{IsAscii-nil, IsAscii-cons}
use Rattle.miniserde_model.specs.Tree.{Tree, null, truth, nonneg, neg, num, str, list, members, Trees, no_trees}
use Rattle.miniserde_model.specs.Tree.{tree, Members, no_members, member}
use Rattle.miniserde_model.specs.Bytes.{is_number_byte}
use Rattle.miniserde_model.specs.Whitespace.{IsSpace, IsWhitespace}
use Rattle.miniserde_model.specs.Number.{IsNumberText}
use Rattle.miniserde_model.specs.String.{IsShortEscape, quote, backslash, slash, backspace, form_feed, line_feed}
use Rattle.miniserde_model.specs.String.{carriage_return, tab, IsUnit, IsPiece, raw, short, unit, pair, ArePieces}
use Rattle.miniserde_model.specs.String.{IsString}
use Rattle.miniserde_model.specs.Value.{Spaced, Named, Then, Between, word, IsValue, AreElements, AreMoreElements}
use Rattle.miniserde_model.specs.Value.{AreMembers, AreMoreMembers, IsJson}
use Rattle.miniserde_model.proofs.LongestRuns.{AllPass}
use Rattle.miniserde_model.proofs.Numbers.{number_pass}

-- ---- ASCII

-- a byte of ASCII before UTF-8
pub ascii_then : (c : ℕ) (x : List ℕ) → c < 128 → IsUtf8 x → IsUtf8 (c ∷ x)
ascii_then c x l u = IsUtf8-append (c ∷ []) x (IsUtf8-from_ascii (c ∷ []) (IsAscii-cons c [] l IsAscii-nil)) u

space_ascii : (c : ℕ) → IsSpace c → c < 128
space_ascii c h = grind (arith, nat_tests)

whitespace_utf8 : (b : List ℕ) → IsWhitespace b → IsUtf8 b
whitespace_utf8 [] h = IsUtf8-nil
whitespace_utf8 (c ∷ b) h = ascii_then c b (space_ascii c h.0) (whitespace_utf8 b h.1)

number_byte_ascii : (c : ℕ) → is_number_byte c ≡ true → c < 128
number_byte_ascii c h = grind (arith, nat_tests)

pass_utf8 : (b : List ℕ) → AllPass is_number_byte b → IsUtf8 b
pass_utf8 [] h = IsUtf8-nil
pass_utf8 (c ∷ b) h = ascii_then c b (number_byte_ascii c h.0) (pass_utf8 b h.1)

number_utf8 : (b : List ℕ) → IsNumberText b → IsUtf8 b
number_utf8 b p = pass_utf8 b (number_pass b p)

word_utf8 : (x : Bool) → IsUtf8 (word x)
word_utf8 true = ascii_then 116 _ (omega arith)
    (ascii_then 114 _ (omega arith) (ascii_then 117 _ (omega arith) (ascii_then 101 [] (omega arith) IsUtf8-nil)))
word_utf8 false = ascii_then 102 _ (omega arith)
    (ascii_then 97 _ (omega arith)
    (ascii_then 108 _ (omega arith)
    (ascii_then 115 _ (omega arith) (ascii_then 101 [] (omega arith) IsUtf8-nil))))

-- ---- strings

hex_ascii : (d : ℕ) → digit_value d < 16 → d < 128
hex_ascii d h = grind (arith, nat_tests)

unit_ascii : (b : List ℕ) (u : ℕ) → IsUnit b u → IsAscii b
unit_ascii b u p = subst IsAscii (sym p.text)
    (IsAscii-cons 92 (117 ∷ p.d3 ∷ p.d2 ∷ p.d1 ∷ p.d0 ∷ []) (omega arith)
    (IsAscii-cons 117 (p.d3 ∷ p.d2 ∷ p.d1 ∷ p.d0 ∷ []) (omega arith)
    (IsAscii-cons p.d3 (p.d2 ∷ p.d1 ∷ p.d0 ∷ []) (hex_ascii p.d3 p.hex3)
    (IsAscii-cons p.d2 (p.d1 ∷ p.d0 ∷ []) (hex_ascii p.d2 p.hex2)
    (IsAscii-cons p.d1 (p.d0 ∷ []) (hex_ascii p.d1 p.hex1)
    (IsAscii-cons p.d0 [] (hex_ascii p.d0 p.hex0) IsAscii-nil))))))

short_ascii : (l c : ℕ) → IsShortEscape l c → l < 128
short_ascii l c quote = omega arith
short_ascii l c backslash = omega arith
short_ascii l c slash = omega arith
short_ascii l c backspace = omega arith
short_ascii l c form_feed = omega arith
short_ascii l c line_feed = omega arith
short_ascii l c carriage_return = omega arith
short_ascii l c tab = omega arith

unit_utf8 : (b : List ℕ) (u : ℕ) → IsUnit b u → IsUtf8 b
unit_utf8 b u p = IsUtf8-from_ascii b (unit_ascii b u p)

piece_utf8 : (b : List ℕ) (c : ℕ) → IsPiece b c → IsUtf8 b
piece_utf8 b c (raw p) = subst IsUtf8 (sym p.text) (IsUtf8-encode c p.scalar)
piece_utf8 b c (short l s t) = subst IsUtf8 (sym t) (ascii_then 92 (l ∷ []) (omega arith) (ascii_then l [] (short_ascii l c s) IsUtf8-nil))
piece_utf8 b c (unit s p) = unit_utf8 b c p
piece_utf8 b c (pair p) =
    subst IsUtf8 (sym p.text)
    (IsUtf8-append p.first p.second (unit_utf8 p.first p.high p.is_first) (unit_utf8 p.second p.low p.is_second))

pieces_utf8 : (cs b : List ℕ) → ArePieces b cs → IsUtf8 b
pieces_utf8 [] b p = subst IsUtf8 (sym p) IsUtf8-nil
pieces_utf8 (c ∷ cs) b p = subst IsUtf8 (sym p.2) (IsUtf8-append p.0 p.1 (piece_utf8 p.0 c p.3) (pieces_utf8 cs p.1 p.4))

-- the spelling of a string is UTF-8
pub string_text_utf8 : (b s : List ℕ) → IsString b s → IsUtf8 b
string_text_utf8 b s p =
    subst IsUtf8 (sym p.text)
    (ascii_then 34 (p.inside ++ 34 ∷ []) (omega arith)
    (IsUtf8-append p.inside (34 ∷ []) (pieces_utf8 p.characters p.inside p.pieces)
    (ascii_then 34 [] (omega arith) IsUtf8-nil)))

-- ---- trees

spaced_utf8 : {P : List ℕ → Type 0} (b : List ℕ) (p : Spaced P b) → IsUtf8 p.inner → IsUtf8 b
spaced_utf8 b p u = subst IsUtf8 (sym p.text)
    (IsUtf8-append p.before (p.inner ++ p.after) (whitespace_utf8 p.before p.is_before)
    (IsUtf8-append p.inner p.after u (whitespace_utf8 p.after p.is_after)))

then_utf8 : {P R : List ℕ → Type 0} (b : List ℕ) (p : Then P R b) → IsUtf8 p.first → IsUtf8 p.rest → IsUtf8 b
then_utf8 b p u v = subst IsUtf8 (sym p.text) (IsUtf8-append p.first p.rest u v)

named_utf8 : {N V : List ℕ → Type 0} (b : List ℕ) (p : Named N V b) → IsUtf8 p.name → IsUtf8 p.value → IsUtf8 b
named_utf8 b p u v = subst IsUtf8 (sym p.text) (IsUtf8-append p.name (58 ∷ p.value) u (ascii_then 58 p.value (omega arith) v))

between_utf8 : {P : List ℕ → Type 0} (left right : ℕ) (b : List ℕ) (p : Between left P right b) → left < 128
    → right < 128 → IsUtf8 p.inside → IsUtf8 b
between_utf8 left right b p l r u =
    subst IsUtf8 (sym p.text)
    (ascii_then left (p.inside ++ right ∷ []) l
    (IsUtf8-append p.inside (right ∷ []) u (ascii_then right [] r IsUtf8-nil)))

key_utf8 : (name b : List ℕ) (p : Spaced (λ n. IsString n name) b) → IsUtf8 b
key_utf8 name b p = spaced_utf8 b p (string_text_utf8 p.inner name p.is_inner)

mutual
  pub value_utf8 : (t : Tree) (b : List ℕ) → IsValue t b → IsUtf8 b
  value_utf8 null b p = subst IsUtf8 (sym p)
      (ascii_then 110 _ (omega arith)
      (ascii_then 117 _ (omega arith)
      (ascii_then 108 _ (omega arith) (ascii_then 108 [] (omega arith) IsUtf8-nil))))
  value_utf8 (truth x) b p = subst IsUtf8 (sym p) (word_utf8 x)
  value_utf8 (nonneg n) b p = number_utf8 b p.0
  value_utf8 (neg z) b p = number_utf8 b p.0
  value_utf8 (num x) b p = number_utf8 b p.0
  value_utf8 (str s) b p = string_text_utf8 b s p
  value_utf8 (list ts) b p = between_utf8 91 93 b p (omega arith) (omega arith) (elements_utf8 ts p.inside p.is_inside)
  value_utf8 (members ms) b p = between_utf8 123 125 b p (omega arith) (omega arith) (members_utf8 ms p.inside p.is_inside)

  elements_utf8 : (ts : Trees) (b : List ℕ) → AreElements ts b → IsUtf8 b
  elements_utf8 no_trees b p = whitespace_utf8 b p
  elements_utf8 (tree t ts) b p =
      then_utf8 b p (spaced_utf8 p.first p.is_first (value_utf8 t p.is_first.inner p.is_first.is_inner))
      (more_elements_utf8 ts p.rest p.is_rest)

  more_elements_utf8 : (ts : Trees) (b : List ℕ) → AreMoreElements ts b → IsUtf8 b
  more_elements_utf8 no_trees b p = subst IsUtf8 (sym p) IsUtf8-nil
  more_elements_utf8 (tree t ts) b p =
      subst IsUtf8 (sym p.1) (ascii_then 44 p.0 (omega arith)
      (then_utf8 p.0 p.2 (spaced_utf8 p.2.first p.2.is_first
      (value_utf8 t p.2.is_first.inner p.2.is_first.is_inner)) (more_elements_utf8 ts p.2.rest p.2.is_rest)))

  members_utf8 : (ms : Members) (b : List ℕ) → AreMembers ms b → IsUtf8 b
  members_utf8 no_members b p = whitespace_utf8 b p
  members_utf8 (member name t ms) b p =
      then_utf8 b p (named_utf8 p.first p.is_first (key_utf8 name p.is_first.name p.is_first.is_name)
      (spaced_utf8 p.is_first.value p.is_first.is_value
      (value_utf8 t p.is_first.is_value.inner p.is_first.is_value.is_inner)))
      (more_members_utf8 ms p.rest p.is_rest)

  more_members_utf8 : (ms : Members) (b : List ℕ) → AreMoreMembers ms b → IsUtf8 b
  more_members_utf8 no_members b p = subst IsUtf8 (sym p) IsUtf8-nil
  more_members_utf8 (member name t ms) b p =
      subst IsUtf8 (sym p.1) (ascii_then 44 p.0 (omega arith)
      (then_utf8 p.0 p.2 (named_utf8 p.2.first p.2.is_first (key_utf8 name p.2.is_first.name p.2.is_first.is_name)
      (spaced_utf8 p.2.is_first.value p.2.is_first.is_value
      (value_utf8 t p.2.is_first.is_value.inner p.2.is_first.is_value.is_inner)))
      (more_members_utf8 ms p.2.rest p.2.is_rest)))

-- a text that spells a tree is UTF-8
pub json_utf8 : (b : List ℕ) (t : Tree) → IsJson b t → IsUtf8 b
json_utf8 b t p = spaced_utf8 b p (value_utf8 t p.inner p.is_inner)
