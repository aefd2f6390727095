-- No text with the same normal form is shorter than the compact text of that form. By recursion over the tree: its
-- compact text is no longer than any text that spells it (`value_len`), and the compact text of its normal form is no
-- longer than its own (`norm_len`).
use Rattle.std.proofs.Common.{◌≡◌, ℕ, zero, suc, ◌+◌, ◌^◌, ◌<◌, ◌≤◌, ℤ, pos, negsuc, neg_ℤ, unsigned_abs, Bool}
use Rattle.std.proofs.Common.{true, false, not, ◌||◌, ◌==◌, List, [], ◌∷◌, ◌++◌, length, get_or, drop, decimal}
use Rattle.std.proofs.Common.{flat_map, encode_utf8, encode_utf8_all, refl, sym, ap, ap₂, ◌∙◌, append-nil, arith}
use Rattle.std.proofs.Common.{inl, inr, length-append, rules, Ordering, Less, Equal, Greater, true≢false}
use Rattle.std.specs.List.{AllByRecursion}
use Rattle.std.specs.Str.Parse.{digits_value}
use Rattle.std.proofs.lemmas.Bool.{cases_lt, and_parts}
use Rattle.std.proofs.lemmas.Bool.Decides.{nat_tests}
use Rattle.std.proofs.lemmas.Fmt.{decimal-digits_value}
use Rattle.std.proofs.lemmas.List.Concat.{flat_map-append}
use Rattle.std.proofs.lemmas.Str.{encode_ascii, length-encode, len_utf8_bounds}
use Rattle.std.proofs.lemmas.Str.Parse.{IsNumeralModel, numerals_by_value}
use Rattle.std.specs.Ordering.{match_ordering}
use Rattle.miniserde_model.specs.Tree.{Tree, null, truth, nonneg, neg, num, str, list, members, Trees, no_trees}
use Rattle.miniserde_model.specs.Tree.{tree, Members, no_members, member}
use Rattle.miniserde_model.specs.Number.{IsDigit, IsInt, IsFraction, IsExponent, IsNumberText, IsNumber, is_plain, begins_minus}
use Rattle.miniserde_model.specs.String.{IsRaw, IsShortEscape, quote, backslash, slash, backspace, form_feed}
use Rattle.miniserde_model.specs.String.{line_feed, carriage_return, tab, IsPiece, raw, short, unit, pair}
use Rattle.miniserde_model.specs.String.{ArePieces, IsString}
use Rattle.miniserde_model.specs.Value.{Spaced, Named, Then, IsValue, AreElements, AreMoreElements, AreMembers, AreMoreMembers, IsJson}
use Rattle.miniserde_model.specs.Compact.{escape_text, string_text, compact, compact_children, compact_more}
use Rattle.miniserde_model.specs.Compact.{compact_members, compact_more_members}
use Rattle.miniserde_model.specs.Normal.{text_cmp, with_if_absent, norm_neg, norm, norm_children, norm_members}
use Rattle.miniserde_model.proofs.Accepted.{tells}
use Rattle.miniserde_model.proofs.Written.{raw_text, high_stays, low_stays}

-- ---- an integer has one spelling

plain_end : (a b : List ℕ) → is_plain (a ++ b) ≡ true → is_plain b ≡ true
plain_end [] b e = e
plain_end (c ∷ a) b e = plain_end a b (and_parts _ _ e).1

plain_front : (a b : List ℕ) → is_plain (a ++ b) ≡ true → is_plain a ≡ true
plain_front [] b e = refl
plain_front (c ∷ a) b e = let p = and_parts (not ((c == 46) || (c == 101) || (c == 69))) (is_plain (a ++ b)) e in
    rw (p.0) (plain_front a b p.1)

no_fraction : (x : List ℕ) → IsFraction x → is_plain x ≡ true → x ≡ []
no_fraction x (inl h) e = h
no_fraction x (inr h) e = absurd (true≢false (sym e ∙ ap is_plain h.1))

no_exponent : (x : List ℕ) → IsExponent x → is_plain x ≡ true → x ≡ []
no_exponent x (inl h) e = h
no_exponent x (inr h) e = absurd (elim h.4 [
  | inl l ↦ true≢false (sym e ∙ ap is_plain (h.3 ∙ ap (λ c. c ∷ (h.1 ++ h.2)) l))
  | inr u ↦ true≢false (sym e ∙ ap is_plain (h.3 ∙ ap (λ c. c ∷ (h.1 ++ h.2)) u))
])

plain_text : (b : List ℕ) (p : IsNumberText b) → is_plain b ≡ true → b ≡ p.minus ++ p.int
plain_text b p e =
    let tail : is_plain (p.fraction ++ p.exponent) ≡ true = plain_end p.int _ (plain_end p.minus _ (ap is_plain (sym p.text) ∙ e)) in
    let f : p.fraction ≡ [] = no_fraction p.fraction p.is_fraction (plain_front p.fraction p.exponent tail) in
    let x : p.exponent ≡ [] = no_exponent p.exponent p.is_exponent (plain_end p.fraction p.exponent tail) in
    p.text ∙ ap (λ z. p.minus ++ (p.int ++ z)) (ap₂ (λ (u v : List ℕ). u ++ v) f x) ∙ ap (λ z. p.minus ++ z) (append-nil p.int)

digits_own : IsNumeralModel (AllByRecursion IsDigit) (digits_value 10)
digits_own = numerals_by_value (AllByRecursion IsDigit) (search rules)

whole_digits : (w : List ℕ) → IsInt w → AllByRecursion IsDigit w
whole_digits [] h = absurd h
whole_digits (c ∷ cs) (inl h) = rw (h.0, h.1) ((omega arith, omega arith), tt)
whole_digits (c ∷ cs) (inr h) = ((omega arith, omega arith), h.1)

whole_leads : (w : List ℕ) → IsInt w → (get_or w 0 0 ≡ 48 → length w ≡ 1)
whole_leads [] h e = absurd h
whole_leads (c ∷ cs) (inl h) e = rw (h.1) refl
whole_leads (c ∷ cs) (inr h) e = absurd (omega arith)

whole_some : (w : List ℕ) → IsInt w → 0 < length w
whole_some [] h = absurd h
whole_some (c ∷ cs) h = omega arith

whole_decimal : (w : List ℕ) → IsInt w → digits_value 10 w < 2 ^ 64 → decimal (digits_value 10 w) ≡ w
whole_decimal w h l = decimal-digits_value digits_own w (whole_digits w h) (whole_some w h) (whole_leads w h) l

whole_no_minus : (w rest : List ℕ) → IsInt w → begins_minus (w ++ rest) ≡ false
whole_no_minus [] rest h = absurd h
whole_no_minus (c ∷ cs) rest (inl h) = grind (arith, nat_tests)
whole_no_minus (c ∷ cs) rest (inr h) = grind (arith, nat_tests)

-- a number text whose leaf is the integer n without a minus is the decimal text of n
pub nonneg_text : (b : List ℕ) (n : ℕ) → IsNumber b (nonneg n) → decimal n ≡ b
nonneg_text b n p =
    let l = tells b (nonneg n) p in
    let t = plain_text b p.0 l.plain in
    elim p.0.is_minus [
      | inl none ↦
          let w : b ≡ p.0.int = t ∙ ap (λ z. z ++ p.0.int) none in
          let small : digits_value 10 p.0.int < 2 ^ 64 = omega (arith, l.small, l.value, ap (digits_value 10) w) in
          ap decimal (l.value ∙ ap (digits_value 10) w) ∙ whole_decimal p.0.int p.0.is_int small ∙ sym w
      | inr sign ↦ absurd (true≢false (sym (ap begins_minus (t ∙ ap (λ z. z ++ p.0.int) sign)) ∙ l.bare))
    ]

abs_negated : (n : ℕ) → unsigned_abs (neg_ℤ (pos n)) ≡ n
abs_negated zero = refl
abs_negated (suc n) = refl

-- a number text whose leaf is the integer z with a minus is `-` and the decimal text of z's absolute value
pub neg_text : (b : List ℕ) (z : ℤ) → IsNumber b (neg z) → 45 ∷ decimal (unsigned_abs z) ≡ b
neg_text b z p =
    let l = tells b (neg z) p in
    let t = plain_text b p.0 l.plain in
    elim p.0.is_minus [
      | inl none ↦ absurd (true≢false
          (sym l.minus ∙ ap begins_minus (t ∙ ap (λ y. y ++ p.0.int) none ∙ sym (append-nil p.0.int))
          ∙ whole_no_minus p.0.int [] p.0.is_int))
      | inr sign ↦
          let w : b ≡ 45 ∷ p.0.int = t ∙ ap (λ y. y ++ p.0.int) sign in
          let v : digits_value 10 (drop 1 b) ≡ digits_value 10 p.0.int = ap (λ y. digits_value 10 (drop 1 y)) w in
          let small : digits_value 10 p.0.int < 2 ^ 64 = omega (arith, l.small, v) in
          ap (λ y. 45 ∷ decimal y) (ap unsigned_abs l.value ∙ abs_negated _ ∙ v) ∙ ap (λ y. 45 ∷ y)
          (whole_decimal p.0.int p.0.is_int small) ∙ sym w
    ]

-- ---- strings

escaped_len : (x : ℕ) → length (escape_text x) ≤ 6
escaped_len x = grind (arith, nat_tests)

char_len : (c : ℕ) → length (flat_map escape_text (encode_utf8 c)) ≤ 6
char_len c = elim (cases_lt c 128) [
  | inl small ↦ rw (low_stays c small) (escaped_len c)
  | inr big ↦ rw (high_stays c big) (omega (arith, length-encode c, len_utf8_bounds c))
]

raw_len : (b : List ℕ) (c : ℕ) → IsRaw b c → length (flat_map escape_text (encode_utf8 c)) ≤ length b
raw_len b c p = elim (cases_lt c 128) [
  | inl small ↦ rw (low_stays c small, raw_text c p.printable p.not_quote p.not_backslash, p.text, encode_ascii c small) (omega arith)
  | inr big ↦ rw (high_stays c big, p.text) (omega arith)
]

short_len : (l c : ℕ) → IsShortEscape l c → length (flat_map escape_text (encode_utf8 c)) ≤ 2
short_len l c quote = rw (low_stays 34 (omega arith)) (omega arith)
short_len l c backslash = rw (low_stays 92 (omega arith)) (omega arith)
short_len l c slash = rw (low_stays 47 (omega arith)) (omega arith)
short_len l c backspace = rw (low_stays 8 (omega arith)) (omega arith)
short_len l c form_feed = rw (low_stays 12 (omega arith)) (omega arith)
short_len l c line_feed = rw (low_stays 10 (omega arith)) (omega arith)
short_len l c carriage_return = rw (low_stays 13 (omega arith)) (omega arith)
short_len l c tab = rw (low_stays 9 (omega arith)) (omega arith)

piece_len : (b : List ℕ) (c : ℕ) → IsPiece b c → length (flat_map escape_text (encode_utf8 c)) ≤ length b
piece_len b c (raw p) = raw_len b c p
piece_len b c (short l s t) = rw t (short_len l c s)
piece_len b c (unit s p) = rw (p.text) (char_len c)
piece_len b c (pair p) =
    omega (
      arith,
      char_len c,
      ap length p.text,
      length-append p.first p.second,
      ap length p.is_first.text,
      ap length p.is_second.text,
    )

pieces_len : (cs b : List ℕ) → ArePieces b cs → length (flat_map escape_text (encode_utf8_all cs)) ≤ length b
pieces_len [] b p = omega arith
pieces_len (c ∷ cs) b p =
    omega (
      arith,
      ap length (flat_map-append escape_text (encode_utf8 c) (encode_utf8_all cs)),
      length-append (flat_map escape_text (encode_utf8 c)) (flat_map escape_text (encode_utf8_all cs)),
      piece_len p.0 c p.3,
      pieces_len cs p.1 p.4,
      ap length p.2,
      length-append p.0 p.1,
    )

string_len : (b s : List ℕ) → IsString b s → length (string_text s) ≤ length b
unfolding string_text
string_len b s p =
    let inner = pieces_len p.characters p.inside p.pieces in
    omega (
      arith,
      inner,
      ap (λ z. length (flat_map escape_text z)) p.value,
      length-append (flat_map escape_text s)
          (34 ∷ []),
      ap length p.text,
      length-append p.inside (34 ∷ []),
    )

-- ---- the compact text is the shortest that spells its tree

spaced_len : {P : List ℕ → Type 0} (b : List ℕ) (p : Spaced P b) → length p.inner ≤ length b
spaced_len b p = omega (arith, ap length p.text, length-append p.before (p.inner ++ p.after), length-append p.inner p.after)

then_len : {P M : List ℕ → Type 0} (b : List ℕ) (p : Then P M b) → length p.first + length p.rest ≡ length b
then_len b p = omega (arith, ap length p.text, length-append p.first p.rest)

named_len : {N V : List ℕ → Type 0} (b : List ℕ) (p : Named N V b) → length p.is_name.inner + 1 + length p.is_value.inner ≤ length b
named_len b p = omega (
  arith,
  ap length p.text,
  length-append p.name (58 ∷ p.value),
  spaced_len p.name p.is_name,
  spaced_len p.value p.is_value,
)

mutual
  pub value_len : (t : Tree) (b : List ℕ) → IsValue t b → length (compact t) ≤ length b
  value_len null b p = rw p (omega arith)
  value_len (truth x) b p = rw p (omega arith)
  value_len (nonneg n) b p = rw (nonneg_text b n p) (omega arith)
  value_len (neg z) b p = omega (arith, ap length (neg_text b z p))
  value_len (num x) b p = rw (tells b (num x) p) (omega arith)
  value_len (str s) b p = string_len b s p
  value_len (list ts) b p =
      omega (
        arith,
        elements_len ts p.inside p.is_inside,
        length-append (compact_children ts) (93 ∷ []),
        ap length p.text,
        length-append p.inside (93 ∷ []),
      )
  value_len (members ms) b p =
      omega (
        arith,
        members_len ms p.inside p.is_inside,
        length-append (compact_members ms) (125 ∷ []),
        ap length p.text,
        length-append p.inside (125 ∷ []),
      )

  elements_len : (ts : Trees) (b : List ℕ) → AreElements ts b → length (compact_children ts) ≤ length b
  elements_len no_trees b p = omega arith
  elements_len (tree t ts) b p =
      omega (
        arith,
        length-append (compact t) (compact_more ts),
        value_len t p.is_first.inner p.is_first.is_inner,
        more_len ts p.rest p.is_rest,
        spaced_len p.first p.is_first,
        then_len b p,
      )

  more_len : (ts : Trees) (b : List ℕ) → AreMoreElements ts b → length (compact_more ts) ≤ length b
  more_len no_trees b p = omega arith
  more_len (tree t ts) b p =
      omega (
        arith,
        length-append (compact t) (compact_more ts),
        value_len t p.2.is_first.inner
            p.2.is_first.is_inner,
        more_len ts p.2.rest p.2.is_rest,
        spaced_len p.2.first p.2.is_first,
        then_len p.0 p.2,
        ap length p.1,
      )

  members_len : (ms : Members) (b : List ℕ) → AreMembers ms b → length (compact_members ms) ≤ length b
  members_len no_members b p = omega arith
  members_len (member s t ms) b p =
      omega (
        arith,
        length-append (string_text s ++ 58 ∷ compact t) (compact_more_members ms),
        length-append (string_text s) (58 ∷ compact t),
        string_len p.is_first.is_name.inner s
            p.is_first.is_name.is_inner,
        value_len t p.is_first.is_value.inner p.is_first.is_value.is_inner,
        more_members_len ms p.rest p.is_rest,
        named_len p.first p.is_first,
        then_len b p,
      )

  more_members_len : (ms : Members) (b : List ℕ) → AreMoreMembers ms b → length (compact_more_members ms) ≤ length b
  more_members_len no_members b p = omega arith
  more_members_len (member s t ms) b p =
      omega (
        arith,
        length-append (string_text s ++ 58 ∷ compact t) (compact_more_members ms),
        length-append (string_text s) (58 ∷ compact t),
        string_len p.2.is_first.is_name.inner s
            p.2.is_first.is_name.is_inner,
        value_len t p.2.is_first.is_value.inner p.2.is_first.is_value.is_inner,
        more_members_len ms p.2.rest p.2.is_rest,
        named_len p.2.first p.2.is_first,
        then_len p.0 p.2,
        ap length p.1,
      )

-- ---- the normal form has no longer text

-- of members that are there, with a comma before each
counted : Members → ℕ
counted ms = length (compact_more_members ms)

counted_cons : (s : List ℕ) (t : Tree) (ms : Members)
    → counted (member s t ms) ≡ 2 + length (string_text s) + length (compact t) + counted ms
unfolding counted
counted_cons s t ms = omega (
  arith,
  length-append (string_text s ++ 58 ∷ compact t) (compact_more_members ms),
  length-append (string_text s)
      (58 ∷ compact t),
)

counted_first : (s : List ℕ) (t : Tree) (ms : Members) → counted (member s t ms) ≡ 1 + length (compact_members (member s t ms))
unfolding counted
counted_first s t ms = omega arith

counted_with : (s : List ℕ) (t : Tree) (ms : Members) → counted (with_if_absent s t ms) ≤ counted (member s t ms)
counted_with s t no_members = omega arith
counted_with s t (member r u ms) = go (text_cmp s r) (with_if_absent s t ms) (counted_with s t ms)
  where
    go : (o : Ordering) (more : Members) → counted more ≤ counted (member s t ms)
        → counted (match_ordering o (member s t (member r u ms)) (member r u ms) (member r u more)) ≤ counted (member s t (member r u ms))
    go Less more h = omega arith
    go Equal more h = omega (arith, counted_cons s t (member r u ms))
    go Greater more h = omega (arith, counted_cons s t (member r u ms), counted_cons r u ms, counted_cons r u more, counted_cons s t ms)

abbrev is_some_member : Members → Bool
is_some_member no_members = false
is_some_member (member s t ms) = true

some_placed : (o : Ordering) (s : List ℕ) (t : Tree) (r : List ℕ) (u : Tree) (ms more : Members)
    → is_some_member (match_ordering o (member s t (member r u ms)) (member r u ms) (member r u more)) ≡ true
some_placed Less s t r u ms more = refl
some_placed Equal s t r u ms more = refl
some_placed Greater s t r u ms more = refl

some_with : (s : List ℕ) (t : Tree) (ms : Members) → is_some_member (with_if_absent s t ms) ≡ true
some_with s t no_members = refl
some_with s t (member r u ms) = some_placed (text_cmp s r) s t r u ms _

first_counted : (ms : Members) → is_some_member ms ≡ true → counted ms ≡ 1 + length (compact_members ms)
first_counted no_members e = absurd (true≢false (sym e))
first_counted (member s t ms) e = counted_first s t ms

neg_len : (z : ℤ) → length (compact (norm_neg z)) ≤ length (compact (neg z))
neg_len (pos n) = omega arith
neg_len (negsuc n) = omega arith

mutual
  pub norm_len : (t : Tree) → length (compact (norm t)) ≤ length (compact t)
  norm_len null = omega arith
  norm_len (truth x) = omega arith
  norm_len (nonneg n) = omega arith
  norm_len (neg z) = neg_len z
  norm_len (num x) = omega arith
  norm_len (str s) = omega arith
  norm_len (list ts) = omega (
    arith,
    norm_children_len ts,
    length-append (compact_children ts) (93 ∷ []),
    length-append (compact_children (norm_children ts)) (93 ∷ []),
  )
  norm_len (members ms) = omega (
    arith,
    norm_members_len ms,
    length-append (compact_members ms) (125 ∷ []),
    length-append (compact_members (norm_members ms)) (125 ∷ []),
  )

  norm_children_len : (ts : Trees) → length (compact_children (norm_children ts)) ≤ length (compact_children ts)
  norm_children_len no_trees = omega arith
  norm_children_len (tree t ts) =
      omega (
        arith,
        norm_len t,
        norm_more_len ts,
        length-append (compact t) (compact_more ts),
        length-append (compact (norm t)) (compact_more (norm_children ts)),
      )

  norm_more_len : (ts : Trees) → length (compact_more (norm_children ts)) ≤ length (compact_more ts)
  norm_more_len no_trees = omega arith
  norm_more_len (tree t ts) =
      omega (
        arith,
        norm_len t,
        norm_more_len ts,
        length-append (compact t) (compact_more ts),
        length-append (compact (norm t)) (compact_more (norm_children ts)),
      )

  norm_members_len : (ms : Members) → length (compact_members (norm_members ms)) ≤ length (compact_members ms)
  norm_members_len no_members = omega arith
  norm_members_len (member s t ms) =
      omega (
        arith,
        first_counted (norm_members (member s t ms)) (some_with s (norm t) (norm_members ms)),
        counted_first s t ms,
        counted_with s (norm t) (norm_members ms),
        counted_cons s (norm t) (norm_members ms),
        counted_cons s t ms,
        norm_len t,
        norm_counted ms,
      )

  norm_counted : (ms : Members) → counted (norm_members ms) ≤ counted ms
  norm_counted no_members = omega arith
  norm_counted (member s t ms) =
      omega (
        arith,
        counted_with s (norm t) (norm_members ms),
        counted_cons s (norm t) (norm_members ms),
        counted_cons s t ms,
        norm_len t,
        norm_counted ms,
      )

-- no text whose tree has this normal form is shorter
pub shortest : (b : List ℕ) (t u : Tree) → IsJson b u → norm u ≡ norm t → length (compact (norm t)) ≤ length b
shortest b t u p e = omega (arith, ap (λ z. length (compact z)) e, norm_len u, value_len u p.inner p.is_inner, spaced_len b p)
