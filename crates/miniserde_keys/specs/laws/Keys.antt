-- What `parse` returns as a key, and the laws of keys: equal keys have equal codes and one text, and a key's text is
-- parsed as it. Each test of a text is first turned into the fact that it decides.
use Rattle.std.proofs.Common.{◌≡◌, ◌≢◌, ◌∙◌, ℕ, zero, suc, ◌+◌, ◌^◌, ◌<◌, ◌≤◌, ℤ, pos, negsuc, neg_ℤ, Bool}
use Rattle.std.proofs.Common.{true, false, cond, nat_eq, List, [], ◌∷◌, length, drop, get_or, Option, Some, None}
use Rattle.std.proofs.Common.{refl, sym, ap, subst, inl, inr, arith, append-nil}
use Rattle.std.specs.Prelude.{decimal, ◌⊎◌, ◌↔◌, ⊤, Result, Ok, Err, OkIff, MatchResult}
use Rattle.std.specs.Bool.{beq, Decides}
use Rattle.std.specs.Ordering.{int_eq}
use Rattle.std.specs.Char.{IsScalar, encode_utf8}
use Rattle.std.specs.Int.{IsInRange}
use Rattle.std.specs.Int.RustNames.{FitsSigned}
use Rattle.std.specs.Fmt.{signed_decimal}
use Rattle.std.specs.Str.{all_ascii_digits, bytes_eq, chars, encode_utf8_all, is_utf8}
use Rattle.std.specs.Str.Parse.{IsNumeral, ParsesUnsigned, ParsesSigned, digits_value, starts_with_minus}
use Rattle.std.specs.Str.Parse.{without_leading_plus, without_leading_sign, signed_digits_value}
use Rattle.std.proofs.lemmas.Bool.Decides.{same_from_decides, Decides-like, Decides-and, Decides-ltb, Decides-eqb}
use Rattle.std.proofs.lemmas.Bool.Decides.{Decides-int_eq, nat_tests}
use Rattle.std.proofs.lemmas.Bool.{true≢false}
use Rattle.std.proofs.lemmas.Slice.Eq.{bytes_eq-Decides}
use Rattle.std.proofs.lemmas.Fmt.{decimal_is_IsNumeral}
use Rattle.std.proofs.lemmas.Str.{IsUtf8-from_is_utf8, is_utf8-from_IsUtf8, encodes-chars, scalars-chars}
use Rattle.std.proofs.lemmas.Str.{chars_past_char, chars-nil, IsUtf8-encode}
use Rattle.std.proofs.lemmas.Str.Parse.{IsNumeralModel, numerals_by_value, tells_all_ascii_digits, without_leading_plus_none, not_in_digits}
use lib.Utf8.{scalars}
use mir.Syntax.{Width, w8, w16, w32, w64, w128}
use mir.Val.{hbits}
use Rattle.miniserde_keys.specs.Keys.{Key, of_nat, of_int, of_bool, bool_text, read_bool, single_char, read_char}
use Rattle.miniserde_keys.specs.Keys.{are_digits_below, read_digits, read_unsigned, read_signed}
use Rattle.miniserde_keys.specs.laws.Bits.{HasBits}

-- the text of each valid key is parsed as a valid key that is equal to it: one with the same code
abbrev pub ReadsBack : {K : Type 0} → (K → Type 0) → (K → Key) → (Key → Key) → (List ℕ → Option Key) → (K → List ℕ) → Type 0
ReadsBack {K} valid content code read text =
    (k : K) → valid k → (w : K) × valid w × (read (text k) ≡ Some (content w)) × (code (content w) ≡ code (content k))

-- names that are read as keys of one code are equal; `read` returns the content of the key that a name is read as
abbrev pub ReadsOneName : (List ℕ → Option Key) → (Key → Key) → Type 0
ReadsOneName read code = (n m : List ℕ) (c d : Key) → read n ≡ Some c → read m ≡ Some d → code c ≡ code d → n ≡ m

-- ---- equal keys

-- two numbers are equal exactly if the bytes of their contents are
pub nat-alike : (a b : ℕ) → nat_eq a b ≡ bytes_eq (of_nat a) (of_nat b)
nat-alike a b =
    same_from_decides _ _ (Decides-eqb a b)
    (Decides-like _ (λ e. cc) (λ e. ap of_nat e) (bytes_eq-Decides (of_nat a) (of_nat b)))

-- numbers with one content are equal
pub nat-same : (a b : ℕ) → of_nat a ≡ of_nat b → a ≡ b
nat-same a b e = cc

-- numbers with one content have one text, whatever the function `text`
pub nat-text : (text : ℕ → List ℕ) (a b : ℕ) → of_nat a ≡ of_nat b → text a ≡ text b
nat-text text a b e = ap text (nat-same a b e)

-- integers with one content are equal
pub int-same : (a b : ℤ) → of_int a ≡ of_int b → a ≡ b
int-same (pos m) (pos n) e = cc
int-same (pos m) (negsuc n) e = cc
int-same (negsuc m) (pos n) e = cc
int-same (negsuc m) (negsuc n) e = cc

-- two integers are equal exactly if the bytes of their contents are
pub int-alike : (a b : ℤ) → int_eq a b ≡ bytes_eq (of_int a) (of_int b)
int-alike a b =
    same_from_decides _ _ (Decides-int_eq a b)
    (Decides-like _ (int-same a b) (λ e. ap of_int e) (bytes_eq-Decides (of_int a) (of_int b)))

-- two values of `bool` are equal exactly if the bytes of their contents are
pub bool-alike : (a b : Bool) → beq a b ≡ bytes_eq (of_bool a) (of_bool b)
bool-alike true true = refl
bool-alike true false = refl
bool-alike false true = refl
bool-alike false false = refl

-- values of `bool` with one content have one text
pub bool-text : (a b : Bool) → of_bool a ≡ of_bool b → bool_text a ≡ bool_text b
bool-text true true e = refl
bool-text true false e = cc
bool-text false true e = cc
bool-text false false e = refl

-- the text of each `bool` is parsed as that `bool`
pub bool-back : ReadsBack (λ _. ⊤) of_bool (λ c. c) read_bool bool_text
bool-back true r = (true, r, refl, refl)
bool-back false r = (false, r, refl, refl)

-- ---- digits

own : IsNumeralModel (λ ds. all_ascii_digits ds ≡ true) (digits_value 10)
own = numerals_by_value _ tells_all_ascii_digits

digits_decide : (limit : ℕ) (ds : List ℕ)
    → Decides (are_digits_below limit ds) (IsNumeral 10 ds × (digits_value 10 ds < limit))
digits_decide limit ds =
    Decides-like _ (λ h. ((h.0, own.to ds h.1.0), h.1.1)) (λ h. (h.0.0, (own.from ds h.0.1, h.1)))
    (Decides-and _ _ (Decides-ltb 0 (length ds))
    (Decides-and _ _ (λ e. e, λ e. e) (Decides-ltb (digits_value 10 ds) limit)))

-- k is the content if P holds, and nothing if P does not hold
abbrev pub ReadsIf : {C : Type 0} → Type 0 → Option C → C → Type 0
ReadsIf P k code = (P × (k ≡ Some code)) ⊎ (¬ P × (k ≡ None))

-- a test that decides P chooses between the content and nothing
pub reads_if : {C P : Type 0} (b : Bool) (code : C) → Decides b P → ReadsIf P (cond b (Some code) None) code
reads_if true code d = inl (d.0 refl, refl)
reads_if false code d = inr (λ p. true≢false (sym (d.1 p)), refl)

-- if r is v exactly if P holds, r is what is read
pub as_read : {A C E P : Type 0} {k : Option C} {v : A} (content : A → C) (r : Result A E) → ReadsIf P k (content v)
    → OkIff r P v → MatchResult r (λ n. k ≡ Some (content n)) (λ _. k ≡ None)
as_read content (Ok x) (inl d) gives = d.1 ∙ ap (λ n. Some (content n)) (sym gives.1)
as_read content (Ok x) (inr d) gives = absurd (d.0 gives.0)
as_read content (Err x) (inl d) gives = absurd (gives d.0)
as_read content (Err x) (inr d) gives = d.1

-- if R says that the number of the digits is below the limit, then they are read exactly if they are digits and R
-- holds
digits_read : {R : Type 0} (limit : ℕ) (code : ℕ → List ℕ) (ds : List ℕ) → R ↔ (digits_value 10 ds < limit)
    → ReadsIf (IsNumeral 10 ds × R) (read_digits limit code ds) (code (digits_value 10 ds))
digits_read limit code ds says =
    reads_if (are_digits_below limit ds) _
    (Decides-like _ (λ d. (d.0, says.1 d.1)) (λ d. (d.0, says.0 d.1)) (digits_decide limit ds))

-- the digits of a number below the limit are read as that number
decimal_some : (limit : ℕ) (code : ℕ → List ℕ) (n : ℕ) → n < 2 ^ 64 → n < limit
    → read_digits limit code (decimal n) ≡ Some (code n)
decimal_some limit code n h k =
    let d = decimal_is_IsNumeral n h in
    let t : are_digits_below limit (decimal n) ≡ true =
    (digits_decide limit (decimal n)).1 (d.0, subst (λ m. m < limit) (sym d.1) k) in
    rw t (ap (λ m. Some (code m)) d.1)

first_digit : (n c : ℕ) → n < 2 ^ 64 → ¬ (IsInRange 48 57 c) → get_or (decimal n) 0 0 ≢ c
first_digit n c h k = let d = decimal_is_IsNumeral n h in not_in_digits own (decimal n) c (own.from _ d.0.1) k 0 d.0.0

no_plus : (n : ℕ) → n < 2 ^ 64 → without_leading_plus (decimal n) ≡ decimal n
no_plus n h = without_leading_plus_none (decimal n) (first_digit n 43 h (λ r. absurd (omega (arith, r.0))))

no_minus : (n : ℕ) → n < 2 ^ 64 → starts_with_minus (decimal n) ≡ false
no_minus n h = let other = first_digit n 45 h (λ r. absurd (omega (arith, r.0))) in grind (arith, nat_tests, other)

-- ---- unsigned integers

unsigned_reads : (bits : ℕ) (bs : List ℕ)
    → ReadsIf (IsNumeral 10 (without_leading_plus bs) × (digits_value 10 (without_leading_plus bs) < 2 ^ bits))
    (read_unsigned bits bs) (of_nat (digits_value 10 (without_leading_plus bs)))
unfolding read_unsigned
unsigned_reads bits bs = digits_read (2 ^ bits) of_nat (without_leading_plus bs) (λ h. h, λ h. h)

-- the digits of an unsigned integer of so many bits, at most 64, are parsed as that integer
pub unsigned-back : (bits : ℕ) → 2 ^ bits ≤ 2 ^ 64 → (n : ℕ) → n < 2 ^ bits
    → read_unsigned bits (decimal n) ≡ Some (of_nat n)
unfolding read_unsigned
unsigned-back bits wide n h =
    let small : n < 2 ^ 64 = omega arith in rw (no_plus n small) (decimal_some (2 ^ bits) of_nat n small h)

-- what std's `parse` returns is what the text is read as
pub unsigned-parses : {E : Type 0} (bits : ℕ) (bs : List ℕ) (r : Result ℕ E) → ParsesUnsigned bits 10 bs r
    → MatchResult r (λ n. read_unsigned bits bs ≡ Some (of_nat n)) (λ _. read_unsigned bits bs ≡ None)
unsigned-parses bits bs r gives = as_read of_nat r (unsigned_reads bits bs) gives

-- ---- signed integers

negated_fits : (w : Width) (n : ℕ) → n < 2 ^ hbits w + 1 → FitsSigned w (neg_ℤ (pos n))
negated_fits w8 zero h = record { sfits = omega arith }
negated_fits w16 zero h = record { sfits = omega arith }
negated_fits w32 zero h = record { sfits = omega arith }
negated_fits w64 zero h = record { sfits = omega arith }
negated_fits w128 zero h = record { sfits = omega arith }
negated_fits w (suc n) h = record { sfits = omega arith }

fits_negated : (w : Width) (n : ℕ) → FitsSigned w (neg_ℤ (pos n)) → n < 2 ^ hbits w + 1
fits_negated w zero h = omega arith
fits_negated w (suc n) h = omega (arith, h.sfits)

-- the number that the digits ds are, negated if a `-` stands before them
abbrev signed_by : Bool → List ℕ → ℤ
signed_by minus ds = cond minus (neg_ℤ (pos (digits_value 10 ds))) (pos (digits_value 10 ds))

-- the content of the number that is read: from ds if a `-` stands before the digits, and else from ps
abbrev read_by : Width → Bool → List ℕ → List ℕ → Option (List ℕ)
read_by w minus ds ps =
    cond minus (read_digits (2 ^ hbits w + 1) (λ n. of_int (neg_ℤ (pos n))) ds)
    (read_digits (2 ^ hbits w) (λ n. of_int (pos n)) ps)

reads_by : (w : Width) (minus : Bool) (ds ps : List ℕ)
    → ReadsIf (IsNumeral 10 (cond minus ds ps) × FitsSigned w (signed_by minus (cond minus ds ps)))
    (read_by w minus ds ps) (of_int (signed_by minus (cond minus ds ps)))
reads_by w true ds ps =
    digits_read (2 ^ hbits w + 1) (λ n. of_int (neg_ℤ (pos n))) ds (fits_negated w _, negated_fits w _)
reads_by w false ds ps =
    digits_read (2 ^ hbits w) (λ n. of_int (pos n)) ps (λ f. f.sfits, λ h. record { sfits = h })

-- the text bs is read as its number, if it is digits after a sign or none and the number fits the type
abbrev ReadsSigned : ℕ → Width → List ℕ → Type 0
ReadsSigned bits w bs =
    ReadsIf (IsNumeral 10 (without_leading_sign bs) × FitsSigned w (signed_digits_value 10 bs))
    (read_signed bits bs) (of_int (signed_digits_value 10 bs))

signed_reads : {bits : ℕ} {w : Width} → HasBits w bits → (bs : List ℕ) → ReadsSigned bits w bs
unfolding read_signed
signed_reads {w = w} has bs =
    rw (sym has.besides_sign) (reads_by w (starts_with_minus bs) (drop 1 bs) (without_leading_plus bs))

-- the text of a signed integer of so many bits, at most 64, is parsed as that integer
pub signed-back : {bits : ℕ} {w : Width} → HasBits w bits → (n : ℤ) → FitsSigned w n
    → read_signed bits (signed_decimal n) ≡ Some (of_int n)
unfolding read_signed
signed-back {w = w} has (pos n) h =
    let below : n < 2 ^ hbits w = h.sfits in
    let small : n < 2 ^ 64 = omega (arith, has.at_most_64) in
    let own = decimal_some (2 ^ hbits w) (λ n. of_int (pos n)) n small below in
    rw (sym has.besides_sign, no_minus n small, no_plus n small) own
signed-back {w = w} has (negsuc n) h =
    let below : n < 2 ^ hbits w = h.sfits in
    let own = decimal_some (2 ^ hbits w + 1) (λ n. of_int (neg_ℤ (pos n))) (suc n) (omega (arith, has.at_most_64)) (omega arith) in
    rw (sym has.besides_sign) own

-- what std's `parse` returns is what the text is read as
pub signed-parses : {E : Type 0} {bits : ℕ} {w : Width} → HasBits w bits → (bs : List ℕ) (r : Result ℤ E)
    → ParsesSigned w 10 bs r
    → MatchResult r (λ n. read_signed bits bs ≡ Some (of_int n)) (λ _. read_signed bits bs ≡ None)
signed-parses has bs r gives = as_read of_int r (signed_reads has bs) gives

-- ---- characters

pub char_some : (c : ℕ) → IsScalar c → read_char (encode_utf8 c) ≡ Some (of_nat c)
unfolding read_char
char_some c s =
    let u = IsUtf8-encode c s in
    let t : is_utf8 (encode_utf8 c) ≡ true = is_utf8-from_IsUtf8 _ u in
    let e : chars (encode_utf8 c) ≡ c ∷ [] =
    chars_past_char (encode_utf8 c) [] c u (sym (append-nil (encode_utf8 c))) ∙ ap (λ cs. c ∷ cs) chars-nil in
    rw (t, e) refl

-- the UTF-8 bytes of each character are parsed as that character
pub char-back : ReadsBack IsScalar of_nat (λ c. c) read_char encode_utf8
char-back c s = (c, s, char_some c s, refl)

only_none : (bs cs : List ℕ) → scalars cs ≡ true → encode_utf8_all cs ≡ bs
    → ((c : ℕ) → IsScalar c → bs ≢ encode_utf8 c) → single_char cs ≡ None
only_none bs [] s e h = refl
only_none bs (c ∷ []) s e h = absurd (h c (grind (arith, s)) (sym e ∙ append-nil (encode_utf8 c)))
only_none bs (c ∷ d ∷ cs) s e h = refl

pub char_none : (bs : List ℕ) → ((c : ℕ) → IsScalar c → bs ≢ encode_utf8 c) → read_char bs ≡ None
unfolding read_char
char_none bs h = elim (is_utf8 bs) as (λ b. is_utf8 bs ≡ b → cond b (single_char (chars bs)) None ≡ None) [
  | true ↦ λ t. let u = IsUtf8-from_is_utf8 bs t in only_none bs (chars bs) (scalars-chars bs u) (encodes-chars bs u) h
  | false ↦ λ t. refl
] refl

-- the lemmas for `from_key` of `char`
pub ruleset char_reads = (char_some, char_none)
