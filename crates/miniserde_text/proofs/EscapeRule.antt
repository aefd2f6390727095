-- The escape rule maps each byte by itself, keeps runs of plain bytes, and writes each byte as one to six bytes. By
-- recursion over the bytes, from the rule of one byte (`escapes-cons`) and of two texts (`escapes-append`).
use Rattle.std.proofs.Common.{◌≡◌, ℕ, suc, ◌+◌, ◌-◌, ◌*◌, ◌<◌, ◌≤◌, List, [], ◌∷◌, ◌++◌, length, true, false, take}
use Rattle.std.proofs.Common.{drop, get_or, refl, ap, sym, ◌∙◌, arith, length-append, length-drop, take-add}
use Rattle.std.proofs.Common.{append_assoc}
use Rattle.std.proofs.lemmas.List.{take_more, append-nil, take-append-drop, length-take, get_or-take, get_or-drop}
use Rattle.std.proofs.lemmas.Bool.Decides.{nat_tests}
use Rattle.std.proofs.lemmas.Str.{encode_ascii}
use Rattle.std.specs.Char.{encode_utf8}
use Rattle.std.specs.List.{AllByRecursion}
use Rattle.miniserde_model.specs.Bytes.{is_special}
use Rattle.miniserde_model.proofs.Written.{high_stays, low_stays}
use Rattle.miniserde_model.specs.Compact.{string_text}
use Rattle.miniserde_text.specs.private.Escape.{escape, escapes, IsPlainRun}
use Rattle.miniserde_text.specs.laws.Escapes.{escapes-append}

-- a byte that may stand for itself does
pub escape_plain : (b : ℕ) → is_special b ≡ false → escape b ≡ b ∷ []
unfolding escape
escape_plain b s = grind (arith, nat_tests)

-- the empty text is escaped as the empty text
pub escapes-nil : escapes [] ≡ []
unfolding escapes
escapes-nil = refl

-- a text is escaped as the escape of its first byte and then the escapes of the others
pub escapes-cons : (b : ℕ) (bs : List ℕ) → escapes (b ∷ bs) ≡ escape b ++ escapes bs
unfolding escapes
escapes-cons b bs = refl

pub escapes-one : (b : ℕ) → escapes (b ∷ []) ≡ escape b
escapes-one b = escapes-cons b [] ∙ (rw escapes-nil (append-nil (escape b)))

-- a piece with no byte to escape
pub escapes_plain : (xs : List ℕ) → ((k : ℕ) → k < length xs → is_special (get_or xs k 0) ≡ false) → escapes xs ≡ xs
escapes_plain [] h = escapes-nil
escapes_plain (x ∷ xs) h =
    rw (escapes-cons x xs, escape_plain x (h 0 (omega arith)), escapes_plain xs (λ k l. h (suc k) (omega arith))) refl

-- the same by recursion
pub escapes_all : (xs : List ℕ) → AllByRecursion (λ b. is_special b ≡ false) xs → escapes xs ≡ xs
escapes_all [] h = escapes-nil
escapes_all (x ∷ xs) h = rw (escapes-cons x xs, escape_plain x h.0, escapes_all xs h.1) refl

-- one more byte, and its length
pub length_escapes_more : (xs : List ℕ) (i : ℕ) → i < length xs
    → length (escapes (take (i + 1) xs)) ≡ length (escapes (take i xs)) + length (escape (get_or xs i 0))
length_escapes_more xs i h = rw (take_more xs i 0 h, escapes-append, escapes-one, length-append) refl

-- a byte that may not is a character of its own
pub is_special_ascii : (b : ℕ) → is_special b ≡ true → b < 128
is_special_ascii b s = grind (arith, nat_tests)

-- the escapes of the first i + 1 bytes are those of the first i, and then that of the byte at i
pub escapes_more : (xs : List ℕ) (i : ℕ) → i < length xs → escapes (take (i + 1) xs) ≡ escapes (take i xs) ++ escape (get_or xs i 0)
escapes_more xs i h = rw (take_more xs i 0 h, escapes-append, escapes-one) refl

-- a text cut in two
length_escapes_cut : (xs : List ℕ) (i : ℕ) → length (escapes xs) ≡ length (escapes (take i xs)) + length (escapes (drop i xs))
length_escapes_cut xs i =
    ap (λ t. length (escapes t)) (sym (take-append-drop i xs)) ∙ rw (escapes-append (take i xs) (drop i xs))
    (length-append (escapes (take i xs)) (escapes (drop i xs)))

-- the escapes of the first i bytes are at most as long as those of all bytes
pub length_escapes_le : (xs : List ℕ) (i : ℕ) → length (escapes (take i xs)) ≤ length (escapes xs)
length_escapes_le xs i = omega (arith, length_escapes_cut xs i)

-- a run of bytes with none to escape
pub escapes_run : (xs : List ℕ) (i j : ℕ) → i ≤ j → j ≤ length xs → IsPlainRun xs i j
    → escapes (take j xs) ≡ escapes (take i xs) ++ take (j - i) (drop i xs)
escapes_run xs i j l h plain =
    let front : take j xs ≡ take i xs ++ take (j - i) (drop i xs) = ap (λ n. take n xs) (omega arith) ∙ take-add i (j - i) xs in
    let same : escapes (take (j - i) (drop i xs)) ≡ take (j - i) (drop i xs) =
    escapes_plain (take (j - i) (drop i xs)) (λ k m. let n : k < j - i = omega (arith, length-take (j - i) (drop i xs), m) in
    let at : get_or (take (j - i) (drop i xs)) k 0 ≡ get_or xs (i + k) 0 = get_or-take (j - i) (drop i xs) k 0 n ∙ get_or-drop i xs k 0 in
    rw at (plain (i + k) (omega arith) (omega arith))) in
    rw (front, escapes-append) (ap (λ t. escapes (take i xs) ++ t) same)

-- a run of plain bytes from i to j makes the escapes j - i bytes longer
pub length_escapes_run : (xs : List ℕ) (i j : ℕ) → i ≤ j → j ≤ length xs → IsPlainRun xs i j
    → length (escapes (take j xs)) + i ≡ length (escapes (take i xs)) + j
length_escapes_run xs i j l h plain =
    omega (
      arith,
      ap length (escapes_run xs i j l h plain),
      length-append (escapes (take i xs))
          (take (j - i) (drop i xs)),
      length-take (j - i) (drop i xs),
      length-drop i xs,
    )

-- a byte is written as one byte where it stands for itself, and as more otherwise
length_escape_ge : (b : ℕ) → 1 ≤ length (escape b)
unfolding escape
length_escape_ge b = grind (arith, nat_tests)

length_escapes_ge : (xs : List ℕ) → length xs ≤ length (escapes xs)
length_escapes_ge [] = omega arith
length_escapes_ge (x ∷ xs) =
    rw escapes-cons (omega (arith, length-append (escape x) (escapes xs), length_escape_ge x, length_escapes_ge xs))

-- the bytes that are left take at least as many
pub length_escapes_rest : (xs : List ℕ) (i : ℕ) → i ≤ length xs → length (escapes (take i xs)) + length xs ≤ length (escapes xs) + i
length_escapes_rest xs i h = omega (arith, length_escapes_cut xs i, length_escapes_ge (drop i xs), length-drop i xs)

-- a byte takes six bytes at most
pub length_escape_le : (b : ℕ) → length (escape b) ≤ 6
unfolding escape
length_escape_le b = grind (arith, nat_tests)

-- the escapes of a text are at most six times as long as the text
pub length_escapes_six : (xs : List ℕ) → length (escapes xs) ≤ 6 * length xs
length_escapes_six [] = omega (arith, ap length escapes-nil)
length_escapes_six (x ∷ xs) =
    rw escapes-cons (omega (arith, length-append (escape x) (escapes xs), length_escape_le x, length_escapes_six xs))

-- a character from 128 on is written as its bytes
pub escapes_high : (c : ℕ) → 128 ≤ c → escapes (encode_utf8 c) ≡ encode_utf8 c
unfolding escapes escape
escapes_high c h = high_stays c h

-- a character below 128 is one byte, and is written as that byte is
pub escapes_low : (c : ℕ) → c < 128 → escapes (encode_utf8 c) ≡ escape c
unfolding escapes escape
escapes_low c h = low_stays c h

-- such a character that needs no escape is written as its byte
pub escapes_stays : (c : ℕ) → c < 128 → is_special c ≡ false → escapes (encode_utf8 c) ≡ encode_utf8 c
escapes_stays c h plain = escapes_low c h ∙ escape_plain c plain ∙ sym (encode_ascii c h)

-- the words of a string, and the model's
pub quoted_escapes : (s : List ℕ) → string_text s ≡ 34 ∷ (escapes s ++ 34 ∷ [])
unfolding string_text escapes escape
quoted_escapes s = refl

-- old, a quote, the escapes of v and a quote are old and the string of v
pub between_quotes : (old v : List ℕ) → ((old ++ 34 ∷ []) ++ escapes v) ++ 34 ∷ [] ≡ old ++ string_text v
between_quotes old v = rw (quoted_escapes v) (simp append_assoc)

-- how long that is
pub length_quoted : (v : List ℕ) → length (string_text v) ≡ 2 + length (escapes v)
length_quoted v = rw quoted_escapes (omega (arith, length-append (escapes v) (34 ∷ [])))
