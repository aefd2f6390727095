-- Decoding a string takes exactly the characters that the grammar gives it. A run or an escape passes over some
-- characters and no others (`PassesCharacters`), which composes (`passes_then`); if no piece can begin, there is no
-- string (`no_chars`, `no_escape`).
use Rattle.std.proofs.Common.{◌≡◌, ◌≢◌, ℕ, ◌<◌, ◌≤◌, ◌==◌, nat_lt, Bool, true, false, List, [], ◌∷◌, ◌++◌, length}
use Rattle.std.proofs.Common.{take, drop, Some, None, refl, ap, sym, subst, ◌∙◌, inl, inr, arith, lt_of_not-le}
use Rattle.std.proofs.Common.{append_assoc, ltb-true}
use Rattle.std.specs.Prelude.{◌⊎◌, slice_index}
use Rattle.std.specs.List.{AllByRecursion}
use Rattle.std.specs.Char.{IsScalar, encode_utf8}
use Rattle.std.specs.Str.{encode_utf8_all, IsUtf8}
use Rattle.std.proofs.lemmas.Bool.Decides.{nat_tests}
use Rattle.std.proofs.lemmas.Bool.{true≢false}
use Rattle.std.proofs.lemmas.List.{append-nil, length-append, take-append-le, take_all, nil_from_length}
use Rattle.std.proofs.lemmas.Str.{encode_ascii, inside_one, length-encode, len_utf8_bounds, IsUtf8-take}
use Rattle.std.proofs.lemmas.Str.{IsCharBoundary-at_seam, encodes-append}
use lib.Utf8.{scalars, scalar}
use borrow.Author.Tests.{ltb-false}
use Rattle.miniserde_model.specs.Bytes.{is_special}
use Rattle.miniserde_model.specs.String.{IsRaw, IsPiece, raw, ArePieces, IsString}
use Rattle.miniserde_model.proofs.LongestRuns.{AllPass}
use Rattle.miniserde_model.proofs.Strings.{same_piece}
use Rattle.miniserde_text.specs.Lexer.{HasBackslash}
use Rattle.miniserde_text.specs.private.Reading.{after_run, before, is_unescaped, escape_at}
use Rattle.miniserde_text.specs.private.LexerParts.{SpellsUpToQuote, PassesCharacters, Adds, BeginsWith}
use Rattle.miniserde_text.proofs.ByteRuns.{run_split, run_stops}
use Rattle.miniserde_text.proofs.Options.{first_byte, none_is_some, and_parts, before_is}
use Rattle.miniserde_text.proofs.Escapes.{piece_cases, escape_takes}

-- ---- the first byte of a piece

high_unescaped : (x : ℕ) → 127 < x → is_unescaped x ≡ true
high_unescaped x h = grind (arith, nat_tests)

unescaped_plain : (x : ℕ) → is_unescaped x ≡ true → is_special x ≡ false
unescaped_plain x h = grind (arith, nat_tests)

raw_unescaped : (c : ℕ) → 32 ≤ c → c ≢ 34 → c ≢ 92 → is_unescaped c ≡ true
raw_unescaped c low quote slash = grind (arith, nat_tests)

high_first : (c : ℕ) (t : List ℕ) → 128 ≤ c → 127 < slice_index (encode_utf8 c ++ t) 0
high_first c t h =
    lt_of_not-le (λ low. let same =
    inside_one c t (encode_utf8 c ++ t) 0 refl (omega (arith, length-encode c, len_utf8_bounds c))
    (omega arith) in omega (arith, same))

raw_case : (c : ℕ) (t : List ℕ) → is_unescaped c ≡ true → (b : Bool) → nat_lt c 128 ≡ b
    → is_unescaped (slice_index (encode_utf8 c ++ t) 0) ≡ true
raw_case c t n true e = ap (λ x. is_unescaped (slice_index (x ++ t) 0)) (encode_ascii c (ltb-true c 128 e)) ∙ n
raw_case c t n false e = high_unescaped _ (high_first c t (ltb-false c 128 e))

raw_first : (p : List ℕ) (c : ℕ) (t : List ℕ) → IsRaw p c → is_unescaped (slice_index (p ++ t) 0) ≡ true
raw_first p c t h = ap (λ x. is_unescaped (slice_index (x ++ t) 0)) h.text
    ∙ raw_case c t (raw_unescaped c h.printable h.not_quote h.not_backslash) (nat_lt c 128) refl

piece_first : (p : List ℕ) (c : ℕ) (t : List ℕ) → IsPiece p c → (slice_index (p ++ t) 0 ≡ 92)
    ⊎ (is_unescaped (slice_index (p ++ t) 0) ≡ true)
piece_first p c t h = elim (piece_cases p c h) [
  | inl r ↦ inr (raw_first p c t r)
  | inr q ↦ inl (ap (λ x. slice_index (x ++ t) 0) q.1)
]

-- ---- passing over characters

passes_nil : (t : List ℕ) → PassesCharacters [] t t
passes_nil t = record { on = λ cs r h. h; back = λ cs r h. (cs, refl, h) }

passes_then : (ds es t u v : List ℕ) → PassesCharacters ds t u → PassesCharacters es u v → PassesCharacters (ds ++ es) t v
passes_then ds es t u v h k = record {
  on = λ cs r x. subst (λ l. SpellsUpToQuote l t r) (sym (append_assoc ds es cs)) (h.on (es ++ cs) r (k.on cs r x));
  back = λ cs r x.
      let a = h.back cs r x in
      let b = k.back a.0 r a.2 in
      (b.0, a.1 ∙ ap (λ l. ds ++ l) b.1 ∙ sym (append_assoc ds es b.0), b.2);
}

back_of : (c : ℕ) (t u : List ℕ) → BeginsWith (λ p. IsPiece p c) t u → (cs r : List ℕ) → SpellsUpToQuote cs t r
    → (es : List ℕ) × (cs ≡ (c ∷ []) ++ es) × SpellsUpToQuote es u r
back_of c t u (p, h, e) [] r x = elim (piece_first p c u h) [
  | inl s ↦ let f : 34 ≡ 92 = sym (ap (λ l. slice_index l 0) x) ∙ ap (λ l. slice_index l 0) e ∙ s in
      absurd (true≢false (ap (λ n. n == 34) f))
  | inr s ↦ let f : is_unescaped 34 ≡ true = sym (ap (λ l. is_unescaped (slice_index l 0)) x)
      ∙ ap (λ l. is_unescaped (slice_index l 0)) e ∙ s in absurd (true≢false (sym f))
]
back_of c t u (p, h, e) (d ∷ cs) r (q, v, k, f, x) =
    let same = same_piece c d p q u v h k (sym e ∙ f) in
    (cs, ap (λ l. l ∷ cs) (sym same.0), subst (λ l. SpellsUpToQuote cs l r) (sym same.1) x)

piece_passes : (c : ℕ) (t u : List ℕ) → BeginsWith (λ p. IsPiece p c) t u → PassesCharacters (c ∷ []) t u
piece_passes c t u p = record { on = λ cs r x. (p.0, u, p.1, p.2, x); back = back_of c t u p }

pass_split : (a b : List ℕ) → AllPass is_unescaped (a ++ b) → AllPass is_unescaped a × AllPass is_unescaped b
pass_split [] b h = (tt, h)
pass_split (c ∷ cs) b h = let p = pass_split cs b h.1 in ((h.0, p.0), p.1)

high_plain : (x : ℕ) → 128 ≤ x → is_special x ≡ false
high_plain x h = grind (arith, nat_tests)

raw_plain : (d : ℕ) → AllPass is_unescaped (encode_utf8 d) → (b : Bool) → nat_lt d 128 ≡ b → is_special d ≡ false
raw_plain d h true e = unescaped_plain d (subst (AllPass is_unescaped) (encode_ascii d (ltb-true d 128 e)) h).0
raw_plain d h false e = high_plain d (ltb-false d 128 e)

plain_printable : (c : ℕ) → is_special c ≡ false → 32 ≤ c
plain_printable c h = grind (arith, nat_tests)

raw_piece : (c : ℕ) → IsScalar c → is_special c ≡ false → IsPiece (encode_utf8 c) c
raw_piece c s h = raw (record {
  scalar = s;
  printable = plain_printable c h;
  not_quote = λ e. true≢false (sym (ap is_special e) ∙ h);
  not_backslash = λ e. true≢false (sym (ap is_special e) ∙ h);
  text = refl;
})

-- a run of bytes that stand for themselves
raws_pass : (ds u : List ℕ) → scalars ds ≡ true → AllPass is_unescaped (encode_utf8_all ds)
    → PassesCharacters ds (encode_utf8_all ds ++ u) u
raws_pass [] u s h = passes_nil u
raws_pass (d ∷ ds) u s h =
    let sc = and_parts (scalar d) _ s in
    let e = pass_split (encode_utf8 d) (encode_utf8_all ds) h in
    passes_then (d ∷ []) ds _ (encode_utf8_all ds ++ u) u
    (piece_passes d _ _ (
      encode_utf8 d,
      raw_piece d sc.0 (raw_plain d e.0 (nat_lt d 128) refl),
      append_assoc (encode_utf8 d) (encode_utf8_all ds) u,
    )) (raws_pass ds u sc.1 e.1)

run_passes : (b u : List ℕ) → IsUtf8 b → AllPass is_unescaped b → (ds : List ℕ) × PassesCharacters ds (b ++ u) u × (b ≡ encode_utf8_all ds)
run_passes b u (ds, (s, e)) h = (
  ds,
  subst (λ x. PassesCharacters ds (x ++ u) u) e (raws_pass ds u s (subst (AllPass is_unescaped) (sym e) h)),
  sym e,
)

-- ---- where no piece begins

-- a text that is empty or begins with a byte below 32 spells no characters up to a quote
pub no_chars : (t : List ℕ) → is_unescaped (slice_index t 0) ≡ false → slice_index t 0 ≢ 34 → slice_index t 0 ≢ 92
    → (cs r : List ℕ) → SpellsUpToQuote cs t r → ⊥
no_chars t special no_quote no_slash [] r h = no_quote (ap (λ x. slice_index x 0) h)
no_chars t special no_quote no_slash (c ∷ cs) r (p, u, h, e, k) = elim (piece_first p c u h) [
  | inl s ↦ no_slash (ap (λ x. slice_index x 0) e ∙ s)
  | inr s ↦ true≢false (sym (ap (λ x. is_unescaped (slice_index x 0)) e ∙ s) ∙ special)
]

-- if `escape_at` reads nothing from t, a backslash and t spell no characters up to a quote
pub no_escape : (t : List ℕ) → escape_at t ≡ None → (cs r : List ℕ) → SpellsUpToQuote cs (92 ∷ t) r → ⊥
no_escape t none [] r h = true≢false (sym (ap (λ l. slice_index l 0 == 34) h))
no_escape t none (c ∷ cs) r (p, u, h, e, k) = elim (piece_cases p c h) [
  | inl a ↦ true≢false (sym (raw_first p c u a) ∙ ap (λ x. is_unescaped (slice_index x 0)) (sym e))
  | inr a ↦
      let j : t ≡ a.0 ++ u = ap (drop 1) (e ∙ ap (λ x. x ++ u) a.1) in
      none_is_some (escape_at t) (c, u) none (ap escape_at j ∙ a.2 u)
]

-- ---- what the code does with them

utf8_front : (s b t : List ℕ) → s ≡ b ++ t → IsUtf8 s → IsUtf8 t → IsUtf8 b
utf8_front s b t e u v =
    let front : take (length b) s ≡ b = ap (take (length b)) e ∙ take-append-le (length b) b t (omega arith)
    ∙ take_all (length b) b (omega arith) in
    subst IsUtf8 front (IsUtf8-take s (length b) u (IsCharBoundary-at_seam s b t e v))

-- the run at the front
pub run_of : (s t : List ℕ) → t ≡ after_run is_unescaped s → IsUtf8 s → IsUtf8 t
    → (ds : List ℕ) × PassesCharacters ds s t × (before s t ≡ encode_utf8_all ds)
run_of s t e u v =
    let w = run_split is_unescaped s in
    let j : s ≡ w.0 ++ t = w.2 ∙ ap (λ x. w.0 ++ x) (sym e) in
    let p = run_passes w.0 t (utf8_front s w.0 t j u v) w.1 in
    (p.0, subst (λ x. PassesCharacters p.0 x t) (sym j) p.1, before_is s w.0 t j ∙ p.2)

pub run_ends : (s t : List ℕ) → t ≡ after_run is_unescaped s → (b : List ℕ) × (s ≡ b ++ t)
run_ends s t e = let w = run_split is_unescaped s in (w.0, w.2 ∙ ap (λ x. w.0 ++ x) (sym e))

-- the text after a run of unescaped bytes begins with no unescaped byte
pub run_special : (s t : List ℕ) → t ≡ after_run is_unescaped s → is_unescaped (slice_index t 0) ≡ false
run_special s t e = ap (λ x. is_unescaped (slice_index x 0)) e ∙ run_stops is_unescaped refl s

-- the text after an escape is no longer than s
pub escape_shorter : (s : List ℕ) (c : ℕ) (rest : List ℕ) → escape_at s ≡ Some (c, rest) → length rest ≤ length s
escape_shorter s c rest e = let a = escape_takes s c rest e in omega (arith, ap length a.2 ∙ length-append a.0 rest)

-- if the characters ds are passed up to a quote, s spells ds up to that quote
pub quote_ends : (ds s t : List ℕ) → PassesCharacters ds s t → slice_index t 0 ≡ 34 → SpellsUpToQuote ds s (drop 1 t)
quote_ends ds s t p e = subst (λ x. SpellsUpToQuote x s (drop 1 t)) (append-nil ds) (p.on [] (drop 1 t) (first_byte t 33 e))

-- the spelling of no text, by that of two
spelled_nil : (f : List ℕ → List ℕ) → ((a b : List ℕ) → f (a ++ b) ≡ f a ++ f b) → f [] ≡ []
spelled_nil f joins = nil_from_length (f []) (omega (arith, ap length (joins [] []), length-append (f []) (f [])))

module _ (f : List ℕ → List ℕ) (joins : (a b : List ℕ) → f (a ++ b) ≡ f a ++ f b) where
  -- with nothing passed, nothing is appended
  pub adds_nil : (old t : List ℕ) → Adds f old old t t
  adds_nil old t = ([], passes_nil t, sym (append-nil old) ∙ ap (λ x. old ++ x) (sym (spelled_nil f joins)))

  -- the run of unescaped bytes is passed, and its spelling is appended to `old`
  pub run_adds : (old new s t : List ℕ) → t ≡ after_run is_unescaped s → IsUtf8 s → IsUtf8 t → new ≡ old ++ f (before s t)
      → Adds f old new s t
  run_adds old new s t e u v m = let r = run_of s t e u v in (r.0, r.1, m ∙ ap (λ x. old ++ f x) r.2)

  -- if t, after the passed characters, is empty or begins with a byte below 32, s spells none up to a quote
  pub end_refused : (old new s t : List ℕ) → Adds f old new s t → is_unescaped (slice_index t 0) ≡ false
      → slice_index t 0 ≢ 34 → slice_index t 0 ≢ 92 → (cs r : List ℕ) → SpellsUpToQuote cs s r → ⊥
  end_refused old new s t a special q b cs r h = let back = a.1.back cs r h in no_chars t special q b back.0 r back.2

  -- if characters are passed up to t, and none are spelled from it up to a quote, s spells none
  pub rest_refused : (old new s t : List ℕ) → Adds f old new s t → ((cs r : List ℕ) → SpellsUpToQuote cs t r → ⊥)
      → (cs r : List ℕ) → SpellsUpToQuote cs s r → ⊥
  rest_refused old new s t a never cs r h = let back = a.1.back cs r h in never back.0 r back.2

  -- if a quote follows the passed characters, s spells them up to it, and `new` is `old` and their spelling
  pub string_of : (old new s t : List ℕ) → Adds f old new s t → slice_index t 0 ≡ 34
      → (cs : List ℕ) × SpellsUpToQuote cs s (drop 1 t) × (new ≡ old ++ f (encode_utf8_all cs))
  string_of old new s t a e = (a.0, quote_ends a.0 s t a.1 e, a.2)

  -- if b adds a part to a, and c adds the next one to b, c adds both to a
  pub adds_then : (a b c t u v : List ℕ) → Adds f a b t u → Adds f b c u v → Adds f a c t v
  adds_then a b c t u v h k = (
    h.0 ++ k.0,
    passes_then h.0 k.0 t u v h.1 k.1,
    k.2 ∙ ap (λ x. x ++ f (encode_utf8_all k.0)) h.2 ∙ append_assoc a _ _
        ∙ ap (λ x. a ++ x) (sym (ap f (encodes-append h.0 k.0) ∙ joins (encode_utf8_all h.0) (encode_utf8_all k.0))),
  )

  -- if b adds a part to a, and then the spelling of an escape's character is appended, both are added to a
  pub escape_adds : (a b c s t : List ℕ) (x : ℕ) (u : List ℕ) → Adds f a b s (92 ∷ t) → escape_at t ≡ Some (x, u)
      → c ≡ b ++ f (encode_utf8 x) → Adds f a c s u
  escape_adds a b c s t x u h e m =
      let q = escape_takes t x u e in
      let p = piece_passes x (92 ∷ t) u (92 ∷ q.0, q.1, ap (λ y. 92 ∷ y) q.2) in
      adds_then a b c s (92 ∷ t) u h (x ∷ [], p, m ∙ ap (λ y. b ++ f y) (sym (append-nil (encode_utf8 x))))

-- a text that begins with a backslash is a backslash and the text after it
pub at_backslash : (s : List ℕ) (i j : ℕ) → slice_index (drop i s) 0 ≡ 92 → drop j s ≡ drop 1 (drop i s) → drop i s ≡ 92 ∷ drop j s
at_backslash s i j e n = first_byte (drop i s) 91 e ∙ ap (λ x. 92 ∷ x) (sym n)

-- if characters are passed up to t, and t spells none up to a quote, neither does s
pub run_refused : {ds s t : List ℕ} → PassesCharacters ds s t → ((cs r : List ℕ) → SpellsUpToQuote cs t r → ⊥)
    → (cs r : List ℕ) → SpellsUpToQuote cs s r → ⊥
run_refused p never cs r h = let b = p.back cs r h in never b.0 r b.2

-- ---- strings as the grammar has them

pieces_of : (cs t r : List ℕ) → SpellsUpToQuote cs t r → (inside : List ℕ) × ArePieces inside cs × (t ≡ inside ++ 34 ∷ r)
pieces_of [] t r h = ([], refl, h)
pieces_of (c ∷ cs) t r (p, u, h, e, k) =
    let q = pieces_of cs u r k in
    (p ++ q.0, (p, q.0, refl, h, q.1), e ∙ ap (λ x. p ++ x) q.2 ∙ sym (append_assoc p q.0 (34 ∷ r)))

chars_of : (cs inside r : List ℕ) → ArePieces inside cs → SpellsUpToQuote cs (inside ++ 34 ∷ r) r
chars_of [] inside r h = ap (λ x. x ++ 34 ∷ r) h
chars_of (c ∷ cs) inside r (p, b, e, h, k) = (p, b ++ 34 ∷ r, h, ap (λ x. x ++ 34 ∷ r) e ∙ append_assoc p b (34 ∷ r), chars_of cs b r k)

-- a quote and a text that spells cs up to a quote are a string with the text s, the UTF-8 of cs
pub string_leads : (cs t s r : List ℕ) → slice_index t 0 ≡ 34 → SpellsUpToQuote cs (drop 1 t) r
    → s ≡ encode_utf8_all cs → BeginsWith (λ b. IsString b s) t r
string_leads cs t s r at h e =
    let q = pieces_of cs (drop 1 t) r h in (
      34 ∷ (q.0 ++ 34 ∷ []),
      record { inside = q.0; characters = cs; text = refl; pieces = q.1; value = e },
      first_byte t 33 at ∙ ap (λ x. 34 ∷ x) (q.2 ∙ sym (append_assoc q.0 (34 ∷ []) r)),
    )

-- after its opening quote, a text that begins with a string spells the string's characters up to a quote
pub string_chars : (b s t r : List ℕ) (h : IsString b s) → t ≡ b ++ r → SpellsUpToQuote h.characters (drop 1 t) r
string_chars b s t r h j =
    subst (λ x. SpellsUpToQuote h.characters x r)
    (sym (ap (drop 1) (j ∙ ap (λ x. x ++ r) h.text) ∙ append_assoc h.inside (34 ∷ []) r))
    (chars_of h.characters h.inside r h.pieces)

-- ---- which text is borrowed

plain_of : (w : List ℕ) → AllPass is_unescaped w → AllByRecursion (λ c. is_special c ≡ false) w
plain_of [] h = tt
plain_of (c ∷ w) h = (unescaped_plain c h.0, plain_of w h.1)

-- the run of unescaped bytes at the front has no special byte
pub plain_run : (s t : List ℕ) → t ≡ after_run is_unescaped s
    → AllByRecursion (λ c. is_special c ≡ false) (before s t) × (s ≡ before s t ++ t)
plain_run s t e =
    let w = run_split is_unescaped s in
    let j : s ≡ w.0 ++ t = w.2 ∙ ap (λ x. w.0 ++ x) (sym e) in
    let b : before s t ≡ w.0 = before_is s w.0 t j in
    (subst (AllByRecursion (λ c. is_special c ≡ false)) (sym b) (plain_of w.0 w.1), j ∙ ap (λ x. x ++ t) (sym b))

plain_at : (a b : List ℕ) → AllByRecursion (λ c. is_special c ≡ false) (a ++ 92 ∷ b) → ⊥
plain_at [] b h = true≢false h.0
plain_at (c ∷ a) b h = plain_at a b h.1

plain_no_backslash : (x : List ℕ) → AllByRecursion (λ c. is_special c ≡ false) x → HasBackslash x → ⊥
plain_no_backslash x h (a, b, e) = plain_at a b (subst (AllByRecursion (λ c. is_special c ≡ false)) e h)

-- if a quote follows the run of unescaped bytes, s is the run, that quote and more, and the run has no backslash
pub run_inside : (s t : List ℕ) → t ≡ after_run is_unescaped s → slice_index t 0 ≡ 34
    → (s ≡ before s t ++ 34 ∷ drop 1 t) × (HasBackslash (before s t) → ⊥)
run_inside s t e at =
    let run = plain_run s t e in
    (run.1 ∙ ap (λ y. before s t ++ y) (first_byte t 33 at), plain_no_backslash (before s t) run.0)

slash_first : (inside t r : List ℕ) → slice_index t 0 ≡ 92 → t ≡ inside ++ 34 ∷ r → (b : List ℕ) × (inside ≡ 92 ∷ b)
slash_first [] t r at e = absurd (true≢false (sym (ap (λ l. slice_index l 0 == 34) e) ∙ ap (λ x. x == 34) at))
slash_first (x ∷ xs) t r at e = (xs, ap (λ y. y ∷ xs) (sym (ap (λ l. slice_index l 0) e) ∙ at))

-- a run up to a backslash, and the rest of the string
pub escaped_inside : (s t r cs : List ℕ) → t ≡ after_run is_unescaped s → slice_index t 0 ≡ 92
    → SpellsUpToQuote cs t r → (inside : List ℕ) × (s ≡ inside ++ 34 ∷ r) × HasBackslash inside
escaped_inside s t r cs e at h =
    let run = plain_run s t e in
    let q = pieces_of cs t r h in
    let b = slash_first q.0 t r at q.2 in (
      before s t ++ q.0,
      run.1 ∙ ap (λ x. before s t ++ x) q.2 ∙ sym (append_assoc (before s t) q.0 (34 ∷ r)),
      (before s t, b.0, ap (λ x. before s t ++ x) b.1),
    )

-- if a backslash follows the run of unescaped bytes, s is bytes that are not special and then a backslash
pub reaches_backslash : (s t : List ℕ) → t ≡ after_run is_unescaped s → slice_index t 0 ≡ 92 → (p q : List ℕ)
    × AllByRecursion (λ c. is_special c ≡ false) p × (s ≡ p ++ 92 ∷ q)
reaches_backslash s t e at = let run = plain_run s t e in
    (before s t, drop 1 t, run.0, run.1 ∙ ap (λ x. before s t ++ x) (first_byte t 91 at))
