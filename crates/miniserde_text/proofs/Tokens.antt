-- The front of a value: what a function on lists reads is a piece of the grammar, and the piece of each event is read
-- so. A string goes by its first quote.
use Rattle.std.proofs.Common.{◌≡◌, ◌≢◌, ℕ, ◌==◌, Bool, true, false, cond, List, [], ◌∷◌, ◌++◌, length, drop, Option}
use Rattle.std.proofs.Common.{Some, None, refl, ap, sym, subst, ◌∙◌, inl, inr, arith, eqb-true, ne_eqb}
use Rattle.std.proofs.Common.{append_assoc}
use Rattle.std.specs.Prelude.{codes, slice_index, nat_eq}
use Rattle.std.specs.List.{starts_with, AllByRecursion}
use Rattle.std.proofs.lemmas.Slice.Eq.{starts_is}
use Rattle.std.proofs.lemmas.Bool.Decides.{Decides-eqb, nat_tests}
use Rattle.std.proofs.lemmas.Bool.{true≢false}
use Rattle.std.proofs.lemmas.List.Prefix.{front_rest}
use Rattle.std.specs.Str.{encode_utf8_all}
use Rattle.miniserde_model.specs.Tree.{Tree, neg, nonneg, num}
use Rattle.miniserde_model.specs.Bytes.{is_space, is_number_byte, is_special, StopsAt}
use Rattle.miniserde_model.specs.Number.{IsNumber}
use Rattle.miniserde_model.specs.Value.{Between}
use Rattle.miniserde_model.specs.Step.{Step, boolean, string, negative, nonnegative, float, seq, element, map, key, finish}
use Rattle.miniserde_model.specs.Step as step
use Rattle.miniserde_model.specs.Lexing.{Piece, Ends, Starts}
use Rattle.miniserde_model.proofs.LongestRuns.{AllPass}
use Rattle.miniserde_model.proofs.Numbers.{number_pass}
use Rattle.miniserde_model.proofs.Unique.{Head, number_head, leading_kind}
use Rattle.miniserde_text.specs.declared.json.lex.Event as answer
use Rattle.miniserde_text.specs.declared.json.lex.Event.TheVariants as event
use Rattle.miniserde_text.specs.declared.json.lex.Text.{Text}
use Rattle.miniserde_text.specs.declared.json.lex.Text.TheVariants as text
use Rattle.miniserde_text.specs.Lexer.{event_of_token, text_of, BorrowedIfPlain, TokenBorrowedIfPlain, TokenLeavesScratch}
use Rattle.miniserde_text.specs.Lexer.{BeginsEscaped, SpelledText, SpelledToken}
use Rattle.miniserde_text.specs.private.Reading.{after_run, number_at, word_at, token_by, token_at}
use Rattle.miniserde_text.specs.private.LexerParts.{SpellsUpToQuote, BeginsWith, TakesToken, TokenTakesText, TakesText, ReachesBackslash}
use Rattle.miniserde_text.proofs.ByteRuns.{stops_at, stands_of, stands_only}
use Rattle.std.proofs.lemmas.Option.{cond_some, same_Some}
use Rattle.miniserde_text.proofs.Options.{chosen, first_byte, none_is_some}
use Rattle.miniserde_text.proofs.FirstEvents.{class, piece_head, piece_no_space}
use Rattle.miniserde_text.proofs.Leaves.{event_of, number_piece}
use Rattle.miniserde_text.proofs.Numbers.{Numbered, number_takes, number_only}
use Rattle.miniserde_text.proofs.Strings.{string_leads, string_chars}

-- ---- words

word_takes : (w : List ℕ) (e g : Step) (t r : List ℕ) → word_at w e t ≡ Some (g, r) → (e ≡ g) × (t ≡ w ++ r)
unfolding word_at
word_takes w e g t r h =
    let p = cond_some (starts_with nat_eq t w) (e, drop (length w) t) (g, r) h in
    let j : t ≡ w ++ drop (length w) t = (starts_is Decides-eqb t w _ refl).0 p.0 in
    (ap (λ q. q.0) p.1, j ∙ ap (λ q. w ++ q.1) p.1)

word_only : (w : List ℕ) (e : Step) (t r : List ℕ) → t ≡ w ++ r → word_at w e t ≡ Some (e, r)
unfolding word_at
word_only w e t r j =
    ap (λ b. cond b (Some (e, drop (length w) t)) None) ((starts_is Decides-eqb t w _ refl).1 r j)
    ∙ ap (λ q. Some (e, q)) (front_rest t w r j)

-- ---- what is read

as_word : (w : List ℕ) (e : Step) {g : Step} {t r : List ℕ} → Piece e w → Ends e r → word_at w e t ≡ Some (g, r) → TakesToken t g r
as_word w e {g = g} {t = t} {r = r} h k f =
    let q = word_takes w e g t r f in subst (λ x. TakesToken t x r) q.0 ((w, h, q.1), k)

-- if t is the token of d and then u, and the pair of d and u is that of e and r, t is the token of e and then r
read_as : (d : Step) {t u r : List ℕ} {e : Step} → TakesToken t d u
    → ◌≡◌ {A = Option (Step × List ℕ)} (Some (d, u)) (Some (e, r)) → TakesToken t e r
read_as d {t = t} p f = subst (λ x. TakesToken t x.0 x.1) (same_Some _ _ f) p

as_number : (t r : List ℕ) (e : Step) → Numbered t e r → TakesToken t e r
as_number t r e n =
    let p = number_piece n.number r n.is_number (stops_at is_number_byte r n.ends) in
    subst (λ x. TakesToken t x r) n.event ((n.number, p.0, n.text), p.1)

-- what `token_at` reads is a token
pub front_takes : (t : List ℕ) (e : Step) (r : List ℕ) → token_at t ≡ Some (e, r) → TakesToken t e r
unfolding token_by
front_takes t e r h =
    elim (chosen (slice_index t 0 == 110) _ _ _ h) [
      | inl p ↦ as_word (codes "null") step.null refl tt p.1
      | inr p ↦ elim (chosen (slice_index t 0 == 116) _ _ _ p.1) [
        | inl p ↦ as_word (codes "true") (boolean true) refl tt p.1
        | inr p ↦ elim (chosen (slice_index t 0 == 102) _ _ _ p.1) [
          | inl p ↦ as_word (codes "false") (boolean false) refl tt p.1
          | inr p ↦ elim (chosen (slice_index t 0 == 91) _ _ _ p.1) [
            | inl p ↦ read_as seq ((91 ∷ [], refl, first_byte t 90 (eqb-true _ 91 p.0)), tt) p.1
            | inr p ↦ elim (chosen (slice_index t 0 == 123) _ _ _ p.1) [
              | inl p ↦ read_as map ((123 ∷ [], refl, first_byte t 122 (eqb-true _ 123 p.0)), tt) p.1
              | inr p ↦ as_number t r e (number_takes t e r p.1)
            ]
          ]
        ]
      ]
    ]

-- ---- what the grammar has is read

pass_head : (p : ℕ → Bool) (b r : List ℕ) (k : ℕ) (h : Head b k) → AllPass p b → p (slice_index (b ++ r) 0) ≡ true
pass_head p b r k h a = let int = subst (AllPass p) h.is a in ap (λ x. p (slice_index (x ++ r) 0)) h.is ∙ int.0

number_first : (b r : List ℕ) (t : Tree) → IsNumber b t → is_number_byte (slice_index (b ++ r) 0) ≡ true
number_first b r t p = pass_head is_number_byte b r 3 (number_head b t p) (number_pass b p.0)

no_word : (c : ℕ) → is_number_byte c ≡ true → ((c == 110) ≡ false) × ((c == 116) ≡ false) × ((c == 102) ≡ false)
    × ((c == 91) ≡ false) × ((c == 123) ≡ false)
no_word c h = (
  grind (arith, nat_tests),
  grind (arith, nat_tests),
  grind (arith, nat_tests),
  grind (arith, nat_tests),
  grind (arith, nat_tests),
)

by_number : (t : List ℕ) → is_number_byte (slice_index t 0) ≡ true → token_at t ≡ number_at t
unfolding token_by
by_number t h = let n = no_word (slice_index t 0) h in rw (n.0, n.1, n.2, n.3, n.4) refl

numbers_only : (b r : List ℕ) (t : Tree) → IsNumber b t → StopsAt is_number_byte r → token_at (b ++ r) ≡ Some (event_of t, r)
numbers_only b r t p s = by_number _ (number_first b r t p) ∙ number_only b r p.0 s ∙ ap (λ x. Some (event_of x, r)) p.1

front_only : (b : List ℕ) (e : Step) (r : List ℕ) → Piece e b → Ends e r → (slice_index (b ++ r) 0 == 34) ≡ false
    → token_at (b ++ r) ≡ Some (e, r)
unfolding token_by
front_only b step.null r h k away = rw h (word_only (codes "null") step.null _ r refl)
front_only b (boolean true) r h k away = rw h (word_only (codes "true") (boolean true) _ r refl)
front_only b (boolean false) r h k away = rw h (word_only (codes "false") (boolean false) _ r refl)
front_only b (negative n) r h k away = numbers_only b r (neg n) h k
front_only b (nonnegative n) r h k away = numbers_only b r (nonneg n) h k
front_only b (float x) r h k away = numbers_only b r (num x) h k
front_only b (string s) r h k away = absurd (true≢false (sym (ap (λ x. slice_index (x ++ r) 0 == 34) h.text) ∙ away))
front_only b seq r h k away = rw h refl
front_only b map r h k away = rw h refl
front_only b element r h k away = absurd h
front_only b (key s) r h k away = absurd h
front_only b finish r h k away = absurd h

-- if t does not begin with a quote, and `token_at` reads nothing, t begins with no token
pub front_refused : (t : List ℕ) → slice_index t 0 ≢ 34 → token_at t ≡ None → (e : Step) (r : List ℕ) → TakesToken t e r → ⊥
front_refused t away none e r ((b, h, j), k) =
    none_is_some (token_at t) (e, r) none
    (ap token_at j ∙ front_only b e r h k (sym (ap (λ x. slice_index x 0 == 34) j) ∙ ne_eqb _ 34 away))

-- ---- behind whitespace

-- if t is s after its whitespace, and t begins with a token, s has that token after whitespace
pub start_takes : (s t : List ℕ) (e : Step) (r : List ℕ) → t ≡ after_run is_space s → TakesToken t e r → Starts s e r
start_takes s t e r j h = (stands_of (Piece e) s t r j h.0, h.1)

-- if t is s after its whitespace, and s has a token after whitespace, t begins with that token
pub start_only : (s t : List ℕ) (e : Step) (r : List ℕ) → t ≡ after_run is_space s → Starts s e r → TakesToken t e r
start_only s t e r j h = (stands_only (Piece e) s t r (λ b. piece_no_space e b r) j h.0, h.1)

-- ---- strings

-- a quote and a text that spells cs up to a quote are the token of the string s, the UTF-8 of cs
pub string_taken : (cs t s r : List ℕ) → slice_index t 0 ≡ 34 → SpellsUpToQuote cs (drop 1 t) r
    → s ≡ encode_utf8_all cs → TakesToken t (string s) r
string_taken cs t s r at h e = (string_leads cs t s r at h e, tt)

-- a token that begins with a quote is of the class of strings, 4
quote_class : (t : List ℕ) (e : Step) (r : List ℕ) → slice_index t 0 ≡ 34 → BeginsWith (Piece e) t r → class e ≡ 4
quote_class t e r at (b, h, j) =
    let head = piece_head e b h in
    let first : head.byte ≡ 34 = sym (ap (λ x. slice_index x 0) (j ∙ ap (λ x. x ++ r) head.is)) ∙ at in
    sym head.of_kind ∙ ap leading_kind first

-- if t begins with a quote, and no characters up to a quote follow it, t begins with no token
pub string_refused : (t : List ℕ) → slice_index t 0 ≡ 34 → ((cs r : List ℕ) → SpellsUpToQuote cs (drop 1 t) r → ⊥)
    → (e : Step) (r : List ℕ) → TakesToken t e r → ⊥
string_refused t at never (string s) r ((b, h, j), k) = never h.characters r (string_chars b s t r h j)
string_refused t at never e r (h, k) = let same : class e ≡ 4 = quote_class t e r at h in omega arith

-- ---- an answer without a string

no_string : (t x r : List ℕ) → slice_index t 0 ≢ 34 → TakesToken t (string x) r → ⊥
no_string t x r away ((b, h, j), k) = away (ap (λ l. slice_index l 0) (j ∙ ap (λ l. l ++ r) h.text))

-- a token that does not begin with a quote is no string, so `TokenTakesText` holds
pub read_text : (t : List ℕ) (e : answer.Event) (r : List ℕ) → slice_index t 0 ≢ 34
    → TakesToken t (event_of_token e []) r → TokenTakesText e t r
read_text t event.Null r away h = tt
read_text t (event.Bool b) r away h = tt
read_text t (event.Negative n) r away h = tt
read_text t (event.Nonnegative n) r away h = tt
read_text t (event.Number x) r away h = tt
read_text t (event.Str x) r away h = absurd (no_string t _ r away h)
read_text t event.SeqStart r away h = tt
read_text t event.MapStart r away h = tt

-- nor does `SpelledToken` ask anything of it
pub read_spelled : (f : List ℕ → List ℕ) (t u : List ℕ) (e : answer.Event) (r : List ℕ) → slice_index t 0 ≢ 34
    → TakesToken t (event_of_token e []) r → SpelledToken f e u []
read_spelled f t u event.Null r away h = tt
read_spelled f t u (event.Bool b) r away h = tt
read_spelled f t u (event.Negative n) r away h = tt
read_spelled f t u (event.Nonnegative n) r away h = tt
read_spelled f t u (event.Number x) r away h = tt
read_spelled f t u (event.Str x) r away h = absurd (no_string t _ r away h)
read_spelled f t u event.SeqStart r away h = tt
read_spelled f t u event.MapStart r away h = tt

-- a text that was decoded into the scratch text u is u
pub decoded_text : (x : Text) (u s : List ℕ) → SpelledText (λ y. y) x u s → text_of x u ≡ text_of x s
decoded_text (text.Input y) u s h = refl
decoded_text text.Scratch u s h = h

-- so is that of a token
pub decoded : (e : answer.Event) (u s : List ℕ) → SpelledToken (λ y. y) e u s → event_of_token e u ≡ event_of_token e s
decoded event.Null u s h = refl
decoded (event.Bool b) u s h = refl
decoded (event.Negative n) u s h = refl
decoded (event.Nonnegative n) u s h = refl
decoded (event.Number x) u s h = refl
decoded (event.Str x) u s h = ap string (decoded_text x u s h)
decoded event.SeqStart u s h = refl
decoded event.MapStart u s h = refl

-- an unchanged scratch text satisfies `TokenLeavesScratch`, whatever the token
pub keeps : {S : Type 0} (e : answer.Event) (x : S) → TokenLeavesScratch e x x
keeps event.Null x = refl
keeps (event.Bool b) x = refl
keeps (event.Negative n) x = refl
keeps (event.Nonnegative n) x = refl
keeps (event.Number y) x = refl
keeps (event.Str (text.Input y)) x = refl
keeps (event.Str text.Scratch) x = tt
keeps event.SeqStart x = refl
keeps event.MapStart x = refl

-- ---- what is borrowed

-- if t is a quote and s, and the string text x is taken from s, t begins with that string between quotes
pub string_text : (x : Text) (t s r : List ℕ) → slice_index t 0 ≡ 34 → s ≡ drop 1 t → TakesText x s r
    → BeginsWith (Between 34 (BorrowedIfPlain x) 34) t r
string_text x t s r at e (inside, j, h) = (
  34 ∷ (inside ++ 34 ∷ []),
  record { inside = inside; text = refl; is_inside = h },
  first_byte t 33 at
      ∙ ap (λ y. 34 ∷ y) (sym e ∙ j ∙ sym (append_assoc inside (34 ∷ []) r)),
)

-- if t is s after its whitespace, `TokenTakesText` on t gives `TokenBorrowedIfPlain` on s
pub text_behind : (s t : List ℕ) (e : answer.Event) (r : List ℕ) → t ≡ after_run is_space s → TokenTakesText e t r
    → TokenBorrowedIfPlain e s r
text_behind s t event.Null r j h = tt
text_behind s t (event.Bool b) r j h = tt
text_behind s t (event.Negative n) r j h = tt
text_behind s t (event.Nonnegative n) r j h = tt
text_behind s t (event.Number y) r j h = tt
text_behind s t (event.Str x) r j h = stands_of (Between 34 (BorrowedIfPlain x) 34) s t r j h
text_behind s t event.SeqStart r j h = tt
text_behind s t event.MapStart r j h = tt

-- if t is s after its whitespace, and is a quote, plain bytes and a backslash, `BeginsEscaped` holds for s
pub backslash_behind : (s t : List ℕ) → t ≡ after_run is_space s → slice_index t 0 ≡ 34 → ReachesBackslash (drop 1 t) → BeginsEscaped s
backslash_behind s t j at (p, q, h, e) =
    let b : List ℕ = 34 ∷ (p ++ 92 ∷ []) in
    let one : Between 34 (AllByRecursion (λ c. is_special c ≡ false)) 92 b = record { inside = p; text = refl; is_inside = h } in (
      q,
      stands_of (Between 34 (AllByRecursion (λ c. is_special c ≡ false)) 92) s t q j
          (b, one, first_byte t 33 at ∙ ap (λ y. 34 ∷ y) (e ∙ sym (append_assoc p (92 ∷ []) q))),
    )
