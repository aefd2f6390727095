-- Runs of bytes that pass a test, by recursion on the list. Whitespace is such a run, so a piece stands behind it
-- exactly where the rest of the text begins with that piece.
use Rattle.std.proofs.Common.{◌≡◌, ℕ, ◌+◌, ◌<◌, ◌==◌, ◌||◌, ◌⊎◌, Bool, true, false, cond, List, [], ◌∷◌, ◌++◌}
use Rattle.std.proofs.Common.{length, drop, get_or, refl, ap, sym, subst, ◌∙◌, inl, inr, arith}
use Rattle.std.proofs.Common.{eqb-true}
use Rattle.std.proofs.lemmas.Bool.Decides.{nat_tests}
use Rattle.std.proofs.lemmas.List.{drop_more}
use Rattle.miniserde_model.specs.Bytes.{is_space, StopsAt}
use Rattle.miniserde_model.specs.Whitespace.{IsSpace, IsWhitespace}
use Rattle.miniserde_model.specs.Lexing.{Stands}
use Rattle.miniserde_model.proofs.LongestRuns.{AllPass}
use Rattle.miniserde_model.proofs.Prefixes.{whitespace_passes}
use Rattle.miniserde_text.specs.private.Reading.{after_run, is_digit}
use Rattle.miniserde_text.specs.private.LexerParts.{BeginsWith}
use Rattle.miniserde_text.specs.Lexer.{Blank}

-- a byte of whitespace is ASCII
pub space_ascii : (c : ℕ) → is_space c ≡ true → c < 128
space_ascii c h = grind (arith, nat_tests)

-- a digit is ASCII
pub digit_ascii : (c : ℕ) → is_digit c ≡ true → c < 128
digit_ascii c h = grind (arith, nat_tests)

-- if a disjunction is true, so is one of its parts
pub or_true : (a b : Bool) → (a || b) ≡ true → (a ≡ true) ⊎ (b ≡ true)
or_true true b h = inl refl
or_true false b h = inr h

abbrev pub Splits : (ℕ → Bool) → List ℕ → List ℕ → Type 0
Splits p s t = (w : List ℕ) × AllPass p w × (s ≡ w ++ t)

module _ (p : ℕ → Bool) where
  pub after_run_more : (s : List ℕ) (i : ℕ) → i < length s
      → after_run p (drop i s) ≡ cond (p (get_or s i 0)) (after_run p (drop (i + 1) s)) (drop i s)
  after_run_more s i h =
      ap (after_run p) (drop_more s i 0 h) ∙ ap (λ t. cond (p (get_or s i 0)) (after_run p (drop (i + 1) s)) t) (sym (drop_more s i 0 h))

  step : (b : Bool) (c : ℕ) (cs : List ℕ) → b ≡ p c → Splits p cs (after_run p cs) → Splits p (c ∷ cs) (cond b (after_run p cs) (c ∷ cs))
  step false c cs e q = ([], tt, refl)
  step true c cs e q = (c ∷ q.0, (sym e, q.1), ap (λ t. c ∷ t) q.2)

  pub run_split : (s : List ℕ) → Splits p s (after_run p s)
  run_split [] = ([], tt, refl)
  run_split (c ∷ cs) = step (p c) c cs refl (run_split cs)

  -- the list begins with no byte that passes
  abbrev pub Stops : List ℕ → Type 0
  Stops t = p (get_or t 0 0) ≡ false

  pub stops_at : (t : List ℕ) → Stops t → StopsAt p t
  stops_at [] h = tt
  stops_at (c ∷ cs) h = h

  pub stops_of : p 0 ≡ false → (t : List ℕ) → StopsAt p t → Stops t
  stops_of z [] h = z
  stops_of z (c ∷ cs) h = h

  stops : (t : List ℕ) → StopsAt p t → after_run p t ≡ t
  stops [] h = refl
  stops (c ∷ cs) h = ap (λ b. cond b (after_run p cs) (c ∷ cs)) h

  pub run_only : (w t : List ℕ) → AllPass p w → StopsAt p t → after_run p (w ++ t) ≡ t
  run_only [] t h k = stops t k
  run_only (c ∷ cs) t h k = ap (λ b. cond b (after_run p (cs ++ t)) (c ∷ (cs ++ t))) h.0 ∙ run_only cs t h.1 k

  run_stops_step : p 0 ≡ false → (b : Bool) (c : ℕ) (cs : List ℕ) → p c ≡ b → Stops (after_run p cs)
      → Stops (cond b (after_run p cs) (c ∷ cs))
  run_stops_step z true c cs e ih = ih
  run_stops_step z false c cs e ih = e

  pub run_stops : p 0 ≡ false → (s : List ℕ) → Stops (after_run p s)
  run_stops z [] = z
  run_stops z (c ∷ cs) = run_stops_step z (p c) c cs refl (run_stops z cs)

-- ---- whitespace

space_of : (c : ℕ) → is_space c ≡ true → IsSpace c
space_of c h = elim (or_true _ (c == 13) h) [
  | inr d ↦ inr (inr (inr (eqb-true c 13 d)))
  | inl h ↦ elim (or_true _ (c == 10) h) [
    | inr d ↦ inr (inr (inl (eqb-true c 10 d)))
    | inl h ↦ elim (or_true (c == 32) (c == 9) h) [
      | inr d ↦ inr (inl (eqb-true c 9 d))
      | inl d ↦ inl (eqb-true c 32 d)
    ]
  ]
]

-- bytes that all pass `is_space` are whitespace
pub whitespace_of : (w : List ℕ) → AllPass is_space w → IsWhitespace w
whitespace_of [] h = tt
whitespace_of (c ∷ w) h = (space_of c h.0, whitespace_of w h.1)

-- if w is whitespace and t does not begin with any, `after_run` leaves t of w ++ t
pub run_only_space : (w t : List ℕ) → IsWhitespace w → StopsAt is_space t → after_run is_space (w ++ t) ≡ t
run_only_space w t h k = run_only is_space w t (whitespace_passes w h) k

-- if t is s after its whitespace, and t begins with a P, s has that P after whitespace
pub stands_of : (P : List ℕ → Type 0) (s t r : List ℕ) → t ≡ after_run is_space s → BeginsWith P t r → Stands P s r
stands_of P s t r e h =
    let w = run_split is_space s in
    record { space = w.0; part = h.0; text = w.2 ∙ ap (λ x. w.0 ++ x) (sym e ∙ h.2); white = whitespace_of w.0 w.1; is_part = h.1 }

-- if no P begins with whitespace, t is s after its whitespace, and s has a P after whitespace, t begins with it
pub stands_only : (P : List ℕ → Type 0) (s t r : List ℕ) → ((b : List ℕ) → P b → StopsAt is_space (b ++ r))
    → t ≡ after_run is_space s → Stands P s r → BeginsWith P t r
stands_only P s t r heads e h =
    (h.part, h.is_part, e ∙ ap (after_run is_space) h.text ∙ run_only_space h.space (h.part ++ r) h.white (heads h.part h.is_part))

-- if t is s after its whitespace, s is whitespace and then t, which does not begin with whitespace
pub blank_of : (s t : List ℕ) → t ≡ after_run is_space s → Blank s t
blank_of s t e =
    let w = run_split is_space s in
    record {
      space = w.0;
      text = w.2 ∙ ap (λ x. w.0 ++ x) (sym e);
      white = whitespace_of w.0 w.1;
      stops =
          subst (λ x. StopsAt is_space x) (sym e)
          (stops_at is_space (after_run is_space s) (run_stops is_space refl s));
    }
