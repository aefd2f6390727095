-- `punctuation_at` takes exactly the closing bracket or the step to the next child that the grammar allows. By cases on
-- the kind and on whether the container was just opened: each step taken is one of the grammar (`follows`), and each
-- one of the grammar is taken (`follows_only`).
use Rattle.std.proofs.Common.{◌≡◌, ℕ, ◌≤◌, ◌==◌, Bool, true, false, cond, not, List, [], ◌∷◌, ◌++◌, length}
use Rattle.std.proofs.Common.{length-drop, drop, Option, Some, None, refl, ap, sym, subst, ◌∙◌, inl, inr, arith}
use Rattle.std.proofs.Common.{eqb-true, append-nil}
use Rattle.std.specs.Prelude.{slice_index}
use Rattle.std.proofs.lemmas.Bool.{true≢false}
use Rattle.std.proofs.lemmas.List.{drop_all}
use Rattle.std.proofs.lemmas.Bool.Decides.{nat_tests}
use Rattle.miniserde_model.specs.Bytes.{is_space, StopsAt}
use Rattle.miniserde_model.specs.Whitespace.{IsWhitespace}
use Rattle.miniserde_model.specs.Lexing.{IsByte, closing, Begins, Follows}
use Rattle.miniserde_model.specs.declared.kind.Kind.{Kind}
use Rattle.miniserde_model.specs.declared.kind.Kind.TheVariants.{Seq, Map}
use Rattle.miniserde_text.specs.private.Reading.{after_run, is_closing, begins_child, punctuation_at}
use Rattle.miniserde_text.specs.private.LexerParts.{BeginsWith}
use Rattle.miniserde_text.proofs.ByteRuns.{run_split, run_only_space, run_stops, Stops, whitespace_of, stands_of, stands_only}
use Rattle.std.proofs.lemmas.Option.{cond_some, same_Some}
use Rattle.miniserde_text.proofs.Options.{chosen, first_byte}

-- what follows, behind whitespace
abbrev Goes : Kind → Bool → Bool → List ℕ → List ℕ → Type 0
Goes k first true t r = BeginsWith (IsByte (closing k)) t r
Goes k true false t r = BeginsWith (λ b. b ≡ []) t r × Begins r
Goes k false false t r = BeginsWith (IsByte 44) t r

not_true : (b : Bool) → not b ≡ true → b ≡ false
not_true true h = sym h
not_true false h = refl

begins_is : (t : List ℕ) → Stops is_space t → begins_child t ≡ true → Begins t
begins_is [] s h = absurd (true≢false (sym h))
begins_is (c ∷ cs) s h =
    let away = not_true (is_closing c) h in
    record {
      byte = c;
      more = cs;
      text = refl;
      no_space = s;
      no_list_end =
          λ e. true≢false (sym (ap is_closing e) ∙ away);
      no_members_end =
          λ e. true≢false (sym (ap is_closing e) ∙ away);
    }

closing_first : (k : Kind) (t : List ℕ) → slice_index t 0 ≡ closing k → t ≡ closing k ∷ drop 1 t
closing_first Map t e = first_byte t 124 e
closing_first Seq t e = first_byte t 92 e

other : (k : Kind) (first : Bool) (t : List ℕ) (a : Bool) (r : List ℕ) → Stops is_space t
    → cond {A = Option (Bool × List ℕ)} first (cond (begins_child t) (Some (false, t)) None)
    (cond (slice_index t 0 == 44) (Some (false, drop 1 t)) None) ≡ Some (a, r) → Goes k first a t r
other k true t a r s e = let q = cond_some (begins_child t) (false, t) (a, r) e in
    subst (λ x. Goes k true x.0 t x.1) q.1 (([], refl, refl), begins_is t s q.0)
other k false t a r s e =
    let q = cond_some (slice_index t 0 == 44) (false, drop 1 t) (a, r) e in
    subst (λ x. Goes k false x.0 t x.1) q.1 (44 ∷ [], refl, first_byte t 43 (eqb-true _ 44 q.0))

step_goes : (k : Kind) (first : Bool) (t : List ℕ) (a : Bool) (r : List ℕ) → Stops is_space t
    → punctuation_at k first t ≡ Some (a, r) → Goes k first a t r
unfolding punctuation_at
step_goes k first t a r s e = elim (chosen (slice_index t 0 == closing k) _ _ _ e) [
  | inl p ↦ let q = same_Some _ _ p.1 in
      subst (λ x. Goes k first x.0 t x.1) q (closing k ∷ [], refl, closing_first k t (eqb-true _ (closing k) p.0))
  | inr p ↦ other k first t a r s p.1
]

stands_step : (k : Kind) (first : Bool) (s t : List ℕ) (x : Bool × List ℕ) → t ≡ after_run is_space s → Goes k first x.0 t x.1
    → Follows k first x.0 s x.1
stands_step k first s t (true, r) e h = stands_of (IsByte (closing k)) s t r e h
stands_step k true s t (false, r) e h = (stands_of (λ b. b ≡ []) s t r e h.0, h.1)
stands_step k false s t (false, r) e h = stands_of (IsByte 44) s t r e h

-- if t is s after its whitespace, and `punctuation_at` reads x from t, `Follows` holds for both parts of x
pub follows : (k : Kind) (first : Bool) (s t : List ℕ) (x : Bool × List ℕ) → t ≡ after_run is_space s
    → punctuation_at k first t ≡ Some x → Follows k first x.0 s x.1
follows k first s t x e h =
    stands_step k first s t x e (step_goes k first t x.0 x.1 (ap (λ x. is_space (slice_index x 0)) e ∙ run_stops is_space refl s) h)

-- ---- what the grammar has is read

byte_first : (c : ℕ) → is_space c ≡ false → (r b : List ℕ) → IsByte c b → StopsAt is_space (b ++ r)
byte_first c h r b e = rw e h

begins_first : (r b : List ℕ) → Begins r → b ≡ [] → StopsAt is_space (b ++ r)
begins_first r b h e = rw (e, h.text) h.no_space

closing_no_space : (k : Kind) → is_space (closing k) ≡ false
closing_no_space Seq = refl
closing_no_space Map = refl

close_step : (k : Kind) (first : Bool) (t r b : List ℕ) → IsByte (closing k) b → t ≡ b ++ r → punctuation_at k first t ≡ Some (true, r)
unfolding punctuation_at
close_step Seq first t r b h e = rw (e, h) refl
close_step Map first t r b h e = rw (e, h) refl

no_close : (k : Kind) (c : ℕ) → (c ≡ 93 → ⊥) → (c ≡ 125 → ⊥) → (is_closing c ≡ false) × ((c == closing k) ≡ false)
no_close Seq c h g = (grind (arith, nat_tests), grind (arith, nat_tests))
no_close Map c h g = (grind (arith, nat_tests), grind (arith, nat_tests))

first_step : (k : Kind) (t r b : List ℕ) → b ≡ [] → t ≡ b ++ r → Begins r → punctuation_at k true t ≡ Some (false, r)
unfolding punctuation_at
first_step k t r b h e g =
    let away = no_close k g.byte g.no_list_end g.no_members_end in
    let c : ℕ = g.byte in
    let cs : List ℕ = g.more in
    rw (e, h, g.text) (
    ap (λ v. cond v (Some (true, cs)) (cond (not (is_closing c)) (Some (false, c ∷ cs)) None)) away.1
    ∙ ap (λ v. cond (not v) (Some (false, c ∷ cs)) None) away.0)

comma_step : (k : Kind) (t r b : List ℕ) → IsByte 44 b → t ≡ b ++ r → punctuation_at k false t ≡ Some (false, r)
unfolding punctuation_at
comma_step Seq t r b h e = rw (e, h) refl
comma_step Map t r b h e = rw (e, h) refl

-- if t is s after its whitespace, and `Follows` holds for both parts of x, `punctuation_at` reads x from t
pub follows_only : (k : Kind) (first : Bool) (s t : List ℕ) (x : Bool × List ℕ) → t ≡ after_run is_space s
    → Follows k first x.0 s x.1 → punctuation_at k first t ≡ Some x
follows_only k first s t (true, r) e h =
    let l = stands_only (IsByte (closing k)) s t r (byte_first (closing k) (closing_no_space k) r) e h in
    close_step k first t r l.0 l.1 l.2
follows_only k true s t (false, r) e h =
    let l = stands_only (λ b. b ≡ []) s t r (λ b. begins_first r b h.1) e h.0 in
    first_step k t r l.0 l.1 l.2 h.1
follows_only k false s t (false, r) e h =
    let l = stands_only (IsByte 44) s t r (byte_first 44 refl r) e h in
    comma_step k t r l.0 l.1 l.2

-- ---- the end

-- if s after its whitespace is t from i on, and i is at least the length of t, s is whitespace
pub blank_of : (s t : List ℕ) (i : ℕ) → drop i t ≡ after_run is_space s → length t ≤ i → IsWhitespace s
blank_of s t i e h =
    let w = run_split is_space s in
    subst IsWhitespace (sym (w.2 ∙ ap (λ x. w.0 ++ x) (sym e ∙ drop_all i t h) ∙ append-nil w.0)) (whitespace_of w.0 w.1)

-- if s after its whitespace is t from i on, and i is below the length of t, s is not whitespace
pub not_blank : (s t : List ℕ) (i : ℕ) → drop i t ≡ after_run is_space s → (length t ≤ i → ⊥) → IsWhitespace s → ⊥
not_blank s t i e h k =
    let none : drop i t ≡ [] = e ∙ ap (after_run is_space) (sym (append-nil s)) ∙ run_only_space s [] k tt in
    h (omega (arith, length-drop i t, ap length none))
