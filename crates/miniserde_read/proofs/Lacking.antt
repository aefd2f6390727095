-- A string with a backslash that is found behind k elements of a list, for k below n, is among the first n elements
-- of the whole list. The loop keeps the invariant `AmongGoes`, which `among_goes` carries over one element;
-- `has_escape` carries the fact over to a whole text.
use Rattle.std.proofs.Common.{◌≡◌, ℕ, suc, ◌+◌, ◌-◌, ◌<◌, Bool, true, false, List, [], Some}
use Rattle.std.proofs.Common.{◌∷◌, ◌++◌, refl, ap, ◌∙◌, arith, inl, inr}
use Rattle.std.specs.Prelude.{◌≢◌, ◌⊎◌}
use Rattle.std.specs.List.{AllByRecursion}
use Rattle.std.proofs.lemmas.List.{append_assoc}
use Rattle.miniserde_model.specs.Bytes.{is_special}
use Rattle.miniserde_text.specs.Lexer.{BeginsEscaped}
use Rattle.miniserde_read.specs.Escaped.{BeginsWithEscapedString}
use Rattle.miniserde_read.specs.Due.{NextElement}
use Rattle.miniserde_read.specs.Meaning.{Meaning}
use Rattle.miniserde_read.specs.Lacking.{EscapedElement, AnElement, EscapedAmong, SomeElements}

-- where an item was read, an element stands
pub an_element : {V : Type 0} (m : Meaning V) (f : Bool) (s d : List ℕ) (v : V) → NextElement m f s d (Some v) → AnElement f s d
an_element m f s d v h = (
  h.2.one,
  record {
    begin = h.0;
    event = h.2.event;
    behind = h.2.behind;
    rest = d;
    follows = h.1;
    starts = h.2.starts;
    is_value = h.2.is_value;
    is_rest = refl;
  },
)

-- Of n elements, k stand from `begin` to s.
pub record AmongGoes (n : ℕ) (begin : List ℕ) (first : Bool) (s : List ℕ) (k : ℕ) : Type 0 where
  pub escaped : (m : ℕ) → m + k ≡ n → EscapedAmong m first s → EscapedAmong n true begin
  pub some : (m : ℕ) (r : List ℕ) → m + k ≡ n → SomeElements m first s r → SomeElements n true begin r

module _ (n : ℕ) (begin : List ℕ) where
  pub among_goes : (f : Bool) (s d : List ℕ) (k : ℕ) → AmongGoes n begin f s k → AnElement f s d → AmongGoes n begin false d (suc k)
  among_goes f s d k g a = record {
    escaped = λ m e p. g.escaped (suc m) (omega (arith, e)) (inr (d, a, p));
    some = λ m r e p. g.some (suc m) r (omega (arith, e)) (inr (d, a, p));
  }

  pub among_lacks : (f : Bool) (s d : List ℕ) (k : ℕ) → AmongGoes n begin f s k → k < n → EscapedElement f s ⊎ AnElement f s d
      → EscapedAmong n true begin ⊎ SomeElements n true begin d
  among_lacks f s d k g l (inl p) = inl (g.escaped (suc (n - suc k)) (omega (arith, l)) (inl p))
  among_lacks f s d k g l (inr a) = inr (g.some (suc (n - suc k)) d (omega (arith, l)) (inl a))

-- ---- a whole text

no_quote : (c : ℕ) → is_special c ≡ false → c ≢ 34
no_quote c h e = absurd (cc (h, ap is_special e))

no_quotes : (inside : List ℕ) → AllByRecursion (λ c. is_special c ≡ false) inside → AllByRecursion (λ c. c ≢ 34) inside
no_quotes [] h = tt
no_quotes (c ∷ cs) h = (no_quote c h.0, no_quotes cs h.1)

-- what a lexer says of a text that it fails to decode, of the whole text
pub has_escape : (j : List ℕ) → BeginsEscaped j → BeginsWithEscapedString j
has_escape j (r, p) = (
  p.space,
  p.is_part.inside,
  r,
  p.white,
  no_quotes p.is_part.inside p.is_part.is_inside,
  p.text ∙ ap (λ x. p.space ++ x) (ap (λ x. x ++ r) p.is_part.text ∙ ap (λ x. 34 ∷ x) (append_assoc p.is_part.inside (92 ∷ []) r)),
)
