-- After an error nothing is left of a lexer's text, and what its calls take is never empty. So if a call took
-- something, there was no error.
use Rattle.std.proofs.Common.{◌≡◌, ℕ, Bool, true, false, Option, Some, None, IfSome, Result, Ok, List, [], ◌++◌, length}
use Rattle.std.proofs.Common.{refl, sym, ap, subst, ◌∙◌, arith, length-append}
use Rattle.miniserde_model.specs.Step.{Step}
use Rattle.miniserde_model.specs.Lexing.{Stands, Starts, Names, Follows}
use Rattle.miniserde_model.specs.declared.error.Error.{Error}
use Rattle.miniserde_model.specs.declared.kind.Kind.{Kind}
use Rattle.miniserde_text.specs.Lexer.{KeepsFirstError}
use Rattle.miniserde_text.proofs.FirstEvents.{start_less, name_head}

-- if s is whitespace, a part and r, and the part or r has a byte, s has one
stands_some : (P : List ℕ → Type 0) (s r : List ℕ) (p : Stands P s r) → (length (p.part ++ r) ≡ 0 → ⊥) → s ≡ [] → ⊥
stands_some P s r p some none = some (omega (arith, ap length (sym p.text ∙ none), length-append p.space (p.part ++ r)))

-- a text that begins with a token is not empty
pub start_some : (s : List ℕ) (e : Step) (r : List ℕ) → Starts s e r → s ≡ [] → ⊥
start_some s e r p none = let l = start_less s e r p in omega (arith, l, ap length none)

-- a text that begins with a name is not empty
pub name_some : (s n r : List ℕ) → Names s n r → s ≡ [] → ⊥
name_some s n r p =
    stands_some _ s r p
    (λ none. omega (arith, none, length-append p.part r, ap length (name_head n p.part p.is_part).is))

-- a text that goes on inside a container is not empty
pub follows_some : (k : Kind) (first a : Bool) (s r : List ℕ) → Follows k first a s r → s ≡ [] → ⊥
follows_some k first true s r p =
    stands_some _ s r p (λ none. omega (arith, none, length-append p.part r, ap length p.is_part))
follows_some k true false s r p =
    stands_some _ s r p.0 (λ none. omega (arith, none, length-append p.0.part r, ap length p.1.text))
follows_some k false false s r p =
    stands_some _ s r p (λ none. omega (arith, none, length-append p.part r, ap length p.is_part))

-- if an error leaves nothing, and something is left, there is no error
pub unrefused : {E : Type 0} (o : Option E) (s : List ℕ) → IfSome o (λ _. s ≡ []) → (s ≡ [] → ⊥) → o ≡ None
unrefused None s h some = refl
unrefused (Some e) s h some = absurd (some h)

-- if there is no error, any P holds of the error, if there is one
pub if_unrefused : {E : Type 0} (o : Option E) (P : E → Type 0) → o ≡ None → IfSome o P
if_unrefused o P h = subst (λ x. IfSome x P) (sym h) tt

-- a call that returns `Ok` keeps the first error if there was none before, and none is there afterwards
pub no_error : {A : Type 0} (before after : Option Error) (a : A) → before ≡ None → after ≡ None
    → KeepsFirstError before (Ok a) after
no_error before after a fresh none = record { first = if_unrefused before _ fresh; kept = none }
