-- What a contract sees of a lexer, its tokens and its scratch text.
use Rattle.std.specs.Prelude.{◌≡◌, ℕ, List, ◌∷◌, ◌++◌, Option, Bool, true, false, Result, Err, IfSome, ⊤}
use Rattle.std.specs.Result.{result_err}
use Rattle.std.specs.List.{AllByRecursion}
use Rattle.miniserde_model.specs.Bytes.{is_special, is_space, StopsAt}
use Rattle.miniserde_model.specs.Whitespace.{IsWhitespace}
use Rattle.miniserde_model.specs.Value.{Between}
use Rattle.miniserde_model.specs.Step.{boolean, string, negative, nonnegative, float, seq, map}
use Rattle.miniserde_model.specs.Step as step
use Rattle.miniserde_model.specs.Lexing.{Stands, BeforeColon}
use Rattle.miniserde_model.specs.declared.error.Error.{Error}
use Rattle.miniserde_text.specs.declared.json.lex.Text.{Text}
use Rattle.miniserde_text.specs.declared.json.lex.Text.TheVariants.{Input, Scratch}
use Rattle.miniserde_text.specs.declared.json.lex.Event.{Event}
use Rattle.miniserde_text.specs.declared.json.lex.Event.TheVariants as event
use Rattle.miniserde_text.specs.declared.json.lex.After.{After}
use Rattle.miniserde_text.specs.declared.json.lex.After.TheVariants as after

-- what a contract sees of a lexer: the rest of the text, and the first error, if there was one
pub record LexerView : Type 0 where
  pub rest : List ℕ
  pub refused : Option Error

-- What a call does with the first error. If one was kept before, the call returns it. The error that it returns is kept
-- afterwards, and after `Ok` none is.
pub record KeepsFirstError {A : Type 0} (before : Option Error) (answer : Result A Error) (after : Option Error) : Type 0 where
  pub first : IfSome before (λ e. answer ≡ Err e)
  pub kept : after ≡ result_err answer

-- the text of a string or of a name: the borrowed one, or else the scratch text
abbrev pub text_of : Text → List ℕ → List ℕ
text_of (Input s) scratch = s.now
text_of Scratch scratch = scratch

-- The event (`Step`) of a token of the lexer (of the type `Event`); the text of a string that was decoded is the
-- scratch text `scratch`.
abbrev pub event_of_token : Event → List ℕ → step.Step
event_of_token event.Null scratch = step.null
event_of_token (event.Bool b) scratch = boolean b
event_of_token (event.Negative n) scratch = negative n
event_of_token (event.Nonnegative n) scratch = nonnegative n
event_of_token (event.Number x) scratch = float x.now
event_of_token (event.Str t) scratch = string (text_of t scratch)
event_of_token event.SeqStart scratch = seq
event_of_token event.MapStart scratch = map

-- whether the container's closing bracket is next, and not a child
abbrev pub is_close : After → Bool
is_close after.Close = true
is_close after.Next = false

-- ---- what is borrowed, and what takes memory

-- the text x contains a backslash
abbrev pub HasBackslash : List ℕ → Type 0
HasBackslash x = (a b : List ℕ) × (x ≡ a ++ 92 ∷ b)

-- The text of a string fits the bytes `inside` its quotes: if it is borrowed, it equals them, and
-- they contain no backslash; if it is decoded, they contain one.
abbrev pub BorrowedIfPlain : Text → List ℕ → Type 0
BorrowedIfPlain (Input x) inside = (inside ≡ x.now) × (HasBackslash inside → ⊥)
BorrowedIfPlain Scratch inside = HasBackslash inside

-- if the token is a string, s begins with it after whitespace, r is the text after it, and the
-- token's text is decoded if the string has a backslash, and else borrowed
abbrev pub TokenBorrowedIfPlain : Event → List ℕ → List ℕ → Type 0
TokenBorrowedIfPlain (event.Str t) s r = Stands (Between 34 (BorrowedIfPlain t) 34) s r
TokenBorrowedIfPlain _ s r = ⊤

-- After whitespace, s begins with a name and its colon, r is the text after them, and the name's text t is decoded if
-- the name has a backslash, and else borrowed. What text the name spells is `Names`.
abbrev pub NameBorrowedIfPlain : Text → List ℕ → List ℕ → Type 0
NameBorrowedIfPlain t s r = Stands (BeforeColon (Between 34 (BorrowedIfPlain t) 34)) s r

-- if the text is borrowed, the scratch texts `old` and `new`, each a `String` with its capacity,
-- are equal
abbrev pub LeavesScratch : {S : Type 0} → Text → S → S → Type 0
LeavesScratch (Input x) old new = new ≡ old
LeavesScratch Scratch old new = ⊤

-- unless the token is a string that was decoded, the scratch texts `old` and `new`, each a `String`
-- with its capacity, are equal
abbrev pub TokenLeavesScratch : {S : Type 0} → Event → S → S → Type 0
TokenLeavesScratch (event.Str t) old new = LeavesScratch t old new
TokenLeavesScratch _ old new = new ≡ old

-- if the text is decoded, the scratch text is `spelled` of the string's text s
abbrev pub SpelledText : (List ℕ → List ℕ) → Text → List ℕ → List ℕ → Type 0
SpelledText spelled (Input x) scratch s = ⊤
SpelledText spelled Scratch scratch s = scratch ≡ spelled s

-- if the token is a string with a backslash, the scratch text is `spelled` of the string's text s
abbrev pub SpelledToken : (List ℕ → List ℕ) → Event → List ℕ → List ℕ → Type 0
SpelledToken spelled (event.Str t) scratch s = SpelledText spelled t scratch s
SpelledToken spelled _ scratch s = ⊤

-- after whitespace, s begins with a quote, bytes that need no escape, and a backslash
abbrev pub BeginsEscaped : List ℕ → Type 0
BeginsEscaped s = (r : List ℕ) × Stands (Between 34 (AllByRecursion (λ c. is_special c ≡ false)) 92) s r

-- ---- whitespace

-- the text s is whitespace and then r, which does not begin with whitespace
pub record Blank (s r : List ℕ) : Type 0 where
  pub space : List ℕ
  pub text : s ≡ space ++ r
  pub white : IsWhitespace space
  pub stops : StopsAt is_space r
