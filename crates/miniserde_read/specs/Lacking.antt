-- When the reading of a text may return `Memory`: a string with a backslash is decoded, or a list grows.
use Rattle.std.specs.Prelude.{◌≡◌, ◌⊎◌, ℕ, zero, suc, Bool, true, false, List, length}
use Rattle.std.specs.List.{AllByRecursion}
use Rattle.miniserde_model.specs.Tree.{Tree}
use Rattle.miniserde_model.specs.Step.{Step, seq}
use Rattle.miniserde_model.specs.Lexing.{Follows}
use Rattle.miniserde_model.specs.declared.kind.Kind.TheVariants.{Seq, Map}
use Rattle.miniserde_text.specs.Lexer.{BeginsEscaped}
use Rattle.miniserde_read.specs.Rest.{OneElement, ValueAt}
use Rattle.miniserde_read.specs.Source.{SourceView}

-- the next element in s begins as a string with a backslash; `first` says that the opening bracket was just taken
abbrev pub EscapedElement : Bool → List ℕ → Type 0
EscapedElement first s = (b : List ℕ) × Follows Seq first false s b × BeginsEscaped b

-- the next member in s begins as a string with a backslash; `first` says that the opening bracket was just taken
abbrev pub EscapedMember : Bool → List ℕ → Type 0
EscapedMember first s = (b : List ℕ) × Follows Map first false s b × BeginsEscaped b

-- from s to r stands one element, with the comma before it unless `first` says that it is the first one
abbrev pub AnElement : Bool → List ℕ → List ℕ → Type 0
AnElement first s r = (t : Tree) × OneElement (ValueAt t) (λ rest. rest ≡ r) first s

-- one of the next n elements in s begins as a string with a backslash, and those before it are values; `first` says
-- that the opening bracket was just taken
abbrev pub EscapedAmong : ℕ → Bool → List ℕ → Type 0
EscapedAmong zero first s = ⊥
EscapedAmong (suc n) first s = EscapedElement first s ⊎ ((d : List ℕ) × AnElement first s d × EscapedAmong n false d)

-- from s to r stand elements, at least one and at most n, each with a comma before it; the first of them has none
-- if `first` says that it is the first one of its list
abbrev pub SomeElements : ℕ → Bool → List ℕ → List ℕ → Type 0
SomeElements zero first s r = ⊥
SomeElements (suc n) first s r = AnElement first s r ⊎ ((d : List ℕ) × AnElement first s d × SomeElements n false d r)

-- What holds if reading a pair returns `Memory`: if `read` of neither part ever does (a and b are
-- true), the first event e opens a list, and one of the list's first two elements, in the text of
-- `old`, begins as a string with a backslash. `old` and `new` are the source before and after.
abbrev pub PairLacks : Bool → Bool → Step → SourceView → SourceView → Type 0
PairLacks a b e old new = a ≡ true → b ≡ true → (e ≡ seq) × EscapedAmong 2 true old.rest

-- What holds if reading an array of n items returns `Memory`: if `read` of an item never does (a is
-- true), the first event e opens a list, and one of the list's first n elements, in the text of
-- `old`, begins as a string with a backslash, or from `old` to `new` stand at least one and at most
-- n elements. `old` and `new` are the source before and after.
abbrev pub ArrayLacks : ℕ → Bool → Step → SourceView → SourceView → Type 0
ArrayLacks n a e old new = a ≡ true → (e ≡ seq) × (EscapedAmong n true old.rest ⊎ SomeElements n true old.rest new.rest)

-- What holds if reading the items of a tuple from s returns `Memory`: if `read` of no item ever
-- does (all of `infallible` are true), then among as many elements of s as there are items, one
-- begins as a string with a backslash. `first` says that the opening bracket was just taken.
abbrev pub ItemsLack : List Bool → Bool → List ℕ → Type 0
ItemsLack infallible first s = AllByRecursion (λ b. b ≡ true) infallible → EscapedAmong (length infallible) first s

-- What holds if reading a tuple returns `Memory`: if `read` of no item ever does (all of
-- `infallible` are true), the first event e opens a list, and among as many of its elements as
-- there are items, in the text of `old`, one begins as a string with a backslash. `old` and `new`
-- are the source before and after.
abbrev pub TupleLacks : List Bool → Step → SourceView → SourceView → Type 0
TupleLacks infallible e old new = AllByRecursion (λ b. b ≡ true) infallible → (e ≡ seq) × EscapedAmong (length infallible) true old.rest
