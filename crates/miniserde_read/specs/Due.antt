-- The value that is due in a text: the next element of a list, the value behind a member's name and its colon, or that
-- of a whole text.
-- `next` takes the value's tree, and returns the state after it: the state of a struct's fields, or the content of a
-- single value.
use Rattle.std.specs.Prelude.{◌≡◌, ℕ, Bool, true, false, List, Option, Some, None}
use Rattle.miniserde_model.specs.Tree.{Tree, Trees, tree}
use Rattle.miniserde_model.specs.Step.{Step}
use Rattle.miniserde_model.specs.Lexing.{Starts, Follows}
use Rattle.miniserde_model.specs.declared.kind.Kind.TheVariants.{Seq}
use Rattle.miniserde_read.specs.Meaning.{Meaning}
use Rattle.miniserde_read.specs.Rest.{ValueAt, ElementsAt}

-- From s to r stands a value, for whose tree `one` the function `next` returns `state`. `event`
-- is the first event of the value, and `behind` is the text after its first token.
pub record ReadsDue {S : Type 0} (next : Tree → Option S) (s r : List ℕ) (state : S) : Type 0 where
  pub one : Tree
  pub event : Step
  pub behind : List ℕ
  pub starts : Starts s event behind
  pub is_value : ValueAt one event behind r
  pub gives : next one ≡ Some state

-- `next` returns no state for the tree of any value with which the text s begins
abbrev pub RejectsDue : {S : Type 0} → (Tree → Option S) → List ℕ → Type 0
RejectsDue next s = (t : Tree) (e : Step) (b r : List ℕ) → Starts s e b → ValueAt t e b r → next t ≡ None

-- In a list, from s to r stands the next element, which means the value by m, or, for `None`, the closing bracket.
-- `first` says that the opening bracket was just taken, so that no comma is due.
abbrev pub NextElement : {V : Type 0} → Meaning V → Bool → List ℕ → List ℕ → Option V → Type 0
NextElement m first s r None = Follows Seq first true s r
NextElement m first s r (Some v) = (b : List ℕ) × Follows Seq first false s b × ReadsDue m.from_tree b r (m.content v)

-- if a prefix of s is the rest of a list, there is an element, and `of` gives nothing for the first one
abbrev pub ElementRejects : {C : Type 0} → (Tree → Option C) → Bool → List ℕ → Type 0
ElementRejects of first s = (ts : Trees) (r : List ℕ) → ElementsAt ts first s r
    → (t : Tree) × (us : Trees) × (ts ≡ tree t us) × (of t ≡ None)
