-- The trees that a text spells after a value's first token, in the steps of a lexer: `Starts`, `Names` and `Follows`.
-- `Starts` takes the first token of a value from the text, `Names` a member's name and colon, and `Follows` the
-- closing bracket of a container or the comma before its next child. The last argument of each is the text after that.
use Rattle.std.specs.Prelude.{◌≡◌, ℕ, Bool, true, false, List, Option, Some, None}
use Rattle.miniserde_model.specs.Tree.{Tree, null, truth, nonneg, neg, num, str, list, members, Trees, no_trees}
use Rattle.miniserde_model.specs.Tree.{tree, Members, no_members, member}
use Rattle.miniserde_model.specs.Step.{Step, boolean, string, negative, nonnegative, float, seq, map}
use Rattle.miniserde_model.specs.Step as step
use Rattle.miniserde_model.specs.Lexing.{Starts, Names, Follows}
use Rattle.miniserde_model.specs.declared.kind.Kind.TheVariants.{Seq, Map}

-- The text s goes on with an element, after a comma unless `first` is true. V relates the element's
-- first event, the text behind its first token, and the text `rest` behind the element; K holds of
-- `rest`.
pub record OneElement (V : Step → List ℕ → List ℕ → Type 0) (K : List ℕ → Type 0) (first : Bool) (s : List ℕ) : Type 0 where
  pub begin : List ℕ
  pub event : Step
  pub behind : List ℕ
  pub rest : List ℕ
  pub follows : Follows Seq first false s begin
  pub starts : Starts begin event behind
  pub is_value : V event behind rest
  pub is_rest : K rest

-- The text s goes on with a member of the name, after a comma unless `first` is true. V relates the
-- first event of the member's value, the text behind the value's first token, and the text `rest`
-- behind the value; K holds of `rest`.
pub record OneMember (name : List ℕ) (V : Step → List ℕ → List ℕ → Type 0) (K : List ℕ → Type 0) (first : Bool)
    (s : List ℕ) : Type 0 where
  pub begin : List ℕ
  pub named : List ℕ
  pub event : Step
  pub behind : List ℕ
  pub rest : List ℕ
  pub follows : Follows Map first false s begin
  pub names : Names begin name named
  pub starts : Starts named event behind
  pub is_value : V event behind rest
  pub is_rest : K rest

abbrev mutual
  -- the event e, which is the first one of a value, and the text from s to r spell the tree
  pub ValueAt : Tree → Step → List ℕ → List ℕ → Type 0
  ValueAt null e s r = (e ≡ step.null) × (r ≡ s)
  ValueAt (truth x) e s r = (e ≡ boolean x) × (r ≡ s)
  ValueAt (nonneg n) e s r = (e ≡ nonnegative n) × (r ≡ s)
  ValueAt (neg n) e s r = (e ≡ negative n) × (r ≡ s)
  ValueAt (num x) e s r = (e ≡ float x) × (r ≡ s)
  ValueAt (str x) e s r = (e ≡ string x) × (r ≡ s)
  ValueAt (list ts) e s r = (e ≡ seq) × ElementsAt ts true s r
  ValueAt (members ms) e s r = (e ≡ map) × MembersAt ms true s r

  -- from s to r stand elements that spell the trees, and the closing bracket; `first` says that the opening bracket
  -- was just taken
  pub ElementsAt : Trees → Bool → List ℕ → List ℕ → Type 0
  ElementsAt no_trees first s r = Follows Seq first true s r
  ElementsAt (tree t ts) first s r = OneElement (ValueAt t) (λ rest. ElementsAt ts false rest r) first s

  -- from s to r stand texts that spell the members, and the closing bracket; `first` says that the opening bracket
  -- was just taken
  pub MembersAt : Members → Bool → List ℕ → List ℕ → Type 0
  MembersAt no_members first s r = Follows Map first true s r
  MembersAt (member name t ms) first s r = OneMember name (ValueAt t) (λ rest. MembersAt ms false rest r) first s

-- ---- the content of a value, by its first event and the text after that

-- the event e and the text from s to r spell a tree for which `of` returns the content c
abbrev pub GivesAt : {C : Type 0} → (Tree → Option C) → Step → List ℕ → List ℕ → C → Type 0
GivesAt of e s r c = (t : Tree) × ValueAt t e s r × (of t ≡ Some c)

-- `of` returns no content for any tree that the event e and a prefix of the text s spell
abbrev pub GivesNoneAt : {C : Type 0} → (Tree → Option C) → Step → List ℕ → Type 0
GivesNoneAt of e s = (t : Tree) (r : List ℕ) → ValueAt t e s r → of t ≡ None
