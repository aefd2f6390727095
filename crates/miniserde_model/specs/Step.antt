-- The events of a tree, in the order in which its text spells them (RFC 8259, section 3).
use Rattle.std.specs.Prelude.{ℕ, ℤ, Bool, List, [], ◌∷◌, ◌++◌, ◌≡◌, refl}
use Rattle.miniserde_model.specs.Tree.{Tree, truth, nonneg, neg, num, str, list, members, Trees, no_trees, tree}
use Rattle.miniserde_model.specs.Tree.{Members, no_members, member}
use Rattle.miniserde_model.specs.Tree as trees

-- an event: a whole leaf, an opening or a closing bracket, a member's name, or the beginning of an element
pub data Step : Type 0 where
  null : Step
  boolean : Bool → Step
  string : List ℕ → Step
  -- an integer in range that is written with a minus
  negative : ℤ → Step
  -- an integer in range that is written without a minus
  nonnegative : ℕ → Step
  -- any other number, as its text
  float : List ℕ → Step
  -- an array opens
  seq : Step
  -- an element of the innermost array begins
  element : Step
  -- an object opens
  map : Step
  -- a member of the innermost object begins with its name
  key : List ℕ → Step
  -- the innermost container closes
  finish : Step

abbrev mutual
  -- the events of a tree
  pub events : Tree → List Step
  events trees.null = null ∷ []
  events (truth x) = boolean x ∷ []
  events (nonneg n) = nonnegative n ∷ []
  events (neg n) = negative n ∷ []
  events (num x) = float x ∷ []
  events (str s) = string s ∷ []
  events (list ts) = seq ∷ (child_events ts ++ finish ∷ [])
  events (members ms) = map ∷ (member_events ms ++ finish ∷ [])

  -- the events of a list's children in order, with `element` before each
  pub child_events : Trees → List Step
  child_events no_trees = []
  child_events (tree t ts) = element ∷ (events t ++ child_events ts)

  -- the events of an object's members in order, with the name before each
  pub member_events : Members → List Step
  member_events no_members = []
  member_events (member name t ms) = key name ∷ (events t ++ member_events ms)

-- Worked cases: the events of `[null,{}]`, and a list of events that `[]` does not have, since it contains a name.
pub events_of_a_list : events (list (tree trees.null (tree (members no_members) no_trees))) ≡ seq ∷ element ∷ null ∷
    element ∷ map ∷ finish ∷ finish ∷ []
events_of_a_list = refl

pub no_name_in_a_list : events (list no_trees) ≡ seq ∷ key [] ∷ finish ∷ [] → ⊥
no_name_in_a_list e = cc
