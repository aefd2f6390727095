-- Laws of the definitions. Each law is the contract of a function of this crate.
use Rattle.std.specs.Prelude.{◌≡◌, ◌≤◌, ◌↔◌, true, List, ◌++◌, ℕ, [], length, option_map, IsUtf8}
use Rattle.miniserde_model.specs.Tree.{Tree, Members, no_members}
use Rattle.miniserde_model.specs.Value.{IsValue, IsJson}
use Rattle.miniserde_model.specs.InRange.{InRange}
use Rattle.miniserde_model.specs.Step.{Step, events}
use Rattle.miniserde_model.specs.Position.{Position, start, Completes}
use Rattle.miniserde_model.specs.Compact.{compact}
use Rattle.miniserde_model.specs.Distinct.{names_distinct}
use Rattle.miniserde_model.specs.Normal.{norm, norm_members, last_of, Rise, put_all}
use Rattle.miniserde_model.specs.Size.{size}

-- a text spells at most one tree
abbrev pub TextHasOneTree : Type 0
TextHasOneTree = (b : List ℕ) (t u : Tree) → IsJson b t → IsJson b u → t ≡ u

-- each tree that a text spells is in range
abbrev pub JsonInRange : Type 0
JsonInRange = (b : List ℕ) (t : Tree) → IsJson b t → InRange t

-- a text that spells a tree is UTF-8
abbrev pub JsonIsUtf8 : Type 0
JsonIsUtf8 = (b : List ℕ) (t : Tree) → IsJson b t → IsUtf8 b

-- the compact text of a tree in range spells the tree
abbrev pub CompactSpells : Type 0
CompactSpells = (t : Tree) → InRange t → IsJson (compact t) t

-- the compact text of a tree in range spells it without whitespace around it, and so may stand inside a text
abbrev pub CompactIsValue : Type 0
CompactIsValue = (t : Tree) → InRange t → IsValue t (compact t)

-- the normal form of a tree is its own normal form
abbrev pub NormIsNormal : Type 0
NormIsNormal = (t : Tree) → norm (norm t) ≡ norm t

-- the normal form of a tree in range is in range
abbrev pub NormInRange : Type 0
NormInRange = (t : Tree) → InRange t → InRange (norm t)

-- in the normal form of members, each name has the normal form of its last tree, or no tree if it had none
abbrev pub NormKeepsLast : Type 0
NormKeepsLast = (q : List ℕ) (ms : Members) → last_of q (norm_members ms) ≡ option_map norm (last_of q ms)

-- in the normal form of members, the names strictly rise by their bytes
abbrev pub NormRises : Type 0
NormRises = (ms : Members) → Rise (norm_members ms)

-- members ns whose names rise are the normal form of ms if each name has in ns the normal form of its last tree in ms
abbrev pub NormIsOnly : Type 0
NormIsOnly = (ms ns : Members) → Rise ns → ((q : List ℕ) → last_of q ns ≡ option_map norm (last_of q ms)) → ns ≡ norm_members ms

-- members put in one by one, each with the normal form of its tree and replacing an earlier one of its name, give the
-- normal form of the members
abbrev pub PutGivesNorm : Type 0
PutGivesNorm = (ms : Members) → put_all no_members ms ≡ norm_members ms

-- the normal form of a tree has no duplicate name
abbrev pub NormIsDistinct : Type 0
NormIsDistinct = (t : Tree) → names_distinct (norm t) ≡ true

-- the normal form of a tree without duplicate names has as many values as the tree
abbrev pub DistinctKeepsSize : Type 0
DistinctKeepsSize = (t : Tree) → names_distinct t ≡ true → size (norm t) ≡ size t

-- two texts that spell trees have equal canonical texts exactly if their trees have the same normal form
abbrev pub CanonicalTextsEqual : Type 0
CanonicalTextsEqual = (a b : List ℕ) (t u : Tree) → IsJson a t → IsJson b u → (compact (norm t) ≡ compact (norm u)) ↔ (norm t ≡ norm u)

-- no text that spells a tree with the normal form of t is shorter than the canonical text of t
abbrev pub CanonicalIsShortest : Type 0
CanonicalIsShortest = (b : List ℕ) (t u : Tree) → IsJson b u → norm u ≡ norm t → length (compact (norm t)) ≤ length b

-- the events of a tree complete a value
abbrev pub EventsComplete : Type 0
EventsComplete = (t : Tree) → Completes start (events t)

-- of two lists of events that complete the same position, none is a proper prefix of the other
abbrev pub CompletionsArePrefixFree : Type 0
CompletionsArePrefixFree = (es rest : List Step) (p : Position) → Completes p es → Completes p (es ++ rest) → rest ≡ []
