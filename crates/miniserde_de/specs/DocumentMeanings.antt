-- The meaning of arrays, objects and documents that are read from events by one place.
use Rattle.std.specs.Prelude.{◌≡◌, Bool, true, false, List, [], ◌∷◌, Option, None, if◌then◌else◌}
use Rattle.miniserde_model.specs.Tree.{Tree}
use Rattle.miniserde_model.specs.Step.{Step, events}
use Rattle.miniserde_read.specs.Meaning.{Meaning}
use Rattle.miniserde_value.specs.Hole.{Hole, outside, in_list, in_members, outcome}

-- whether no event was taken: the flag says that a value is due, and the hole has no open container
abbrev pub is_start : Bool → Hole → Bool
is_start true (outside ts) = true
is_start true (in_list ts h) = false
is_start true (in_members ms n h) = false
is_start false h = false

-- the outcome o, if `begins` holds for the first of the events or there is no event; else nothing
abbrev pub accepted_outcome : (Step → Bool) → List Step → Option Tree → Option Tree
accepted_outcome begins [] o = o
accepted_outcome begins (e ∷ es) o = if begins e then o else None

-- The tree that the events to come give from the hole h on, where `due` says whether a value is due. If no event was
-- taken before, `begins` must hold for the first of them. A duplicate name is no error (the flag `false` of `outcome`).
abbrev pub document_outcome : (Step → Bool) → Bool → Hole → List Step → Option Tree
document_outcome begins due h es = if is_start due h then accepted_outcome begins es (outcome false due h es) else outcome false due h es

-- the meaning of a type V of documents (`Array`, `Object` or `Document`) that the place of a
-- `Value` builds
pub record DocumentMeaning (V : Type 0) : Type 1 where
  -- the meaning of the type by trees
  pub by_trees : Meaning V
  -- whether the type allows the event as the first; if not, no document of the type begins with it
  pub begins : Step → Bool
  -- the content of the document that is built from a tree, if there is a tree and the document is of the type
  pub only : Option Tree → Option by_trees.Content
  -- without a tree there is no content
  pub none : only None ≡ None
  -- the events of a tree give what the tree gives
  pub events_agree : (t : Tree) → only (document_outcome begins true (outside []) (events t)) ≡ by_trees.from_tree t
