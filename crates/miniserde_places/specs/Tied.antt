-- The meaning of a place's type, without the place's events, and when two meanings agree.
use Rattle.std.specs.Prelude.{◌≡◌, ◌↔◌, is_some}
use Rattle.miniserde_model.specs.Tree.{Tree}
use Rattle.miniserde_place.specs.Place.{PlaceMeaning}
use Rattle.miniserde_read.specs.Meaning.{Meaning}

-- the meaning of a place's type: which trees mean which values, without events and without the view
abbrev pub type_meaning : {P V : Type 0} → PlaceMeaning P V → Meaning V
type_meaning m = record {
  Content = m.Content;
  content = m.content;
  from_tree = m.from_tree;
  reads = m.reads;
  reads_agrees = m.reads_agrees;
}

-- By the meanings m and n the same trees mean the same values, and the same trees give content.
-- (That m is equal to n would be a statement of Type 1, which no clause can be.)
pub record Agree {V : Type 0} (m n : Meaning V) : Type 0 where
  pub same : (t : Tree) (v : V) → m.reads t v ↔ n.reads t v
  pub some : (t : Tree) → is_some (m.from_tree t) ≡ is_some (n.from_tree t)
