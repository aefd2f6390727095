-- The meaning of a type: which trees mean which of its values.
use Rattle.std.specs.Prelude.{◌≡◌, ◌↔◌, Option, Some}
use Rattle.miniserde_model.specs.Tree.{Tree}

-- the meaning of the type V: which trees mean which values
pub record Meaning (V : Type 0) : Type 1 where
  -- the content of a value, and the type of that content; two values are equal here if their contents are
  pub Content : Type 0
  pub content : V → Content
  -- the content that a tree gives, if it gives any
  pub from_tree : Tree → Option Content
  -- the tree means the value
  pub reads : Tree → V → Type 0
  -- a tree means a value exactly if it gives the value's content
  pub reads_agrees : (t : Tree) (v : V) → reads t v ↔ (from_tree t ≡ Some (content v))

-- the meaning whose fields are the arguments, with C as the type of the content
abbrev pub meaning_with : {V C : Type 0} (content : V → C) (from_tree : Tree → Option C) (reads : Tree → V → Type 0)
    → ((t : Tree) (v : V) → reads t v ↔ (from_tree t ≡ Some (content v))) → Meaning V
meaning_with {V} {C} content from_tree reads agrees =
    record { Content = C; content = content; from_tree = from_tree; reads = reads; reads_agrees = agrees }
