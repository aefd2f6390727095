-- What a text that was stored says of the value that is read from it.
use Rattle.std.specs.Prelude.{◌≡◌, ℕ, List}
use Rattle.miniserde.specs.Tree.{Tree}
use Rattle.miniserde.specs.Value.{IsJson}
use Rattle.miniserde.specs.Compact.{compact}
use Rattle.miniserde.specs.Normal.{norm}
use Rattle.miniserde.specs.Meaning.{Meaning}

-- the canonical text of a tree
abbrev pub canonical_text : Tree → List ℕ
canonical_text t = compact (norm t)

-- The text spells a tree that means the value that was read. If the text is the canonical text of a valid value, the two
-- have the same content.
pub record IsReadFrom {T : Type 0} (means : Meaning T) (tree : T → Tree) (valid : T → Type 0) (text : List ℕ) (read : T) : Type 0 where
  pub meant : (t : Tree) × IsJson text t × means.reads t read
  pub same : (v : T) → valid v → IsJson text (norm (tree v)) → means.content read ≡ means.content v
