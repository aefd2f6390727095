-- Trees that are objects.
use Rattle.std.specs.Prelude.{⊤}
use Rattle.miniserde_model.specs.Tree.{Tree, members}

-- the tree is an object
abbrev pub IsObject : Tree → Type 0
IsObject (members ms) = ⊤
IsObject _ = ⊥
