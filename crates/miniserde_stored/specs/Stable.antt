-- Stable types: if a tree gives a content, its normal form gives the same content.
use Rattle.std.specs.Prelude.{◌≡◌, Option, Some}
use Rattle.miniserde_model.specs.Tree.{Tree}
use Rattle.miniserde_model.specs.Normal.{norm}

-- if `from_tree` returns a content for a tree, it returns the same one for the normal form of the
-- tree
abbrev pub IsStable : {C : Type 0} → (Tree → Option C) → Type 0
IsStable {C} from_tree = (t : Tree) (c : C) → from_tree t ≡ Some c → from_tree (norm t) ≡ Some c
