-- Trees that are lists, and trees that are objects.
use Rattle.std.specs.Prelude.{Option, Some, None}
use Rattle.miniserde_model.specs.Tree.{Tree, list, members}

-- the tree, if there is one and it is a list
abbrev pub only_list : Option Tree → Option Tree
only_list (Some (list ts)) = Some (list ts)
only_list _ = None

-- the tree, if there is one and it is an object
abbrev pub only_members : Option Tree → Option Tree
only_members (Some (members ms)) = Some (members ms)
only_members _ = None
