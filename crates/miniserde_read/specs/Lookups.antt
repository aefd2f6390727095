-- The tree of an object's last member of a name or of a key, to specify std's `get`.
use Rattle.std.specs.Prelude.{◌≡◌, Option, Some, None, option_map, MatchOption}
use Rattle.miniserde_model.specs.Tree.{Tree, members}
use Rattle.miniserde_model.specs.Normal.{last_of}
use Rattle.miniserde_keys.specs.Keys.{Key}
use Rattle.miniserde_read.specs.types.Objects.{Name}
use Rattle.miniserde_read.specs.types.Maps.{first_and_last_at}

-- the tree of the last member of the name, if the second argument is an object that has one
abbrev pub last_in : Name → Tree → Option Tree
last_in name (members ms) = last_of name ms
last_in name _ = None

-- the tree of the last member whose key has the code q, if the tree is an object that has such a member; `read`
-- returns the content of the key that a name is read as, and `code` the code for that content
abbrev pub last_at : (Name → Option Key) → (Key → Key) → Key → Tree → Option Tree
last_at read code q (members ms) = option_map (λ e. e.1) (first_and_last_at read code q ms)
last_at read code q _ = None

-- there is a value exactly if there is a tree, and the tree means the value by `reads`
abbrev pub IsValueOf : {V : Type 0} → (Tree → V → Type 0) → Option Tree → Option V → Type 0
IsValueOf reads tree value = MatchOption value (tree ≡ None) (λ v. (t : Tree) × (tree ≡ Some t) × reads t v)
