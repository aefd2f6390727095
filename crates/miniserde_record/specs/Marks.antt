-- The names that the members of a `closed` struct may have.
use Rattle.std.specs.Prelude.{◌&&◌, ◌||◌, Bool, true, false, List, [], ◌∷◌, bytes_eq}
use Rattle.miniserde_model.specs.Tree.{Members, no_members, member}
use Rattle.miniserde_read.specs.types.Objects.{Name}

-- whether there is no member
abbrev pub has_no_members : Members → Bool
has_no_members no_members = true
has_no_members (member k t ms) = false

-- whether k is one of the names
abbrev pub is_among : List Name → Name → Bool
is_among [] k = false
is_among (n ∷ ns) k = bytes_eq k n || is_among ns k

-- whether the name of each member is one of the names
abbrev pub all_among : List Name → Members → Bool
all_among ns no_members = true
all_among ns (member k t ms) = is_among ns k && all_among ns ms
