-- A tree with a duplicate name.
use Rattle.std.specs.Prelude.{[], codes}
use Rattle.miniserde.specs.Tree.{Tree, nonneg, str, members, member, no_members}

-- the tree of `{"code":1,"code":2,"message":""}`
abbrev pub duplicate : Tree
duplicate = members (member (codes "code") (nonneg 1) (member (codes "code") (nonneg 2) (member (codes "message") (str []) no_members)))
