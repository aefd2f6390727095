-- Stable variants: the normal form of a variant's data gives the content that the data give.
use Rattle.std.specs.Prelude.{◌≡◌, List, Option, Some, option_map}
use Rattle.miniserde_model.specs.Tree.{Tree}
use Rattle.miniserde_model.specs.Normal.{norm}
use Rattle.miniserde_read.specs.types.Objects.{Name}

-- if `content_by_name` returns a content for some names of variants, a name and data, then it returns the
-- same content for the normal form of the data
abbrev pub CasesStable : {C : Type 0} → (List Name → Name → Option Tree → Option C) → Type 0
CasesStable {C} content_by_name = (names : List Name) (n : Name) (o : Option Tree) (c : C)
    → content_by_name names n o ≡ Some c → content_by_name names n (option_map norm o) ≡ Some c
