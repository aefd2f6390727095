-- Stable fields: the normal form of members gives the content that the members give.
use Rattle.std.specs.Prelude.{◌≡◌, List, Option, Some}
use Rattle.miniserde_model.specs.Tree.{Members}
use Rattle.miniserde_model.specs.Normal.{norm_members}
use Rattle.miniserde_read.specs.types.Objects.{Name}

-- for any names of the fields and any state before the members (what the fields have so far): if
-- `from_members` returns a content for some members, it returns it for their normal form too
abbrev pub AreStable : {S D : Type 0} → (List Name → S → Members → Option D) → Type 0
AreStable {S} {D} from_members = (names : List Name) (s : S) (ms : Members) (d : D)
    → from_members names s ms ≡ Some d → from_members names s (norm_members ms) ≡ Some d
