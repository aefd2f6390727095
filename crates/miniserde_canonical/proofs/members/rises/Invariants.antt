-- The names of the members before the index i rise.
use Rattle.std.proofs.Common.{◌≡◌, ℕ, ◌<◌, ◌+◌, Less, get_or}
use Rattle.miniserde_model.specs.Normal.{text_cmp}
use Rattle.miniserde_canonical.specs.declared.member.Member.{Member}
use Rattle.miniserde_canonical.specs.private.MemberNames.{name_of}
use Rattle.miniserde_canonical.proofs.members.rises.Given as goal

abbrev pub invariant-loop-i : goal.invariant-loop-i
invariant-loop-i l = (k : ℕ) (d : Member) → k + 1 < l.i
    → text_cmp (name_of (get_or l.members k d).name) (name_of (get_or l.members (k + 1) d).name) ≡ Less
