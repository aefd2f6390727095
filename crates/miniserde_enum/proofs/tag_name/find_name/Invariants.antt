-- The names that are left have the name as all of them do.
use Rattle.std.proofs.Common.{◌≡◌, drop, map}
use Rattle.miniserde_enum.specs.TagName.{name_among}
use Rattle.miniserde_enum.proofs.tag_name.find_name.Given as goal

abbrev pub invariant-loop-name_among : goal.invariant-loop-name_among
invariant-loop-name_among l = name_among (map (λ n. n.now) (drop l.name_among-index l.fn.names)) l.fn.name
    ≡ name_among (map (λ n. n.now) l.fn.names) l.fn.name
