-- The name is one of the names that are left exactly if it is one of all.
use Rattle.std.proofs.Common.{◌≡◌, drop, map}
use Rattle.miniserde_record.specs.Marks.{is_among}
use Rattle.miniserde_more.proofs.rest.taken.is_one_of.Given as goal

abbrev pub invariant-loop-field : goal.invariant-loop-field
invariant-loop-field l = is_among (map (λ n. n.now) (drop l.field-index l.fn.names)) l.fn.name
    ≡ is_among (map (λ n. n.now) l.fn.names) l.fn.name
