-- The aliases that are left give the name as all of them do.
use Rattle.std.proofs.Common.{◌≡◌, drop, map}
use Rattle.miniserde_record.specs.Aliases.{field_name_of}
use Rattle.miniserde_record.proofs.record.aliases.field_name.Given as goal

abbrev pub invariant-loop-alias : goal.invariant-loop-alias
invariant-loop-alias l = field_name_of (map (λ p. (p.0.now, p.1.now)) (drop l.alias-index l.fn.aliases)) l.fn.name
    ≡ field_name_of (map (λ p. (p.0.now, p.1.now)) l.fn.aliases) l.fn.name
