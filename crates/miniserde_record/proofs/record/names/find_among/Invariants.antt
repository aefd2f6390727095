-- The values that are left have the name as all of them do.
use Rattle.std.proofs.Common.{◌≡◌, drop}
use Rattle.miniserde_record.specs.Names.{find_variant}
use Rattle.miniserde_record.proofs.record.names.find_among.Given as goal

abbrev pub invariant-loop-value : goal.invariant-loop-value
invariant-loop-value g l = find_variant g.T.UnitEnum.name_of (drop l.value-index l.fn.values) l.fn.name
    ≡ find_variant g.T.UnitEnum.name_of l.fn.values l.fn.name
