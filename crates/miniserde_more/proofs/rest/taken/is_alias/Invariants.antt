-- The name is one of the aliases that are left exactly if it is one of all.
use Rattle.std.proofs.Common.{◌≡◌, drop, map}
use Rattle.miniserde_record.specs.Marks.{is_among}
use Rattle.miniserde_more.specs.Rest.{alias_names}
use Rattle.miniserde_more.proofs.rest.taken.is_alias.Given as goal

abbrev pub invariant-loop-alias : goal.invariant-loop-alias
invariant-loop-alias l = is_among (alias_names (map (λ p. (p.0.now, p.1.now)) (drop l.alias-index l.fn.aliases))) l.fn.name
    ≡ is_among (alias_names (map (λ p. (p.0.now, p.1.now)) l.fn.aliases)) l.fn.name
