-- `insert` at the first key replaces the first value and keeps the others (`replaced`).
use Rattle.std.proofs.Common.{rules}
use Rattle.std.specs.String.{string_cmp_total}
use Rattle.miniserde_value.proofs.Replaced.{replaced}
use Rattle.miniserde_value.proofs.json.object.Object.replace_first.Goals as goal

pub returns-clause-replaced : goal.returns-clause-replaced
returns-clause-replaced c = replaced _ string_cmp_total _ _ c.in-Some.ensures.key (search rules) (search rules)
