-- The contract promises nothing, so the loop keeps nothing. Each turn takes one visit.
use Rattle.std.proofs.Common.{length}
use Rattle.std.specs.Bool.{⊤}
use Rattle.miniserde_value.specs.Walks.{left}
use Rattle.miniserde_value.proofs.json.show.show_all.Given as goal

abbrev pub invariant-loop-walk : goal.invariant-loop-walk
invariant-loop-walk g l = ⊤

abbrev pub decreases-loop-walk : goal.decreases-loop-walk
decreases-loop-walk g l = length (left l.walk)
