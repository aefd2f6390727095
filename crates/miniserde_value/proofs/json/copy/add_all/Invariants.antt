-- The loop keeps the hole after all tokens that are left, and that the names of the whole walk are in order if those
-- of the tokens left are. Each turn takes one visit.
use Rattle.std.proofs.Common.{◌≡◌, length}
use Rattle.miniserde_value.specs.Builders.{hole_in}
use Rattle.miniserde_value.specs.Tokens.{hole_after}
use Rattle.miniserde_value.specs.Walks.{left, NamesToComeRise}
use Rattle.miniserde_value.proofs.json.copy.add_all.Given as goal

abbrev pub invariant-loop-walk : goal.invariant-loop-walk
invariant-loop-walk l = record {
  same : hole_after (hole_in l.builder) (left l.walk) ≡ hole_after (hole_in l.fn.builder) (left l.fn.walk);
  ordered : NamesToComeRise l.walk → NamesToComeRise l.fn.walk;
}

abbrev pub decreases-loop-walk : goal.decreases-loop-walk
decreases-loop-walk l = length (left l.walk)
