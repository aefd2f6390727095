-- The loop keeps that the dropped values and the sizes of `current` and `hand` add up to the size of the value, and
-- that the looks done and left add up to the looks for it. Each turn leaves fewer looks.
use Rattle.std.proofs.Common.{◌≡◌, ◌+◌, suc}
use Rattle.miniserde_value.specs.Looks.{value_size}
use Rattle.miniserde_value.proofs.Costs.{cost, looks_left}
use Rattle.miniserde_value.proofs.json.drop.counted.Given as goal

abbrev pub invariant-loop-hand : goal.invariant-loop-hand
invariant-loop-hand l = record {
  released : l.looks.released + (value_size l.current + value_size l.hand) ≡ l.fn.looks.released + value_size l.fn.value;
  visited : l.looks.visited + looks_left l.current l.hand ≡ l.fn.looks.visited + suc (cost l.fn.value).alone;
}

abbrev pub decreases-loop-hand : goal.decreases-loop-hand
decreases-loop-hand l = looks_left l.current l.hand
