-- The loop keeps that each item that the iterator of the `VecDeque` has yielded is valid.
use Rattle.std.proofs.Common.{map}
use Rattle.std.specs.List.{AllByRecursion}
use Rattle.miniserde_keys.proofs.ranged.VecDequeRanged.ranged.Given as goal

abbrev pub invariant-loop-item : goal.invariant-loop-item
invariant-loop-item g l = AllByRecursion g.T.Ranged.valid (map (λ x. x.now) l.yielded)
