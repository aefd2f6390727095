-- The loop keeps that each item before the current index is valid.
use Rattle.std.proofs.Common.{take}
use Rattle.std.specs.List.{AllByRecursion}
use Rattle.miniserde_keys.proofs.ranged.ranged_all.Given as goal

abbrev pub invariant-loop-item : goal.invariant-loop-item
invariant-loop-item g l = AllByRecursion g.T.Ranged.valid (take l.item-index l.items)
