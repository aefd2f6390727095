-- The loop keeps that the key and the value of each entry that the iterator has yielded are valid.
use Rattle.std.proofs.Common.{map}
use Rattle.std.specs.List.{AllByRecursion}
use Rattle.std.specs.Map.Iter.{deref_pair}
use Rattle.miniserde_keys.proofs.ranged.BTreeMapRanged.ranged.Given as goal

abbrev pub invariant-loop-key : goal.invariant-loop-key
invariant-loop-key g l = AllByRecursion (λ e. g.K.Ranged.valid e.0 × g.V.Ranged.valid e.1) (map deref_pair l.yielded)
