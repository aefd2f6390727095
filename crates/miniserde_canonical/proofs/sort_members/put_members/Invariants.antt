-- The groups have the first k members of the order, without repeats (`PutsSoFar`); `number` counts them, so it
-- is at most k.
use Rattle.std.proofs.Common.{◌≤◌}
use Rattle.miniserde_canonical.proofs.SortMembers.{PutsSoFar}
use Rattle.miniserde_canonical.proofs.sort_members.put_members.Given as goal

abbrev pub invariant-loop-k : goal.invariant-loop-k
invariant-loop-k l = record {
  few : l.number ≤ l.k;
  so_far : PutsSoFar l.members l.order l.out l.fn.groups l.groups l.k l.number;
}
