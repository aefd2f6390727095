-- The output with the texts of the waiting spans is the old output with the text of the group. The loop ends since
-- the measure of the waiting spans falls (`spans_measure`).
use Rattle.std.proofs.Common.{◌≡◌, ◌++◌, List, ℕ}
use Rattle.miniserde_canonical.specs.private.WaitingSpans.{SpanHolds, SpansHold, spans_measure}
use Rattle.miniserde_canonical.proofs.groups.put_group.Given as goal

abbrev pub invariant-loop-span : goal.invariant-loop-span
invariant-loop-span l = (x : List ℕ) → SpanHolds l.groups l.fn.group x
    → (z : List ℕ) × SpansHold l.groups l.later.items z
    × (l.out.items ++ z ≡ l.fn.out.items ++ x)

abbrev pub decreases-loop-span : goal.decreases-loop-span
decreases-loop-span l = spans_measure l.later.items
