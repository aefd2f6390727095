-- Whether the tag stands at one of the indices so far.
use Rattle.std.proofs.Common.{◌≡◌}
use Rattle.store.specs.Conditions.{lists_below}
use Rattle.store.proofs.conditions.lists.Given as goal

abbrev pub invariant-loop-i : goal.invariant-loop-i
invariant-loop-i l = l.found ≡ lists_below l.value l.tag l.weak l.i
