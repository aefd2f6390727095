-- Whether one of the values so far is met.
use Rattle.std.proofs.Common.{◌≡◌, map}
use Rattle.store.specs.Conditions.{is_any_met}
use Rattle.store.proofs.conditions.is_any_met.Given as goal

abbrev pub invariant-loop-value : goal.invariant-loop-value
invariant-loop-value l = l.found ≡ is_any_met l.tag l.weak (map (λ v. v.bytes) (map (λ v. v.now) l.yielded))
