-- Whether one of the values so far is `*`.
use Rattle.std.proofs.Common.{◌≡◌, map}
use Rattle.store.specs.Conditions.{has_any}
use Rattle.store.proofs.conditions.has_any.Given as goal

abbrev pub invariant-loop-value : goal.invariant-loop-value
invariant-loop-value l = l.found ≡ has_any (map (λ v. v.bytes) (map (λ v. v.now) l.yielded))
