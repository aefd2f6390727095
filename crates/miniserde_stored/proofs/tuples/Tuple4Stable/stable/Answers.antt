-- A tuple is stable if each of its four items is: `stable-item` for each, and `stable-none` at the end.
use Rattle.miniserde_stored.proofs.Types.{stable-none, stable-item, stable-tuple}
use Rattle.miniserde_stored.proofs.tuples.Tuple4Stable.stable.Goals as goal

pub returns : goal.returns
returns g c = stable-tuple _
    (stable-item _ _ c.stable.ensures
    (stable-item _ _ c.stable-2.ensures
    (stable-item _ _ c.stable-3.ensures (stable-item _ _ c.stable-4.ensures stable-none))))
