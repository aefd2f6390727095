-- The old order that was read has what the new one has.
use Rattle.std.proofs.Common.{Err, ap, inr, refl}
use Rattle.examples.proofs.versions.load_order.Goals as goal

pub returns-in_ok-id-in-Err-Invalid-clause-ok : goal.returns-in_ok-id-in-Err-Invalid-clause-ok
returns-in_ok-id-in-Err-Invalid-clause-ok c =
    let r = c.in_ok-id-in-Err-Invalid.ensures.ok in (
      r.0,
      r.1,
      inr (
        c.in-Err-Invalid.ensures.invalid (ap Err c.in-Err-Invalid.field-0-is) r.0 r.1,
        c.in_ok-id-in-Err-Invalid.field-0,
        r.2,
        (cc, cc, cc, refl),
      ),
    )
