-- A span is written up to its first splice.
use Rattle.std.proofs.Common.{◌<◌, length, refl, sym, subst, arith}
use Rattle.miniserde_canonical.proofs.FillSplices.{first_in, appends_part, span_splice, span_plain, less_splice}
use Rattle.miniserde_canonical.proofs.groups.put_span.Goals as goal
use Rattle.miniserde_canonical.proofs.groups.put_span.Goals.{else-next-span-via-then-next-span+else-next-splices}
use Rattle.miniserde_canonical.proofs.groups.put_span.Goals.{else-next-span-via-else-next-span}

pub returns-in_ok-push-2-clause-ok : goal.returns-in_ok-push-2-clause-ok
returns-in_ok-push-2-clause-ok c =
    span_splice c.args.groups.now c.args.later.now.items
    (first_in {p = c.args.span} c.as_slice-splices.ensures.value
    (record {
      inside = c.if-next-span.true;
      stands = record { below = c.if-next-splices.true; otherwise = _; is = refl };
    }))
    (appends_part _ _ c.as_slice.ensures.value c.part.ensures c.in_ok-extend_from_slice.ensures.items)
    c.in_ok-push.ensures.items c.in_ok-push-2.ensures.items

pub returns-in_ok-push-2-clause-less : goal.returns-in_ok-push-2-clause-less
returns-in_ok-push-2-clause-less c =
    less_splice c.args.later.now.items
    (first_in {p = c.args.span} c.as_slice-splices.ensures.value
    (record {
      inside = c.if-next-span.true;
      stands = record { below = c.if-next-splices.true; otherwise = _; is = refl };
    }))
    c.in_ok-push.ensures.items c.in_ok-push-2.ensures.items

pub returns-in_ok-extend_from_slice-2-clause-ok : goal.returns-in_ok-extend_from_slice-2-clause-ok
returns-in_ok-extend_from_slice-2-clause-ok c =
    let within = subst (λ z. c.args.span.from.splices < length z) (sym c.as_slice-splices.ensures.value) in
    span_plain c.args.groups.now c.args.span c.args.later.now.items
    (λ l h. elim c.else-next-span.branch [
      | else-next-span-via-then-next-span+else-next-splices w ↦ absurd (omega (arith, within h, w.if-next-splices.false))
      | else-next-span-via-else-next-span w ↦ absurd (omega (arith, l, w.if-next-span.false))
    ])
    (appends_part c.args.span.from.bytes c.args.span.to.bytes c.as_slice-else-next-span.ensures.value
    c.part-else-next-span.ensures c.in_ok-extend_from_slice-2.ensures.items)
