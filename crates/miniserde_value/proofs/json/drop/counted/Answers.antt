-- `counted` drops every value of a document, with at least as many looks as values and at most twice as many. The
-- invariant counts the values dropped and left and the looks done and left, and each turn is a lemma of `DropLooks.antt`.
use Rattle.std.proofs.Common.{refl, arith}
use Rattle.miniserde_value.proofs.Costs.{between}
use Rattle.miniserde_value.proofs.DropLooks.{bare_size, taken_size, taken_looks, parked_size, looks_next, looks_over}
use Rattle.miniserde_value.proofs.DropLooks.{looks_replaced, looks_end, false_true}
use Rattle.miniserde_value.proofs.json.drop.counted.Goals as goal

pub returns-in-None-clause-released : goal.returns-in-None-clause-released
returns-in-None-clause-released c = omega (arith, bare_size _ c.in-None.ensures.taken.0, c.in-None.ensures.visited)

pub returns-in-None-clause-at_least : goal.returns-in-None-clause-at_least
returns-in-None-clause-at_least c = omega (arith, bare_size _ c.in-None.ensures.taken.0, c.in-None.ensures.visited)

pub returns-in-None-clause-at_most : goal.returns-in-None-clause-at_most
returns-in-None-clause-at_most c = omega (arith, bare_size _ c.in-None.ensures.taken.0, c.in-None.ensures.visited)

pub loop-hand-init : goal.loop-hand-init
loop-hand-init c =
    let s = taken_size _ _ _ c.in-Some.ensures.taken in
    let l = taken_looks _ _ _ c.in-Some.ensures.taken in
    record { released = omega (arith, s, c.in-Some.ensures.released); visited = omega (arith, l, c.in-Some.ensures.visited) }

pub returns-in-None-take_last-clause-released : goal.returns-in-None-take_last-clause-released
returns-in-None-take_last-clause-released c =
    omega (arith, bare_size _ c.in-None-take_last.ensures.taken.0, bare_size _ (c.if-is_bare.ensures.0 refl))

pub returns-in-None-take_last-clause-at_least : goal.returns-in-None-take_last-clause-at_least
returns-in-None-take_last-clause-at_least c =
    omega (
      arith,
      (between c.args.value).0,
      looks_end _ _ c.in-None-take_last.ensures.taken.0
          (c.if-is_bare.ensures.0 refl),
      c.in-None-take_last.ensures.visited,
    )

pub returns-in-None-take_last-clause-at_most : goal.returns-in-None-take_last-clause-at_most
returns-in-None-take_last-clause-at_most c =
    omega (
      arith,
      (between c.args.value).2,
      (between c.args.value).3,
      looks_end _ _ c.in-None-take_last.ensures.taken.0 (c.if-is_bare.ensures.0 refl),
      c.in-None-take_last.ensures.visited,
    )

pub loop-hand-smaller-in-Some-take_last : goal.loop-hand-smaller-in-Some-take_last
loop-hand-smaller-in-Some-take_last c = omega (arith, looks_next _ _ _ _ (c.if-is_bare.ensures.0 refl) c.in-Some-take_last.ensures.taken)

pub loop-hand-preserved-in-Some-take_last : goal.loop-hand-preserved-in-Some-take_last
loop-hand-preserved-in-Some-take_last c =
    let e = c.in-Some-take_last.ensures in
    record {
      released = omega (arith, e.released, taken_size _ _ _ e.taken, bare_size _ (c.if-is_bare.ensures.0 refl));
      visited = omega (arith, e.visited, looks_next _ _ _ _ (c.if-is_bare.ensures.0 refl) e.taken);
    }

pub loop-hand-smaller-in-Some-take_last-2 : goal.loop-hand-smaller-in-Some-take_last-2
loop-hand-smaller-in-Some-take_last-2 c =
    omega (arith, looks_over _ _ _ _ (c.if-is_bare-2.ensures.0 refl) c.in-Some-take_last-2.ensures.taken)

pub loop-hand-preserved-in-Some-take_last-2 : goal.loop-hand-preserved-in-Some-take_last-2
loop-hand-preserved-in-Some-take_last-2 c =
    let e = c.in-Some-take_last-2.ensures in
    record {
      released = omega (arith, e.released, taken_size _ _ _ e.taken, bare_size _ (c.if-is_bare-2.ensures.0 refl));
      visited = omega (arith, e.visited, looks_over _ _ _ _ (c.if-is_bare-2.ensures.0 refl) e.taken);
    }

pub loop-hand-smaller : goal.loop-hand-smaller
loop-hand-smaller c =
    omega (arith, looks_replaced _ _ _ _ (λ b. false_true (c.if-is_bare-2.ensures.1 b)) c.replace_first-first.ensures.replaced)

pub loop-hand-preserved : goal.loop-hand-preserved
loop-hand-preserved c =
    let e = c.replace_first-first.ensures in
    record {
      released = omega (arith, e.released, parked_size _ _ _ _ e.replaced);
      visited = omega (arith, e.visited, looks_replaced _ _ _ _ (λ b. false_true (c.if-is_bare-2.ensures.1 b)) e.replaced);
    }
