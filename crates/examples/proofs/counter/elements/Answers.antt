-- The fresh place was fed the events of a tree, and gives how many elements the tree has.
use Rattle.std.proofs.Common.{sym, ap, ◌∙◌}
use Rattle.std.proofs.lemmas.Result.{err_from_is_err_and, IfOk-weaker}
use Rattle.examples.specs.Counter.{counter_view}
use Rattle.examples.specs.Elements.{elements_of}
use Rattle.examples.proofs.counter.elements.Goals as goal

pub returns-in_err-feed-clause-invalid : goal.returns-in_err-feed-clause-invalid
returns-in_err-feed-clause-invalid c h t j =
    let p = err_from_is_err_and c.from_residual-in_err-feed.result c.from_residual-in_err-feed.ensures.1 in
    sym (c.events_give.ensures.fresh (counter_view c.in_ok-place.place) c.in_ok-place.ensures.fresh t)
    ∙ c.in_err-feed.ensures.invalid (cc (h, p.1, p.2)) t j

pub returns-clause-ok : goal.returns-clause-ok
returns-clause-ok c =
    let r = c.in_ok-feed.ensures.ok in
    let l = c.events_give.ensures.outcome r.0 (counter_view c.feed.new.place)
    (counter_view c.in_ok-place.place, c.in_ok-place.ensures.fresh, r.2) in
    IfOk-weaker c.take.result _ _ (λ n h. (r.0, r.1, sym l ∙ h.1)) c.take.ensures.value

pub returns-clause-invalid : goal.returns-clause-invalid
returns-clause-invalid c h t j =
    let r = c.in_ok-feed.ensures.ok in
    let new = counter_view c.feed.new.place in
    let at = c.events_give.ensures.complete r.0 new (counter_view c.in_ok-place.place, c.in_ok-place.ensures.fresh, r.2) in
    let given = c.events_give.ensures.outcome r.0 new (counter_view c.in_ok-place.place, c.in_ok-place.ensures.fresh, r.2) in
    ap elements_of (c.in_ok-feed.ensures.one t r.0 j r.1) ∙ sym given ∙ c.take.ensures.invalid h c.in_ok-feed.ensures.unrefused at
