-- The fresh place was fed the events of a tree, and takes what the tree means.
use Rattle.std.proofs.Common.{subst}
use Rattle.std.proofs.lemmas.Result.{err_from_is_err_and, IfOk-weaker}
use Rattle.examples.proofs.by_events.read_by_events.Goals as goal

pub returns-in_err-feed-clause-invalid : goal.returns-in_err-feed-clause-invalid
returns-in_err-feed-clause-invalid g c h t j =
    let p = err_from_is_err_and c.from_residual-in_err-feed.result c.from_residual-in_err-feed.ensures.1 in
    c.events_mean.ensures.refused (g.T.Place.Visitor.meaning.view c.in_ok-place.place) c.in_ok-place.ensures.fresh t
    (c.in_err-feed.ensures.invalid (cc (h, p.1, p.2)) t j)

pub returns-clause-ok : goal.returns-clause-ok
returns-clause-ok g c =
    let r = c.in_ok-feed.ensures.ok in
    let s = g.T.Place.Visitor.meaning.view in
    IfOk-weaker c.take.result _ _
    (λ v h. (
      r.0,
      r.1,
      c.events_mean.ensures.value r.0 (s c.feed.new.place)
          (s c.in_ok-place.place, c.in_ok-place.ensures.fresh, r.2) v h.1,
    )) c.take.ensures.value

pub returns-clause-invalid : goal.returns-clause-invalid
returns-clause-invalid g c h t j v m =
    let r = c.in_ok-feed.ensures.ok in
    let s = g.T.Place.Visitor.meaning.view in
    let at = c.events_mean.ensures.complete r.0 (s c.feed.new.place) (s c.in_ok-place.place, c.in_ok-place.ensures.fresh, r.2) in
    let none = c.take.ensures.invalid h c.in_ok-feed.ensures.unrefused at in
    c.events_mean.ensures.none r.0 (s c.feed.new.place) (s c.in_ok-place.place, c.in_ok-place.ensures.fresh, r.2)
    none v (subst (λ z. g.T.FromJson.means.reads z v) (c.in_ok-feed.ensures.one t r.0 j r.1) m)
