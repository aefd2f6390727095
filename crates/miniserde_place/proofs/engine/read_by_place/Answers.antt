-- `read_by_place` returns the value that the tree of the text means. The place is fresh, `feed_from` hands it the
-- events of the one tree, and `take` returns the value that they give (`mean_leads`).
use Rattle.std.proofs.Common.{◌≡◌, [], Some, None, sym, ap, ◌∙◌}
use Rattle.std.proofs.lemmas.Result.{err_from_is_err_and, IfOk-weaker}
use Rattle.miniserde_model.proofs.Events.{events_complete}
use Rattle.miniserde_model.specs.Tree.{Tree}
use Rattle.miniserde_model.specs.Step.{events}
use Rattle.miniserde_model.specs.Position.{complete}
use Rattle.miniserde_text.specs.Lexer.{event_of_token}
use Rattle.miniserde_place.proofs.PositionAdvances.{mean_leads}
use Rattle.miniserde_read.specs.Rest.{ValueAt}
use Rattle.miniserde_read.proofs.Same.{value_same}
use Rattle.miniserde_place.proofs.engine.read_by_place.Goals as goal

pub returns-in_err-feed_from-clause-invalid : goal.returns-in_err-feed_from-clause-invalid
returns-in_err-feed_from-clause-invalid g c = λ e t r p.
    let w = err_from_is_err_and c.from_residual-in_err-feed_from.result c.from_residual-in_err-feed_from.ensures.1 in
    let f = c.in_ok-place.ensures.fresh in
    sym (g.V.Visitor.meaning.events_agree t) ∙ sym (f.outcome (events t) (events_complete t))
    ∙ c.in_err-feed_from.ensures.invalid (cc (w.1, w.2, e)) t r p

pub returns-clause-ok : goal.returns-clause-ok
returns-clause-ok g c =
    let f = c.in_ok-place.ensures.fresh in
    let v = g.V.Visitor.meaning in
    let ev = event_of_token c.args.token c.args.source.now.scratch in
    let s = c.args.source.now.rest in
    let r = c.in_ok-feed_from.ensures.ok in
    let l = mean_leads v.from_events (v.view c.in_ok-place.place) (v.view c.feed_from.new.place) r.0 f r.2 in
    IfOk-weaker c.take.result
    (λ x. ((v.view c.feed_from.new.place).at ≡ complete)
    × ((v.view c.feed_from.new.place).outcome [] ≡ Some (v.content x)))
    (λ x. (t : Tree) × ValueAt t ev s c.feed_from.new.source.rest × (v.from_tree t ≡ Some (v.content x)))
    (λ x h. (r.0, r.1, sym (v.events_agree r.0) ∙ sym l.1 ∙ h.1)) c.take.ensures.value

pub returns-clause-invalid : goal.returns-clause-invalid
returns-clause-invalid g c = λ e t x p.
    let f = c.in_ok-place.ensures.fresh in
    let v = g.V.Visitor.meaning in
    let ev = event_of_token c.args.token c.args.source.now.scratch in
    let s = c.args.source.now.rest in
    let r = c.in_ok-feed_from.ensures.ok in
    let l = mean_leads v.from_events (v.view c.in_ok-place.place) (v.view c.feed_from.new.place) r.0 f r.2 in
    let o : (v.view c.feed_from.new.place).outcome [] ≡ None = c.take.ensures.invalid e c.in_ok-feed_from.ensures.unrefused l.0 in
    ap v.from_tree (value_same t r.0 ev s x c.feed_from.new.source.rest p r.1).0 ∙ sym (v.events_agree r.0) ∙ sym l.1 ∙ o
