-- `feed_from` hands a fresh place exactly the events of one value. The moves so far are the invariant, and each exit
-- is a lemma over plain variables (`proofs/Feeds.antt`).
use Rattle.std.proofs.Common.{◌≡◌, ◌⊎◌, inr, true, Some, None, refl, sym, ap, subst, ◌∙◌}
use Rattle.std.proofs.lemmas.Result.{err_from_is_err_and}
use Rattle.miniserde_text.specs.Lexer.{event_of_token}
use Rattle.miniserde_place.specs.Place.{Advances, BeginsTree}
use Rattle.miniserde_text.specs.private.Stack.{with_opened, innermost}
use Rattle.miniserde_text.specs.private.Moments.{opened_kind}
use Rattle.miniserde_read.proofs.Tokens.{start_event}
use Rattle.miniserde_place.specs.private.EngineRuns.{Moved, state_before, after_move}
use Rattle.miniserde_text.proofs.Consumes.{start_ends, value_passed}
use Rattle.miniserde_place.proofs.Moved.{Moved-append, moved_one, rejects_one, never_rejects}
use Rattle.miniserde_place.proofs.Feeds.{Fed, first_rejects, later_rejects, moved_init, feed_ok, begun_none, begun, if_err, exit_sticky}
use Rattle.miniserde_place.proofs.Spelled.{start_spellable, inside_unfinished}
use Rattle.miniserde_place.proofs.engine.feed_from.Goals as goal

pub returns-in_err-first-clause-invalid : goal.returns-in_err-first-clause-invalid
returns-in_err-first-clause-invalid g c = λ e t r p.
    let w = err_from_is_err_and c.from_residual.result c.from_residual.ensures.1 in
    let v = g.V.Visitor.meaning.view in
    let ev = event_of_token c.args.token c.args.source.now.scratch in
    let s = c.args.source.now.rest in
    first_rejects (v c.args.place.now) ev s c.requires.fresh
    (c.in_err-first.ensures.rejects (cc (w.1, w.2, e))) t r p

pub loop-kind-init : goal.loop-kind-init
loop-kind-init g c =
    let v = g.V.Visitor.meaning.view in
    let ev = event_of_token c.args.token c.args.source.now.scratch in
    let s = c.args.source.now.rest in
    record {
      unrefused = c.in_ok-first.ensures.unrefused;
      going = c.requires.going;
      moved = moved_init ev c.in_ok-first.first c.enter.new.stack s (v c.enter.new.place) c.in_ok-first.ensures.opens
          (c.in_ok-first.ensures.stack ∙ ap (with_opened (opened_kind ev)) c.new-stack.ensures);
    }

pub returns-in_err-take_child_or_end-clause-invalid : goal.returns-in_err-take_child_or_end-clause-invalid
returns-in_err-take_child_or_end-clause-invalid g c = λ e t r p.
    let w = err_from_is_err_and c.from_residual-in_err-take_child_or_end.result c.from_residual-in_err-take_child_or_end.ensures.1 in
    let v = g.V.Visitor.meaning.view in
    let ev = event_of_token c.args.token c.args.source.now.scratch in
    let s = c.args.source.now.rest in
    let fed : Fed (v c.args.place.now) ev s
    (state_before c.loop-kind.first c.loop-kind.stack c.loop-kind.source.rest (v c.loop-kind.place)) =
    record { view = v c.enter.new.place; starts = c.in_ok-first.ensures.advances; moved = c.loop-kind.invariant.moved } in
    later_rejects c.requires.fresh fed (c.in_err-take_child_or_end.ensures.invalid (cc (w.1, w.2, e))) t r p

pub returns-in_err-token-clause-invalid : goal.returns-in_err-token-clause-invalid
returns-in_err-token-clause-invalid g c = λ e t r p.
    let w = err_from_is_err_and c.from_residual-in_err-token.result c.from_residual-in_err-token.ensures.1 in
    let v = g.V.Visitor.meaning.view in
    let ev = event_of_token c.args.token c.args.source.now.scratch in
    let s = c.args.source.now.rest in
    let moved = subst (λ z. Moved (state_before c.loop-kind.first c.loop-kind.stack c.loop-kind.source.rest (v c.loop-kind.place))
    (after_move z c.take_child_or_end.new.stack c.take_child_or_end.new.source.rest (v c.take_child_or_end.new.place)))
    c.if-branch.true c.in_ok-take_child_or_end.ensures.moved in
    let fed : Fed (v c.args.place.now) ev s
    (after_move true c.take_child_or_end.new.stack c.take_child_or_end.new.source.rest (v c.take_child_or_end.new.place)) =
    record {
      view = v c.enter.new.place;
      starts = c.in_ok-first.ensures.advances;
      moved = Moved-append c.loop-kind.invariant.moved moved;
    } in
    later_rejects c.requires.fresh fed
    (never_rejects
    (after_move true c.take_child_or_end.new.stack c.take_child_or_end.new.source.rest (v c.take_child_or_end.new.place))
    (start_ends c.take_child_or_end.new.stack
    (c.in_err-token.ensures.invalid (cc (w.1, w.2, e)) c.in_ok-take_child_or_end.ensures.going))) t r p

pub enter-requires-then-branch-clause-event : goal.enter-requires-then-branch-clause-event
enter-requires-then-branch-clause-event g c = start_event _ _ _ c.in_ok-token.ensures.ok

pub returns-in_err-first-2-clause-invalid : goal.returns-in_err-first-2-clause-invalid
returns-in_err-first-2-clause-invalid g c = λ e t r p.
    let w = err_from_is_err_and c.from_residual-in_err-first-2.result c.from_residual-in_err-first-2.ensures.1 in
    let v = g.V.Visitor.meaning.view in
    let ev = event_of_token c.args.token c.args.source.now.scratch in
    let s = c.args.source.now.rest in
    let moved = subst (λ z. Moved (state_before c.loop-kind.first c.loop-kind.stack c.loop-kind.source.rest (v c.loop-kind.place))
    (after_move z c.take_child_or_end.new.stack c.take_child_or_end.new.source.rest (v c.take_child_or_end.new.place)))
    c.if-branch.true c.in_ok-take_child_or_end.ensures.moved in
    let fed : Fed (v c.args.place.now) ev s
    (after_move true c.take_child_or_end.new.stack c.take_child_or_end.new.source.rest (v c.take_child_or_end.new.place)) =
    record {
      view = v c.enter.new.place;
      starts = c.in_ok-first.ensures.advances;
      moved = Moved-append c.loop-kind.invariant.moved moved;
    } in
    let ew = event_of_token c.in_ok-token.token c.token.new.self.scratch in
    later_rejects c.requires.fresh fed
    (rejects_one
    (after_move true c.take_child_or_end.new.stack c.take_child_or_end.new.source.rest (v c.take_child_or_end.new.place)) ew
    (value_passed ew _ c.in_ok-token.ensures.ok refl refl) (c.in_err-first-2.ensures.rejects (cc (w.1, w.2, e)))) t r p

pub loop-kind-preserved-then-branch : goal.loop-kind-preserved-then-branch
loop-kind-preserved-then-branch g c =
    let v = g.V.Visitor.meaning.view in
    let ev = event_of_token c.args.token c.args.source.now.scratch in
    let s = c.args.source.now.rest in
    let moved = subst (λ z. Moved (state_before c.loop-kind.first c.loop-kind.stack c.loop-kind.source.rest (v c.loop-kind.place))
    (after_move z c.take_child_or_end.new.stack c.take_child_or_end.new.source.rest (v c.take_child_or_end.new.place)))
    c.if-branch.true c.in_ok-take_child_or_end.ensures.moved in
    let ew = event_of_token c.in_ok-token.token c.token.new.self.scratch in
    let led : Advances (v c.take_child_or_end.new.place) ew (v c.enter-then-branch.new.place) = c.in_ok-first-2.ensures.advances in
    let one = moved_one
    (after_move true c.take_child_or_end.new.stack c.take_child_or_end.new.source.rest (v c.take_child_or_end.new.place))
    (state_before c.in_ok-first-2.first c.enter-then-branch.new.stack c.token.new.self.rest (v c.enter-then-branch.new.place)) ew
    (value_passed ew c.in_ok-first-2.first c.in_ok-token.ensures.ok c.in_ok-first-2.ensures.opens c.in_ok-first-2.ensures.stack)
    (start_spellable c.take_child_or_end.new.stack ew c.in_ok-token.ensures.ok c.in_ok-first-2.ensures.opens
    c.in_ok-first-2.ensures.stack) led in
    record {
      unrefused = c.in_ok-first-2.ensures.unrefused;
      going = c.in_ok-token.ensures.first_error.kept;
      moved = Moved-append c.loop-kind.invariant.moved (Moved-append moved one);
    }

pub loop-kind-preserved : goal.loop-kind-preserved
loop-kind-preserved g c =
    let v = g.V.Visitor.meaning.view in
    let moved = subst (λ z. Moved (state_before c.loop-kind.first c.loop-kind.stack c.loop-kind.source.rest (v c.loop-kind.place))
    (after_move z c.take_child_or_end.new.stack c.take_child_or_end.new.source.rest (v c.take_child_or_end.new.place)))
    c.if-branch.false c.in_ok-take_child_or_end.ensures.moved in
    record {
      unrefused = c.in_ok-take_child_or_end.ensures.unrefused;
      going = c.in_ok-take_child_or_end.ensures.going;
      moved = Moved-append c.loop-kind.invariant.moved moved;
    }

pub returns-clause-ok : goal.returns-clause-ok
returns-clause-ok g c =
    let v = g.V.Visitor.meaning.view in
    let ev = event_of_token c.args.token c.args.source.now.scratch in
    let s = c.args.source.now.rest in
    let fed : Fed (v c.args.place.now) ev s
    (state_before c.loop-kind.first c.loop-kind.stack c.loop-kind.source.rest (v c.loop-kind.place)) =
    record { view = v c.enter.new.place; starts = c.in_ok-first.ensures.advances; moved = c.loop-kind.invariant.moved } in
    let n : innermost c.loop-kind.stack ≡ None = sym c.top.ensures ∙ c.in_default.is in
    feed_ok c.args.token c.args.source.now.scratch c.loop-kind.first c.loop-kind.stack n fed

-- ---- what an error leaves of the place

pub returns-in_err-first-clause-sticky : goal.returns-in_err-first-clause-sticky
returns-in_err-first-clause-sticky g c =
    let v = g.V.Visitor.meaning.view in
    let w = err_from_is_err_and c.from_residual.result c.from_residual.ensures.1 in
    exit_sticky v (v c.args.place.now) c.args.place.now c.enter.new.place
    c.from_residual.result c.in_err-first.field-0.0 (cc (w.1, w.2)) c.requires.unrefused
    (begun_none (v c.args.place.now)) c.in_err-first.ensures.sticky

pub returns-in_err-take_child_or_end-clause-sticky : goal.returns-in_err-take_child_or_end-clause-sticky
returns-in_err-take_child_or_end-clause-sticky g c =
    let v = g.V.Visitor.meaning.view in
    let ev = event_of_token c.args.token c.args.source.now.scratch in
    let s = c.args.source.now.rest in
    let fed : Fed (v c.args.place.now) ev s
    (state_before c.loop-kind.first c.loop-kind.stack c.loop-kind.source.rest (v c.loop-kind.place)) =
    record { view = v c.enter.new.place; starts = c.in_ok-first.ensures.advances; moved = c.loop-kind.invariant.moved } in
    let w = err_from_is_err_and c.from_residual-in_err-take_child_or_end.result c.from_residual-in_err-take_child_or_end.ensures.1 in
    exit_sticky v (v c.args.place.now) c.loop-kind.place
    c.take_child_or_end.new.place c.from_residual-in_err-take_child_or_end.result
    c.in_err-take_child_or_end.field-0.0 (cc (w.1, w.2)) c.loop-kind.invariant.unrefused
    (begun c.args.token c.args.source.now.scratch fed
    (inside_unfinished c.loop-kind.first c.loop-kind.stack _ (sym c.top.ensures ∙ c.in-Some.is)))
    c.in_err-take_child_or_end.ensures.sticky

pub returns-in_err-token-clause-sticky : goal.returns-in_err-token-clause-sticky
returns-in_err-token-clause-sticky g c =
    let v = g.V.Visitor.meaning.view in
    let ev = event_of_token c.args.token c.args.source.now.scratch in
    let s = c.args.source.now.rest in
    let moved = subst (λ z. Moved (state_before c.loop-kind.first c.loop-kind.stack c.loop-kind.source.rest (v c.loop-kind.place))
    (after_move z c.take_child_or_end.new.stack c.take_child_or_end.new.source.rest (v c.take_child_or_end.new.place)))
    c.if-branch.true c.in_ok-take_child_or_end.ensures.moved in
    let fed : Fed (v c.args.place.now) ev s
    (after_move true c.take_child_or_end.new.stack c.take_child_or_end.new.source.rest (v c.take_child_or_end.new.place)) =
    record {
      view = v c.enter.new.place;
      starts = c.in_ok-first.ensures.advances;
      moved = Moved-append c.loop-kind.invariant.moved moved;
    } in
    if_err c.from_residual-in_err-token.result
    (λ e. ((v c.take_child_or_end.new.place).refused ≡ Some e)
    ⊎ (((v c.take_child_or_end.new.place).refused ≡ None) × BeginsTree (v c.args.place.now)
    (v c.take_child_or_end.new.place)))
    (λ e. inr (
      c.in_ok-take_child_or_end.ensures.unrefused,
      begun c.args.token c.args.source.now.scratch fed tt,
    ))

pub returns-in_err-first-2-clause-sticky : goal.returns-in_err-first-2-clause-sticky
returns-in_err-first-2-clause-sticky g c =
    let v = g.V.Visitor.meaning.view in
    let ev = event_of_token c.args.token c.args.source.now.scratch in
    let s = c.args.source.now.rest in
    let w = err_from_is_err_and c.from_residual-in_err-first-2.result c.from_residual-in_err-first-2.ensures.1 in
    let moved = subst (λ z. Moved (state_before c.loop-kind.first c.loop-kind.stack c.loop-kind.source.rest (v c.loop-kind.place))
    (after_move z c.take_child_or_end.new.stack c.take_child_or_end.new.source.rest (v c.take_child_or_end.new.place)))
    c.if-branch.true c.in_ok-take_child_or_end.ensures.moved in
    let fed : Fed (v c.args.place.now) ev s
    (after_move true c.take_child_or_end.new.stack c.take_child_or_end.new.source.rest (v c.take_child_or_end.new.place)) =
    record {
      view = v c.enter.new.place;
      starts = c.in_ok-first.ensures.advances;
      moved = Moved-append c.loop-kind.invariant.moved moved;
    } in
    exit_sticky v (v c.args.place.now) c.take_child_or_end.new.place
    c.enter-then-branch.new.place c.from_residual-in_err-first-2.result c.in_err-first-2.field-0.0
    (cc (w.1, w.2)) c.in_ok-take_child_or_end.ensures.unrefused
    (begun c.args.token c.args.source.now.scratch fed tt) c.in_err-first-2.ensures.sticky
