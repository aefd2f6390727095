-- `feed` hands a fresh place the events of the one tree of a text. The text is whitespace, the first token, the rest
-- of the value and whitespace, so its tree is the tree that `feed_from` read (`json_front`, `at_json`).
use Rattle.std.proofs.Common.{◌≡◌, ◌⊎◌, inr, Some, None, sym, subst}
use Rattle.std.proofs.lemmas.Result.{err_from_is_err_and, IfOk-weaker}
use Rattle.miniserde_model.proofs.Unique.{one_tree}
use Rattle.miniserde_model.specs.Tree.{Tree}
use Rattle.miniserde_model.specs.Whitespace.{IsWhitespace}
use Rattle.miniserde_model.specs.Value.{IsJson}
use Rattle.miniserde_model.specs.Step.{events}
use Rattle.miniserde_model.specs.Lexing.{Starts}
use Rattle.miniserde_text.specs.Lexer.{event_of_token}
use Rattle.miniserde_read.proofs.Tokens.{start_event}
use Rattle.miniserde_read.proofs.Same.{value_same}
use Rattle.miniserde_read.proofs.Json.{json_at, json_front, at_json}
use Rattle.miniserde_place.specs.Place.{AdvancesBy, BeginsTree}
use Rattle.miniserde_place.proofs.InRange.{value_in_range}
use Rattle.miniserde_place.proofs.Feeds.{begun_none, begun_whole, if_err}
use Rattle.miniserde_place.proofs.whole_text.feed.Goals as goal

pub returns-in_err-token-clause-one : goal.returns-in_err-token-clause-one
returns-in_err-token-clause-one g c = one_tree c.args.j.now

pub returns-in_err-feed_from-clause-one : goal.returns-in_err-feed_from-clause-one
returns-in_err-feed_from-clause-one g c = one_tree c.args.j.now

pub returns-clause-one : goal.returns-clause-one
returns-clause-one g c = one_tree c.args.j.now

-- ---- no first event

pub returns-in_err-token-clause-invalid : goal.returns-in_err-token-clause-invalid
returns-in_err-token-clause-invalid g c = λ e t h.
    let w = err_from_is_err_and c.from_residual.result c.from_residual.ensures.1 in
    let a = json_at c.args.j.now t h in
    absurd (c.in_err-token.ensures.invalid (cc (w.1, w.2, e)) c.new-source.ensures.going a.event a.behind
    (subst (λ z. Starts z a.event a.behind) (sym c.new-source.ensures.rest) a.starts))

pub returns-in_err-token-clause-sticky : goal.returns-in_err-token-clause-sticky
returns-in_err-token-clause-sticky g c =
    let v = g.V.Visitor.meaning.view in
    if_err c.from_residual.result
    (λ e. ((v c.args.place.now).refused ≡ Some e)
    ⊎ (((v c.args.place.now).refused ≡ None) × BeginsTree (v c.args.place.now) (v c.args.place.now)))
    (λ e. inr (c.requires.unrefused, begun_none (v c.args.place.now)))

-- ---- the value is refused

pub feed_from-requires-clause-event : goal.feed_from-requires-clause-event
feed_from-requires-clause-event g c = start_event _ _ _ c.in_ok-token.ensures.ok

pub returns-in_err-feed_from-clause-invalid : goal.returns-in_err-feed_from-clause-invalid
returns-in_err-feed_from-clause-invalid g c = λ e t h.
    let w = err_from_is_err_and c.from_residual-in_err-feed_from.result c.from_residual-in_err-feed_from.ensures.1 in
    let ev = event_of_token c.in_ok-token.token c.token.new.self.scratch in
    let s = c.token.new.self.rest in
    let k : Starts c.args.j.now ev s = subst (λ z. Starts z ev s) c.new-source.ensures.rest c.in_ok-token.ensures.ok in
    let f = json_front c.args.j.now t ev s h k in
    c.in_err-feed_from.ensures.invalid (cc (w.1, w.2, e)) t f.0 f.1

-- ---- the end

pub returns-clause-ok : goal.returns-clause-ok
returns-clause-ok g c =
    let v = g.V.Visitor.meaning.view in
    let ev = event_of_token c.in_ok-token.token c.token.new.self.scratch in
    let s = c.token.new.self.rest in
    let k : Starts c.args.j.now ev s = subst (λ z. Starts z ev s) c.new-source.ensures.rest c.in_ok-token.ensures.ok in
    let r = c.in_ok-feed_from.ensures.ok in
    IfOk-weaker c.end.result (λ _. IsWhitespace c.feed_from.new.source.rest)
    (λ _. (t : Tree) × IsJson c.args.j.now t × AdvancesBy (v c.args.place.now) (events t)
    (v c.feed_from.new.place))
    (λ _ w. (
      r.0,
      at_json c.args.j.now r.0
          (record { event = ev; behind = s; end = c.feed_from.new.source.rest; starts = k; is_value = r.1; white = w }),
      r.2,
    )) c.end.ensures.ok

pub returns-clause-invalid : goal.returns-clause-invalid
returns-clause-invalid g c = λ e t h.
    let ev = event_of_token c.in_ok-token.token c.token.new.self.scratch in
    let s = c.token.new.self.rest in
    let k : Starts c.args.j.now ev s = subst (λ z. Starts z ev s) c.new-source.ensures.rest c.in_ok-token.ensures.ok in
    let f = json_front c.args.j.now t ev s h k in
    let r = c.in_ok-feed_from.ensures.ok in
    let same = value_same t r.0 ev s f.0 c.feed_from.new.source.rest f.1 r.1 in
    absurd (c.end.ensures.invalid e c.in_ok-feed_from.ensures.going (subst IsWhitespace same.1 f.2))

pub returns-clause-sticky : goal.returns-clause-sticky
returns-clause-sticky g c =
    let v = g.V.Visitor.meaning.view in
    let ev = event_of_token c.in_ok-token.token c.token.new.self.scratch in
    let s = c.token.new.self.rest in
    let k : Starts c.args.j.now ev s = subst (λ z. Starts z ev s) c.new-source.ensures.rest c.in_ok-token.ensures.ok in
    let r = c.in_ok-feed_from.ensures.ok in
    let i = value_in_range r.0 ev c.args.j.now s c.feed_from.new.source.rest k r.1 in
    if_err c.end.result (λ e. ((v c.feed_from.new.place).refused ≡ Some e)
    ⊎ (((v c.feed_from.new.place).refused ≡ None) × BeginsTree (v c.args.place.now)
    (v c.feed_from.new.place)))
    (λ e. inr (
      c.in_ok-feed_from.ensures.unrefused,
      begun_whole (v c.args.place.now) r.0 (v c.feed_from.new.place) i r.2,
    ))
