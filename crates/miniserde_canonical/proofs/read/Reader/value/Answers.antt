-- `value` reads the first token of a value, and the draft takes the same token. Whitespace is skipped first, then
-- `reads_start` is the lemma for the text and `takes_front` the lemma for the draft.
use Rattle.std.proofs.Common.{◌≡◌, is_some, ◌∷◌, [], subst, sym, ap, ◌∙◌}
use Rattle.std.proofs.lemmas.Result.{err_from_is_err_and}
use Rattle.miniserde_text.specs.Lexer.{event_of_token, SpelledToken}
use Rattle.miniserde_text.specs.private.Escape.{escapes}
use Rattle.miniserde_text.specs.private.Stack.{with_opened}
use Rattle.miniserde_text.specs.private.Moments.{opened_kind}
use Rattle.miniserde_canonical.specs.private.States.{State, TokenStep}
use Rattle.miniserde_canonical.specs.private.Drafts.{Represents}
use Rattle.miniserde_canonical.specs.private.EventTokens.{first_token}
use Rattle.miniserde_text.proofs.Consumes.{start_ends}
use Rattle.miniserde_canonical.proofs.WholeTexts.{reads_start}
use Rattle.miniserde_canonical.proofs.Plains.{spelled, at_once}
use Rattle.miniserde_canonical.proofs.ReaderDrafts.{starts_behind, starts_at, takes_front}
use Rattle.miniserde_canonical.proofs.read.Reader.value.Goals as goal

pub returns-in_err-event-clause-invalid : goal.returns-in_err-event-clause-invalid
returns-in_err-event-clause-invalid c = λ e.
    let w = err_from_is_err_and c.from_residual-in_err-event.result c.from_residual-in_err-event.ensures.1 in
    start_ends _ (λ t r p. c.in_err-event.ensures.invalid (cc (w.1, w.2, e))
    (c.in_ok-at.ensures.going ∙ c.requires.going) t r (starts_at t r c.in_ok-at.ensures.blank p))

pub returns-clause-reads : goal.returns-clause-reads
returns-clause-reads c =
    let q = c.in_ok-event.ensures.ok in
    let x = q.0 in
    let event = c.in_ok-event.event in
    let e = event_of_token event x in
    let old = c.args.self.now.lexer.rest in
    let mid = c.skip.new.lexer.rest in
    let new = c.start_escaped.new.self.rest in
    let d = c.args.self.now.draft in
    let d1 = c.skip.new.self in
    let b = c.in_ok-at.ensures.blank in
    let v = c.as_str.ensures.value in
    let k : c.in_ok-opened.opened ≡ opened_kind e = c.in_ok-opened.ensures.opens x in
    let st = c.in_ok-push.ensures.ok ∙ ap (λ z. with_opened z c.args.self.now.stack) k in
    let o = c.is_some.ensures ∙ ap is_some k in
    let s = q.1 in
    let full = starts_behind e new b s in
    let takes : (u u' : State) → Represents d1 mid u → TokenStep (first_token e) u u' → Represents c.token.new.self new u' =
    λ u u' r a. c.in_ok-opened.ensures.takes mid s.0.part new x u u' r
    (record { text = at_once mid new s.0 b.stops; at = c.in_ok-at.ensures.at; end = c.left-end.ensures })
    (subst (λ z. SpelledToken escapes event z x) (sym v) q.2) (spelled event x mid new s c.in_ok-event.ensures.text) a in (
      first_token e ∷ [],
      reads_start e c.is_some.result full o st,
      takes_front {d = d} {d1 = d1} e s.0.part c.is_some.result s.0.is_part o
          (record { wrote = c.in_ok-at.ensures.wrote; only_text = c.in_ok-at.ensures.only_text }) takes,
    )
