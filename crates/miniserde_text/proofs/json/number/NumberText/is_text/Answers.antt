-- A token `Number` is the text of the whole of `t` exactly if it ends where `t` ends (`kept_where`). If there is no
-- number or another token, `t` is no such text (`no_kept`), since `kept_read` says how such a text is read.
use Rattle.std.proofs.Common.{◌≡◌, Some, None, [], drop, ap, sym, ◌∙◌, arith}
use Rattle.miniserde_model.specs.Step.{float}
use Rattle.miniserde_text.specs.Lexer.{event_of_token}
use Rattle.miniserde_text.specs.private.Reading.{number_at}
use Rattle.std.proofs.lemmas.Option.{same_Some}
use Rattle.miniserde_text.proofs.Options.{none_is_some}
use Rattle.miniserde_text.proofs.Scratch.{kept_read, kept_where, no_kept, number_of_float}
use Rattle.miniserde_text.proofs.json.number.NumberText.is_text.Goals as goal

pub returns-in_default : goal.returns-in_default
returns-in_default c =
    let read : number_at c.args.t.now ≡ None = grind arith in
    no_kept _ (λ n. none_is_some _ _ read (kept_read _ n))

pub returns-in-Number : goal.returns-in-Number
returns-in-Number c =
    let read : number_at c.args.t.now ≡ Some (float c.in-Number.field-0.now, drop c.in-Some.end c.args.t.now) = grind arith in
    kept_where _ _ c.in-Some.end read c.in-Some.ensures.within

pub returns-in_default-event : goal.returns-in_default-event
returns-in_default-event c =
    let read : number_at c.args.t.now ≡ Some (event_of_token c.in-Some.event [], drop c.in-Some.end c.args.t.now) = grind arith in
    no_kept _ (λ n. let y = number_of_float c.in-Some.event _
    (ap (λ q. q.0) (same_Some _ _ (sym read ∙ kept_read _ n))) in c.in_default-event.not-Number y.0 y.1)
