-- `skip` takes exactly one value, and returns `Invalid` only if no value follows. The loop keeps that the events so
-- far lead to the present stack and text; each exit is a lemma of `proofs/Skips.antt`.
use Rattle.std.proofs.Common.{◌≡◌, None, sym, ap, ◌∙◌}
use Rattle.std.proofs.lemmas.Result.{err_from_is_err_and}
use Rattle.miniserde_text.specs.Lexer.{event_of_token}
use Rattle.miniserde_text.specs.private.Stack.{with_opened, innermost}
use Rattle.miniserde_text.specs.private.Moments.{opened_kind}
use Rattle.miniserde_text.proofs.Consumes.{Reaches-append, ends_behind}
use Rattle.miniserde_read.proofs.Skips.{reaches_init, skip_ok, skip_none}
use Rattle.miniserde_read.proofs.ignored.skip.Goals as goal

pub loop-kind-init : goal.loop-kind-init
loop-kind-init c =
    record {
      going = c.requires.going;
      reaches = λ x. let ev = event_of_token c.args.token x in reaches_init ev
          (c.in_ok-first.ensures.opens x)
          (c.in_ok-first.ensures.ok x ∙ ap (with_opened (opened_kind ev)) c.new-stack.ensures);
    }

pub returns-in_err-first-2-clause-invalid : goal.returns-in_err-first-2-clause-invalid
returns-in_err-first-2-clause-invalid c = λ e x t r p.
    let w = err_from_is_err_and c.from_residual-in_err-first-2.result c.from_residual-in_err-first-2.ensures.1 in
    skip_none (event_of_token c.args.token x) c.args.source.now.rest
    (ends_behind (c.loop-kind.invariant.reaches x) (c.in_err-first-2.ensures.invalid (cc (w.1, w.2, e)))) t r p

pub loop-kind-preserved : goal.loop-kind-preserved
loop-kind-preserved c =
    record {
      going = c.in_ok-first-2.ensures.going;
      reaches = λ x. Reaches-append (c.loop-kind.invariant.reaches x) c.in_ok-first-2.ensures.reaches;
    }

pub returns-clause-ok : goal.returns-clause-ok
returns-clause-ok c = λ x.
    let n : innermost c.loop-kind.stack ≡ None = sym c.top.ensures ∙ c.in_default.is in
    skip_ok c.args.token x c.loop-kind.first c.loop-kind.stack n (c.loop-kind.invariant.reaches x)
