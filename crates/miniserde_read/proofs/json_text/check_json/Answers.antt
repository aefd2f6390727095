-- The text is whitespace, the first event, the rest of the value and whitespace, as for `from_str`: `json_at` and
-- `json_front` split it there, and `at_json` joins the parts.
use Rattle.std.proofs.Common.{subst}
use Rattle.std.proofs.lemmas.Result.{err_from_is_err_and}
use Rattle.miniserde_model.specs.Whitespace.{IsWhitespace}
use Rattle.miniserde_read.proofs.Same.{value_same}
use Rattle.miniserde_read.proofs.Json.{JsonAt, json_at, json_front, at_json}
use Rattle.miniserde_read.proofs.json_text.check_json.Goals as goal

pub returns-in_err-skip_due-clause-invalid : goal.returns-in_err-skip_due-clause-invalid
returns-in_err-skip_due-clause-invalid c = λ e t h.
    let w = err_from_is_err_and c.from_residual.result c.from_residual.ensures.1 in
    let a = json_at c.args.j.now t h in
    let rejects = rw c.new-whole.ensures.rest at (c.in_err-skip_due.ensures.invalid (cc (w.1, w.2, e))) in
    let none = rejects t a.event a.behind a.end a.starts a.is_value in cc

pub returns-in_err-end-clause-invalid : goal.returns-in_err-end-clause-invalid
returns-in_err-end-clause-invalid c = λ e t h.
    let w = err_from_is_err_and c.from_residual-in_err-end.result c.from_residual-in_err-end.ensures.1 in
    let v = rw c.new-whole.ensures.rest at c.in_ok-skip_due.ensures.ok in
    let f = json_front c.args.j.now t v.event v.behind h v.starts in
    let same = value_same t v.one v.event v.behind f.0 c.skip_due.new.source.rest f.1 v.is_value in
    c.in_err-end.ensures.invalid (cc (w.1, w.2, e)) c.in_ok-skip_due.ensures.going (subst IsWhitespace same.1 f.2)

pub returns-clause-ok : goal.returns-clause-ok
returns-clause-ok c =
    let v = rw c.new-whole.ensures.rest at c.in_ok-skip_due.ensures.ok in
    let all : JsonAt c.args.j.now v.one = record {
      event = v.event;
      behind = v.behind;
      end = _;
      starts = v.starts;
      is_value = v.is_value;
      white = c.in_ok-end.ensures.ok;
    } in
    (v.one, at_json c.args.j.now v.one all)
