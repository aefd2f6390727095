-- The body that was found is that of the canonical text of the key, and the value was read from it.
use Rattle.std.proofs.Common.{Err, ap, subst, string_bytes, ◌∙◌}
use Rattle.std.proofs.lemmas.Result.{err_from_is_err_and}
use Rattle.sqlite.specs.Held.{state}
use Rattle.rows.specs.Entries.{Holds}
use Rattle.rows.proofs.Errors.{json_error}
use Rattle.rows.proofs.Serving.{unmoved}
use Rattle.rows.proofs.values.get.Goals as goal

pub returns-in-Some-clause-some : goal.returns-in-Some-clause-some
returns-in-Some-clause-some g c clean has =
    let body = string_bytes c.in-Some.body in
    let held = rw c.in-Some.is at (c.in_ok-body.ensures.some clean has) in (
      body,
      subst (λ k. Holds (state g.S.Store c.args.conn.now).now k body) (c.as_str.ensures.value ∙ c.in_ok-key.ensures.ok) held,
      rw c.as_str-in-Some.ensures.value at c.in_ok-value-in-Some.ensures.read,
    )

pub returns-in_err-value-in-Some-clause-invalid : goal.returns-in_err-value-in-Some-clause-invalid
returns-in_err-value-in-Some-clause-invalid g c clean has wrong =
    let p = err_from_is_err_and c.from_residual-in_err-value-in-Some.result c.from_residual-in_err-value-in-Some.ensures.1 in
    let known = json_error _ p.0 _ p.1 p.2 wrong in
    let body = string_bytes c.in-Some.body in
    let held = rw c.in-Some.is at (c.in_ok-body.ensures.some clean has) in (
      body,
      subst (λ k. Holds (state g.S.Store c.args.conn.now).now k body) (c.as_str.ensures.value ∙ c.in_ok-key.ensures.ok) held,
      rw c.as_str-in-Some.ensures.value at (c.in_err-value-in-Some.ensures.invalid (ap Err known)),
    )

pub returns-in_err-key-clause-unread : goal.returns-in_err-key-clause-unread
returns-in_err-key-clause-unread g c clean has live is = unmoved (state g.S.Store c.args.conn.now) live

pub returns-in_err-key-clause-lacking : goal.returns-in_err-key-clause-lacking
returns-in_err-key-clause-lacking g c clean has live is = unmoved (state g.S.Store c.args.conn.now) live
