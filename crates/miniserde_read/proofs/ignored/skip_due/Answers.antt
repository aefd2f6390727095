-- The value's first event is that of the token, and its tree is that of `skip`; `due_rejects` says that no value begins
-- otherwise.
use Rattle.std.proofs.Common.{refl, Some}
use Rattle.std.proofs.lemmas.Result.{IfOk-weaker}
use Rattle.miniserde_text.specs.Lexer.{event_of_token}
use Rattle.miniserde_read.proofs.Due.{due_rejects}
use Rattle.miniserde_read.proofs.ignored.skip_due.Goals as goal

pub returns-clause-ok : goal.returns-clause-ok
returns-clause-ok c =
    let q = c.in_ok-token.ensures.ok in
    IfOk-weaker c.skip.result _ _ (λ _ h. let v = h q.0 in record {
      one = v.0;
      event = event_of_token c.in_ok-token.token q.0;
      behind = c.token_checked.new.self.rest;
      starts = q.1;
      is_value = v.1;
      gives = refl;
    }) c.skip.ensures.ok

pub returns-clause-invalid : goal.returns-clause-invalid
returns-clause-invalid c = λ e.
    let q = c.in_ok-token.ensures.ok in
    due_rejects {C = Unit {0}} (λ _. Some tt) _ _ _ q.1 (λ t r v. absurd (c.skip.ensures.invalid e q.0 t r v))
