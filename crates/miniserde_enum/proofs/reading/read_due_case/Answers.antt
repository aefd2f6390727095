-- The token that was taken has the event with which the value of the variant begins (`due_front`), and that event is
-- in range (`start_event`).
use Rattle.miniserde_read.proofs.Tokens.{start_event}
use Rattle.miniserde_read.proofs.Due.{due_front}
use Rattle.miniserde_enum.proofs.reading.read_due_case.Goals as goal

pub read_case-requires-clause-event : goal.read_case-requires-clause-event
read_case-requires-clause-event g c = start_event _ _ _ c.in_ok-token.ensures.ok

pub returns-clause-invalid : goal.returns-clause-invalid
returns-clause-invalid g c = λ e t d b r h v. c.read_case.ensures.invalid e t r
    (due_front r d _ t c.in_ok-token.ensures.ok h v)
