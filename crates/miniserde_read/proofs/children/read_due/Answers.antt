-- The token that was taken has the event with which the value begins (`due_rejects`), and that event is in range
-- (`start_event`).
use Rattle.miniserde_read.proofs.Tokens.{start_event}
use Rattle.miniserde_read.proofs.Due.{due_rejects}
use Rattle.miniserde_read.proofs.children.read_due.Goals as goal

pub read-requires-clause-event : goal.read-requires-clause-event
read-requires-clause-event g c = start_event _ _ _ c.in_ok-token.ensures.ok

pub returns-clause-invalid : goal.returns-clause-invalid
returns-clause-invalid g c = λ e. due_rejects g.T.FromJson.means.from_tree _ _ _ c.in_ok-token.ensures.ok (c.read.ensures.invalid e)
