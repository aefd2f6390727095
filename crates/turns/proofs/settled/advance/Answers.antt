-- The calls of the service in its round are calls of the service.
use Rattle.std.proofs.Common.{rules}
use Rattle.http_server.specs.Connection.{history}
use Rattle.turns.proofs.SettledLemmas.{calls_through}
use Rattle.turns.proofs.settled.advance.Goals as goal

pub returns-clause-calls : goal.returns-clause-calls
returns-clause-calls g c =
    let it = calls_through (λ r. r.service.now) (λ r. r.service.ghost_name) g.S.Settle.answers _ _
    (history c.args.connection.now).calls (history c.advance.new.self).calls c.advance.ensures.calls in
    let name = it.1 in
    let calls = it.0 in
    search rules
