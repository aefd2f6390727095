-- The turn so far: what was called since it began, what was received, and that the connection is caught up after its last `advance`.
use Rattle.http_server.specs.Connection.{history}
use Rattle.http_server.specs.Exchange.{Calls}
use Rattle.turns.specs.Shared.{IsCaughtUp}
use Rattle.turns.specs.Settled.{IsHeard}
use Rattle.turns.proofs.settled.hear.Given as goal

abbrev pub invariant-loop : goal.invariant-loop
invariant-loop g l =
    Calls g.S.Settle.answers l.fn.service l.service (history l.fn.peer.connection).calls (history l.peer.connection).calls
    × IsHeard g.T.Read.remaining l.fn.peer l.peer
    × IsCaughtUp l.peer.connection
