-- What was said so far. It wrote only if the stream took something.
use Rattle.std.proofs.Common.{◌≡◌, ◌≢◌, IsTrue}
use Rattle.http_server.specs.Connection.{history}
use Rattle.turns.specs.Settled.{IsSpoken}
use Rattle.turns.proofs.settled.speak.Given as goal

abbrev pub invariant-loop : goal.invariant-loop
invariant-loop g l =
    IsSpoken g.T.Write.contents l.fn.peer l.peer
    × (l.peer.since ≡ l.fn.peer.since)
    × (IsTrue l.wrote → (history l.peer.connection).sent ≢ (history l.fn.peer.connection).sent)
