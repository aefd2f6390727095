-- A step that fails leaves the history, so the connection is still caught up, and wants to read as before. What a step called comes
-- after what was called before.
use Rattle.std.proofs.Common.{◌++◌, List, refl, ap, ◌∙◌}
use Rattle.http_server.specs.Exchange.{Call}
use Rattle.http_server.specs.History.{History}
use Rattle.http_server.proofs.StreamLemmas.{Calls-then}
use Rattle.turns.proofs.SharedLemmas.{same_caught_up}
use Rattle.turns.proofs.SettledLemmas.{heard_then}
use Rattle.turns.proofs.settled.hear.Goals as goal

pub returns-in-Err-clause-rests : goal.returns-in-Err-clause-rests
returns-in-Err-clause-rests g c =
    same_caught_up c.loop.peer.connection c.read_from.new.self c.read_from.ensures.config c.in-Err.ensures.err.0 c.loop.invariant.2

pub loop-preserved : goal.loop-preserved
loop-preserved g c =
    let ok = c.in_default.ensures.ok in
    let called = ap (λ (h : History). h.calls) ok.3 in
    let next = c.advance-made-in-loop.ensures in
    let more = next.calls.0 in (
      Calls-then g.S.Settle.answers _ _ _ _ _ _ c.loop.invariant.0
          (more, next.calls.1 ∙ ap (λ (l : List Call). l ++ more) called, next.calls.2),
      heard_then g.T.Read.remaining c.args.peer.now c.loop.peer _ c.loop.invariant.1 record {
        received = (ok.0, next.quiet.0 ∙ ap (λ (h : History). h.received) ok.3, ok.2);
        sent = next.quiet.2 ∙ ap (λ (h : History). h.sent) ok.3;
        since = refl;
      },
      next.rests,
    )
