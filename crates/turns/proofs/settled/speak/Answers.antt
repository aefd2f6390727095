-- What a write took is the next of what was pending, and not nothing, since something was pending.
use Rattle.std.proofs.Common.{◌≢◌, ◌<◌, ◌++◌, List, ℕ, length, take, drop, refl, sym, ap, ◌∙◌, append_assoc, rules}
use Rattle.std.proofs.lemmas.List.{take-append-drop}
use Rattle.http_server.specs.Connection.{history}
use Rattle.http_server.specs.History.{History, output}
use Rattle.turns.proofs.SettledLemmas.{spoken_then, neither, taken_some}
use Rattle.turns.proofs.settled.speak.Goals as goal

pub loop-preserved : goal.loop-preserved
loop-preserved g c =
    let ok = c.in-Ok.ensures.ok in
    let h = history c.loop.peer.connection in
    let n = c.in-Ok.count in
    let before = c.loop.invariant.0 in
    let some : n ≢ 0 = search rules in
    let there : 0 < length h.pending = search rules in
    let sent = ap (λ (k : History). k.sent) ok.0 in (
      spoken_then g.T.Write.contents c.args.peer.now c.loop.peer _ before record {
        calls = ap (λ (k : History). k.calls) ok.0;
        output = ap output ok.0 ∙ append_assoc h.sent (take n h.pending) (drop n h.pending)
            ∙ ap (λ (l : List ℕ). h.sent ++ l) (take-append-drop _ _);
        sent = (take n h.pending, sent, ok.1);
        since = λ _. refl;
        received = ap (λ (k : History). k.received) ok.0;
        ended = ap (λ (k : History). k.ended) ok.0;
        state = ap (λ (k : History). k.state) ok.0;
        config = c.write_to.ensures.config;
        more = refl;
      },
      c.loop.invariant.1,
      λ _ same. taken_some n h.pending some there
          (neither (history c.args.peer.now.connection).sent before.sent.0 (take n h.pending)
          (sym (ap (λ (l : List ℕ). l ++ take n h.pending) before.sent.1) ∙ sym sent ∙ same)).1,
    )
