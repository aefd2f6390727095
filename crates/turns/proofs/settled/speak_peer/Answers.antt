-- The connection is taken out, writes, and goes back under its key unless it is done. Its time moves only if it wrote.
use Rattle.std.proofs.Common.{◌≡◌, ◌<◌, ◌⊎◌, IsTrue, inl, inr, length, sym, ap, subst, ◌∙◌}
use Rattle.slab.specs.Slab.{get}
use Rattle.http_server.specs.Connection.{history}
use Rattle.turns.specs.Settled.{IsSpoken, AwaitsInput, AwaitsUnlessNoted, AwaitsStream}
use Rattle.turns.proofs.SharedLemmas.{one_peer}
use Rattle.turns.proofs.SettledLemmas.{spoken_none, each_one, each_left}
use Rattle.turns.proofs.ProgressLemmas.{stops, progressed_one}
use Rattle.turns.proofs.settled.speak_peer.Goals.{then-wrote, else-wrote}
use Rattle.turns.proofs.settled.speak_peer.Goals as goal

pub returns-in_default-clause-spoken : goal.returns-in_default-clause-spoken
returns-in_default-clause-spoken g c =
    let gone = c.try_remove.ensures.updates in
    let spoken = IsSpoken g.T.Write.contents in
    each_left spoken (spoken_none g.T.Write.contents) (get c.args.peers.now) (get c.try_remove.new.self) c.args.key gone.others
    gone.changed

pub returns-then-eq-clause-spoken : goal.returns-then-eq-clause-spoken
returns-then-eq-clause-spoken g c =
    let gone = c.in-Some.ensures.updates in
    let spoken = IsSpoken g.T.Write.contents in
    each_left spoken (spoken_none g.T.Write.contents) (get c.args.peers.now) (get c.try_remove.new.self) c.args.key gone.others
    gone.changed

pub returns-clause-spoken : goal.returns-clause-spoken
returns-clause-spoken g c =
    let put = c.insert_reserved.ensures in
    let same : c.insert_reserved.result ≡ c.args.key = put.key ∙ c.in-Some.ensures.key_is_next in
    let it = c.speak-next.ensures in
    let spoken : IsSpoken g.T.Write.contents c.in-Some.peer c.if-wrote.peer = elim c.if-wrote.branch [
      | then-wrote w ↦ subst (IsSpoken g.T.Write.contents c.in-Some.peer) (sym w.peer-is) record {
        calls = it.spoken.calls;
        output = it.spoken.output;
        sent = it.spoken.sent;
        since = λ none. absurd (it.wrote (sym c.wrote.ensures ∙ w.if-wrote.true) none);
        received = it.spoken.received;
        ended = it.spoken.ended;
        state = it.spoken.state;
        config = it.spoken.config;
        more = it.spoken.more;
      }
      | else-wrote w ↦ subst (IsSpoken g.T.Write.contents c.in-Some.peer) (sym w.peer-is) it.spoken
    ] in
    each_one (IsSpoken g.T.Write.contents) (spoken_none g.T.Write.contents) (get c.args.peers.now) (get c.insert_reserved.new.self)
    c.args.key c.in-Some.peer (sym c.in-Some.ensures.value)
    (λ other apart. put.updates.others other (λ is. apart (is ∙ same)) ∙ c.in-Some.ensures.updates.others other apart)
    (λ peer is.
    let there = one_peer (sym is ∙ ap (get c.insert_reserved.new.self) (sym same) ∙ put.updates.changed) in
    subst (IsSpoken g.T.Write.contents c.in-Some.peer) (sym there) record {
      calls = spoken.calls;
      output = spoken.output;
      sent = spoken.sent;
      since = spoken.since;
      received = spoken.received;
      ended = spoken.ended;
      state = spoken.state;
      config = spoken.config;
      more = spoken.more;
    })

pub returns-clause-goes_on : goal.returns-clause-goes_on
returns-clause-goes_on g c goes =
    let put = c.insert_reserved.ensures in
    let same : c.insert_reserved.result ≡ c.args.key = put.key ∙ c.in-Some.ensures.key_is_next in
    let there = ap (get c.insert_reserved.new.self) (sym same) ∙ put.updates.changed in
    let it = c.speak-next.ensures in
    let back : c.if-wrote.peer.connection ≡ c.speak-next.new.peer.connection = elim c.if-wrote.branch [
      | then-wrote w ↦ ap (λ p. p.connection) w.peer-is
      | else-wrote w ↦ ap (λ p. p.connection) w.peer-is
    ] in
    progressed_one c.args.heard (get c.args.peers.now) (get c.insert_reserved.new.self) c.args.key c.in-Some.peer _
    (sym c.in-Some.ensures.value) there
    (elim (c.may_go_on-again.ensures.goes_on goes) [
      | inl full ↦ inl full
      | inr wrote ↦ inr (λ none. it.wrote wrote (ap (λ k. (history k).sent) (sym back) ∙ none))
    ])

pub returns-clause-waits : goal.returns-clause-waits
returns-clause-waits g c stop heard noted =
    let put = c.insert_reserved.ensures in
    let same : c.insert_reserved.result ≡ c.args.key = put.key ∙ c.in-Some.ensures.key_is_next in
    let there = ap (get c.insert_reserved.new.self) (sym same) ∙ put.updates.changed in
    let it = c.speak-next.ensures in
    let back : c.if-wrote.peer.connection ≡ c.speak-next.new.peer.connection = elim c.if-wrote.branch [
      | then-wrote w ↦ ap (λ p. p.connection) w.peer-is
      | else-wrote w ↦ ap (λ p. p.connection) w.peer-is
    ] in
    let more : c.if-wrote.peer.more ≡ c.speak-next.new.peer.more = elim c.if-wrote.branch [
      | then-wrote w ↦ ap (λ p. p.more) w.peer-is
      | else-wrote w ↦ ap (λ p. p.more) w.peer-is
    ] in
    let full : IsTrue c.speak-next.new.peer.more → 0 < length (history c.speak-next.new.peer.connection).pending = λ on.
    subst (λ k. 0 < length (history k).pending) back (c.may_go_on-again.ensures.waits stop heard (more ∙ on)) in
    let was = subst AwaitsUnlessNoted (sym c.in-Some.ensures.value) noted in
    subst AwaitsStream (sym there)
    (subst (λ k. (0 < length (history k).pending) ⊎ AwaitsInput k) (sym back)
    (stops g.T.Write.contents c.in-Some.peer c.speak-next.new.peer it.spoken was full))
