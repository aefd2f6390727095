-- The connection is taken out, is heard, and goes back under its key unless its stream failed.
use Rattle.std.proofs.Common.{◌≡◌, ◌≢◌, is_some, rules, sym, ap, subst, ◌∙◌, true≢false, [], ◌∷◌}
use Rattle.slab.specs.Slab.{get}
use Rattle.http_server.specs.Connection.{history}
use Rattle.turns.specs.Shared.{IsAtRest}
use Rattle.turns.specs.declared.turn.Turn.TheVariants.{Done}
use Rattle.turns.specs.Settled.{IsHeard, AwaitsUnlessNoted}
use Rattle.turns.proofs.SharedLemmas.{shared_one, shared_left, one_peer}
use Rattle.turns.proofs.ProgressLemmas.{awaits_input}
use Rattle.turns.proofs.SettledLemmas.{heard_none, each_one, each_left, only_none, only_one}
use Rattle.turns.proofs.settled.hear_peer.Goals as goal

pub returns-in_default-clause-shared : goal.returns-in_default-clause-shared
returns-in_default-clause-shared g c =
    let gone = c.try_remove.ensures.updates in (
      [],
      only_none c.args.key,
      shared_left g.S.Settle.answers c.args.service.now (get c.args.peers.now) (get c.try_remove.new.self) c.args.key gone.others
          gone.changed,
    )

pub returns-in_default-clause-heard : goal.returns-in_default-clause-heard
returns-in_default-clause-heard g c =
    let gone = c.try_remove.ensures.updates in
    each_left (IsHeard g.T.Read.remaining) (heard_none g.T.Read.remaining) (get c.args.peers.now) (get c.try_remove.new.self)
    c.args.key gone.others gone.changed

pub returns-then-eq-clause-shared : goal.returns-then-eq-clause-shared
returns-then-eq-clause-shared g c =
    let calls = c.hear-next.ensures.calls in
    let gone = c.in-Some.ensures.updates in (
      (c.args.key, calls.0) ∷ [],
      only_one c.args.key calls.0,
      shared_one g.S.Settle.answers c.args.service.now c.hear-next.new.service (get c.args.peers.now)
          (get c.try_remove.new.self) c.args.key c.in-Some.peer calls.0 (sym c.in-Some.ensures.value) calls.2 gone.others
          (λ peer is. absurd (true≢false (sym (ap is_some (sym gone.changed ∙ is))))),
    )

pub returns-then-eq-clause-heard : goal.returns-then-eq-clause-heard
returns-then-eq-clause-heard g c =
    let gone = c.in-Some.ensures.updates in
    each_left (IsHeard g.T.Read.remaining) (heard_none g.T.Read.remaining) (get c.args.peers.now) (get c.try_remove.new.self)
    c.args.key gone.others gone.changed

pub returns-clause-shared : goal.returns-clause-shared
returns-clause-shared g c =
    let calls = c.hear-next.ensures.calls in
    let put = c.insert_reserved.ensures in
    let same : c.insert_reserved.result ≡ c.args.key = put.key ∙ c.in-Some.ensures.key_is_next in
    let put_back = get c.insert_reserved.new.self in (
      (c.args.key, calls.0) ∷ [],
      only_one c.args.key calls.0,
      shared_one g.S.Settle.answers c.args.service.now c.hear-next.new.service (get c.args.peers.now)
          put_back c.args.key c.in-Some.peer calls.0 (sym c.in-Some.ensures.value) calls.2
          (λ other apart. put.updates.others other (λ is. apart (is ∙ same)) ∙ c.in-Some.ensures.updates.others other apart)
          (λ peer is.
          let there = one_peer (sym is ∙ ap put_back (sym same) ∙ put.updates.changed) in
          ap (λ p. (history p.connection).calls) there ∙ calls.1),
    )

pub returns-clause-heard : goal.returns-clause-heard
returns-clause-heard g c =
    let put = c.insert_reserved.ensures in
    let same : c.insert_reserved.result ≡ c.args.key = put.key ∙ c.in-Some.ensures.key_is_next in
    each_one (IsHeard g.T.Read.remaining) (heard_none g.T.Read.remaining) (get c.args.peers.now) (get c.insert_reserved.new.self)
    c.args.key c.in-Some.peer (sym c.in-Some.ensures.value)
    (λ other apart. put.updates.others other (λ is. apart (is ∙ same)) ∙ c.in-Some.ensures.updates.others other apart)
    (λ peer is.
    let there = one_peer (sym is ∙ ap (get c.insert_reserved.new.self) (sym same) ∙ put.updates.changed) in
    let it = c.hear-next.ensures.heard in
    subst (IsHeard g.T.Read.remaining c.in-Some.peer) (sym there)
    record { received = it.received; sent = it.sent; since = it.since })

pub returns-clause-rests : goal.returns-clause-rests
returns-clause-rests g c =
    let put = c.insert_reserved.ensures in
    let same : c.insert_reserved.result ≡ c.args.key = put.key ∙ c.in-Some.ensures.key_is_next in
    let there = ap (get c.insert_reserved.new.self) (sym same) ∙ put.updates.changed in
    subst IsAtRest (sym there) c.hear-next.ensures.rests

pub returns-clause-waits : goal.returns-clause-waits
returns-clause-waits g c =
    let put = c.insert_reserved.ensures in
    let same : c.insert_reserved.result ≡ c.args.key = put.key ∙ c.in-Some.ensures.key_is_next in
    let there = ap (get c.insert_reserved.new.self) (sym same) ∙ put.updates.changed in
    let undone : c.hear-next.result ≢ Done = search rules in
    subst AwaitsUnlessNoted (sym there)
    (λ unnoted. awaits_input c.hear-next.new.peer.connection c.hear-next.ensures.rests
    (c.hear-next.ensures.waits undone (sym c.goes_on.ensures ∙ unnoted)))
