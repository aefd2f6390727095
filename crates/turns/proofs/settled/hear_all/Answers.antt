-- One turn after another, to as many keys as were counted.
use Rattle.std.proofs.Common.{[], ◌++◌, take, get_or, refl, sym, subst, rules}
use Rattle.std.proofs.lemmas.List.{take_more}
use Rattle.std.specs.List.{AllByRecursion}
use Rattle.slab.specs.Slab.{get}
use Rattle.turns.specs.Shared.{IsAtRest, OthersStay}
use Rattle.turns.specs.Settled.{OnlyAmong, IsHeard, AwaitsUnlessNoted}
use Rattle.turns.proofs.SharedLemmas.{shared_none, shared_then, stay_then, entries_then}
use Rattle.turns.proofs.SettledLemmas.{heard_none, heard_then, each_none, each_then, among_none, among_then}
use Rattle.turns.proofs.settled.hear_all.Goals as goal

pub loop-key-init : goal.loop-key-init
loop-key-init g c = (
  ([], among_none, shared_none g.S.Settle.answers c.args.service.now (get c.args.peers.now)),
  each_none (IsHeard g.T.Read.remaining) (heard_none g.T.Read.remaining) (get c.args.peers.now),
  tt,
  tt,
  (λ other apart. refl),
  search rules,
)

pub loop-key-preserved : goal.loop-key-preserved
loop-key-preserved g c =
    let done = c.loop-key.invariant in
    let one = c.hear_peer-made.ensures in
    let keys = c.args.keys.now in
    let i = c.loop-key.key-index in
    let key = get_or keys i 0 in
    let before = get c.loop-key.peers in
    let after = get c.hear_peer-made.new.peers in
    let more = sym (take_more keys i 0 (search rules)) in (
      (
        done.0.0 ++ one.shared.0,
        subst (λ k. OnlyAmong k (done.0.0 ++ one.shared.0)) more
            (among_then key (take i keys) done.0.0 one.shared.0 done.0.1 one.shared.1),
        shared_then g.S.Settle.answers _ _ _ _ _ _ done.0.0 one.shared.0 done.0.2 one.shared.2,
      ),
      each_then (IsHeard g.T.Read.remaining) (heard_then g.T.Read.remaining) (get c.args.peers.now) before after done.1 one.heard,
      subst (AllByRecursion (λ k. IsAtRest (after k))) more
          (entries_then IsAtRest before after key (take i keys) one.rests one.others done.2),
      subst (AllByRecursion (λ k. AwaitsUnlessNoted (after k))) more
          (entries_then AwaitsUnlessNoted before after key (take i keys) one.waits one.others done.3),
      subst (λ ks. OthersStay ks (get c.args.peers.now) after) more
          (stay_then (get c.args.peers.now) before after key (take i keys) done.4 one.others),
      search rules,
    )
