-- One connection after another writes. Its key is among the unfinished then, or it waits for its stream.
use Rattle.std.proofs.Common.{◌≡◌, ◌≤◌, ◌+◌, [], ◌∷◌, ◌++◌, List, ℕ, IsTrue, take, drop, length, get_or, vec_len, vec_capacity}
use Rattle.std.proofs.Common.{refl, sym, ap, subst, ◌∙◌, append-nil, append_assoc, rules}
use Rattle.slab.specs.Slab.{get}
use Rattle.std.proofs.lemmas.List.{take_more, take-append-drop}
use Rattle.std.proofs.Math.Seq.{take-length}
use Rattle.std.specs.List.{AllByRecursion}
use Rattle.turns.specs.Shared.{IsNotAmong, OthersStay}
use Rattle.turns.specs.Settled.{IsSpoken, HaveProgressed, AwaitsUnlessNoted, AwaitsStream, IsCounted}
use Rattle.turns.proofs.SharedLemmas.{stay_then, entries_then, all_left, all_front, all_then}
use Rattle.turns.proofs.SettledLemmas.{spoken_none, spoken_then, each_none, each_then}
use Rattle.turns.proofs.ProgressLemmas.{noted_then, one_not, one_more}
use Rattle.turns.proofs.settled.speak_all.Goals.{then-speak_peer+in_ok-push, else-speak_peer}
use Rattle.turns.proofs.settled.speak_all.Goals as goal

pub loop-key-init : goal.loop-key-init
loop-key-init g c = (
  each_none (IsSpoken g.T.Write.contents) (spoken_none g.T.Write.contents) (get c.args.peers.now),
  (λ other apart. refl),
  ([], sym (append-nil c.args.unfinished.now.items), ((λ other apart. tt), tt)),
  (λ heard noted. tt),
  tt,
  search rules,
  search rules,
)

pub loop-key-preserved : goal.loop-key-preserved
loop-key-preserved g c =
    let known = g.T.Write.contents in
    let keys = c.args.keys.now in
    let i = c.loop-key.key-index in
    let key = get_or keys i 0 in
    let first = get c.args.peers.now in
    let before = get c.loop-key.peers in
    let after = get c.speak_peer.new.peers in
    let it = c.speak_peer.ensures in
    let done = c.loop-key.invariant in
    let more = sym (take_more keys i 0 (search rules)) in
    let old = c.args.unfinished.now.items in
    let grown = c.if-speak_peer.unfinished in
    let found = done.2.0 in
    let progressed : (found : List ℕ) × (grown.items ≡ old ++ found)
    × HaveProgressed c.args.heard (take i keys ++ key ∷ []) first after found =
    elim c.if-speak_peer.branch [
      | then-speak_peer+in_ok-push w ↦ (
        found ++ key ∷ [],
        (let pushed : grown.items ≡ c.loop-key.unfinished.items ++ key ∷ [] = search rules in
            pushed ∙ ap (λ (l : List ℕ). l ++ key ∷ []) done.2.1 ∙ append_assoc old found (key ∷ [])),
        one_more known c.args.heard first before after done.0 it.spoken (take i keys) key found (it.goes_on w.if-speak_peer.true) done.2.2,
      )
      | else-speak_peer w ↦ (
        found,
        (let same : grown.items ≡ c.loop-key.unfinished.items = search rules in same ∙ done.2.1),
        one_not known c.args.heard first before after done.0 it.spoken (take i keys) key found done.2.2,
      )
    ] in
    let waits : IsTrue c.args.heard → AllByRecursion (λ k. AwaitsUnlessNoted (first k)) keys
    → AllByRecursion (λ k. IsNotAmong grown.items k → AwaitsStream (after k)) (take i keys ++ key ∷ []) = λ heard noted.
    let own : AwaitsUnlessNoted (before key) = noted_then known first before done.0 key
    (all_front (λ k. AwaitsUnlessNoted (first k)) key (take i keys)
    (subst (AllByRecursion (λ k. AwaitsUnlessNoted (first k))) (sym more)
    (all_left (λ k. AwaitsUnlessNoted (first k)) (take (i + 1) keys) (drop (i + 1) keys)
    (subst (AllByRecursion (λ k. AwaitsUnlessNoted (first k))) (sym (take-append-drop (i + 1) keys)) noted)))).1 in
    elim c.if-speak_peer.branch [
      | then-speak_peer+in_ok-push w ↦
          let pushed : grown.items ≡ c.loop-key.unfinished.items ++ key ∷ [] = search rules in
          all_then (λ k. IsNotAmong c.loop-key.unfinished.items k → AwaitsStream (before k))
          (λ k. IsNotAmong grown.items k → AwaitsStream (after k)) key (take i keys)
          (λ apart. absurd ((all_front (λ k. k ≡ key → ⊥) key c.loop-key.unfinished.items
          (subst (λ l. IsNotAmong l key) pushed apart)).1 refl))
          (λ k other had apart. subst AwaitsStream (sym (it.others k other))
          (had (all_front (λ n. n ≡ k → ⊥) key c.loop-key.unfinished.items (subst (λ l. IsNotAmong l k) pushed apart)).0))
          (done.3 heard noted)
      | else-speak_peer w ↦
          let same : grown.items ≡ c.loop-key.unfinished.items = search rules in
          all_then (λ k. IsNotAmong c.loop-key.unfinished.items k → AwaitsStream (before k))
          (λ k. IsNotAmong grown.items k → AwaitsStream (after k)) key (take i keys)
          (λ apart. it.waits w.if-speak_peer.false heard own)
          (λ k other had apart. subst AwaitsStream (sym (it.others k other)) (had (subst (λ l. IsNotAmong l k) same apart)))
          (done.3 heard noted)
    ] in
    let count : vec_len grown ≤ vec_len c.args.unfinished.now + (i + 1) = elim c.if-speak_peer.branch [
      | then-speak_peer+in_ok-push w ↦ search rules
      | else-speak_peer w ↦ search rules
    ] in
    let room : vec_capacity c.args.unfinished.now ≤ vec_capacity grown = elim c.if-speak_peer.branch [
      | then-speak_peer+in_ok-push w ↦ search rules
      | else-speak_peer w ↦ search rules
    ] in (
      each_then (IsSpoken known) (spoken_then known) first before after done.0 it.spoken,
      subst (λ ks. OthersStay ks first after) more (stay_then first before after key (take i keys) done.1 it.others),
      (progressed.0, progressed.1, subst (λ ks. HaveProgressed c.args.heard ks first after progressed.0) more progressed.2),
      (λ heard noted.
          subst (AllByRecursion (λ k. IsNotAmong grown.items k → AwaitsStream (after k))) more (waits heard noted)),
      subst (AllByRecursion (λ k. IsCounted (after k))) more
          (entries_then IsCounted before after key (take i keys) it.counted it.others done.4),
      count,
      room,
    )

pub returns-clause-goes_on : goal.returns-clause-goes_on
returns-clause-goes_on g c =
    let done = c.loop-key.invariant.2 in
    let last : c.loop-key.key-index ≡ length c.args.keys.now = search rules in
    let all = ap (λ n. take n c.args.keys.now) last ∙ take-length c.args.keys.now in (
      done.0,
      done.1,
      subst (λ ks. HaveProgressed c.args.heard ks (get c.args.peers.now) (get c.loop-key.peers) done.0) all done.2,
    )
