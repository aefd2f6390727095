-- One connection after another is gone.
use Rattle.std.proofs.Common.{◌≡◌, None, take, get_or, refl, sym, subst, ◌∙◌, rules}
use Rattle.std.proofs.lemmas.List.{take_more}
use Rattle.std.specs.List.{AllByRecursion}
use Rattle.slab.specs.Slab.{get}
use Rattle.turns.specs.Shared.{OthersStay}
use Rattle.turns.proofs.SharedLemmas.{stay_then, entries_then}
use Rattle.turns.proofs.SettledLemmas.{each_then, each_left}
use Rattle.turns.proofs.settled.remove_all.Goals as goal

pub loop-key-preserved : goal.loop-key-preserved
loop-key-preserved g c =
    let before = get c.loop-key.peers in
    let after = get c.try_remove.new.self in
    let keys = c.args.keys.now in
    let i = c.loop-key.key-index in
    let key = get_or keys i 0 in
    let more = sym (take_more keys i 0 (search rules)) in
    let gone = c.try_remove.ensures.updates in (
      each_then (λ was peer. peer ≡ was) (λ a b d x y. y ∙ x) (get c.args.peers.now) before after c.loop-key.invariant.0
          (each_left (λ was peer. peer ≡ was) (λ peer. refl) before after key gone.others gone.changed),
      subst (AllByRecursion (λ k. after k ≡ None)) more
          (entries_then (λ o. o ≡ None) before after key (take i keys) gone.changed gone.others c.loop-key.invariant.1),
      subst (λ ks. OthersStay ks (get c.args.peers.now) after) more
          (stay_then (get c.args.peers.now) before after key (take i keys) c.loop-key.invariant.2 gone.others),
    )
