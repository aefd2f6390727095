-- What was heard, what the service settled, and what became of the connections: first of those that were heard, then of the others.
-- A key may be among both.
use Rattle.std.proofs.Common.{◌≡◌, ◌++◌, List, ℕ, true, false, None, take, drop, sym, ap, subst, ◌∙◌}
use Rattle.std.proofs.lemmas.List.{take-append-drop}
use Rattle.std.specs.List.{AllByRecursion}
use Rattle.slab.specs.Slab.{get}
use Rattle.turns.specs.Shared.{IsNotAmong, OthersStay}
use Rattle.turns.specs.Settled.{IsSpoken, AwaitsUnlessNoted, AwaitsStream, HaveProgressed, IsCounted}
use Rattle.turns.proofs.SharedLemmas.{all_left, all_right, all_both, all_map, entries_also}
use Rattle.turns.proofs.SettledLemmas.{spoken_then, each_then, still_none}
use Rattle.turns.proofs.ProgressLemmas.{have_first, have_then}
use Rattle.turns.proofs.settled.settled_round.Goals as goal

pub returns-clause-settled : goal.returns-clause-settled
returns-clause-settled g c =
    let known = g.T.Write.contents in
    let keys = c.args.keys.now in
    let n = c.hear_all-heard.result in
    let before = get c.args.peers.now in
    let heard = get c.hear_all-heard.new.peers in
    let middle = get c.end_heard.new.peers in
    let after = get c.speak_all.new.peers in
    let hear = c.hear_all-heard.ensures in
    let end = c.end_heard.ensures in
    let late = c.speak_all.ensures in
    let front = c.split_at.ensures.front in
    let back = c.split_at.ensures.back in
    let reads = end.goes_on.0 in
    let writes = late.goes_on.0 in
    let middle_items = c.end_heard.new.unfinished.items in
    let items = c.speak_all.new.unfinished.items in
    let waits : AllByRecursion (λ k. IsNotAmong middle_items k → AwaitsStream (middle k)) (take n keys) =
    subst (AllByRecursion (λ k. IsNotAmong middle_items k → AwaitsStream (middle k))) front
    (end.waits (subst (AllByRecursion (λ k. AwaitsUnlessNoted (heard k))) (sym front) hear.waits)) in
    let others : OthersStay (drop n keys) middle after = subst (λ ks. OthersStay ks middle after) back late.others in
    let counted : AllByRecursion (λ k. IsCounted (after k)) (drop n keys) =
    subst (AllByRecursion (λ k. IsCounted (after k))) back late.counted in (
      hear.shared.0,
      record {
        called = c.hear_all-heard.new.service;
        heard = heard;
        shared = hear.shared.2;
        among = hear.shared.1;
        settled = c.settle-stands.ensures;
        round = record {
          count = hear.count;
          rests = hear.rests;
          received = hear.heard;
          held = hear.others;
          sent = each_then (IsSpoken known) (spoken_then known) heard middle after end.spoken late.spoken;
          gone = λ lost. all_map (λ k. middle k ≡ None) (λ k. after k ≡ None) (take n keys)
              (λ k none. still_none (IsSpoken known) middle after late.spoken k none)
              (subst (AllByRecursion (λ k. middle k ≡ None)) front (end.gone lost));
          others = λ other apart.
              let all = subst (λ ks. IsNotAmong ks other) (sym (take-append-drop n keys)) apart in
              let first = all_left (λ k. k ≡ other → ⊥) (take n keys) (drop n keys) all in
              others other (all_right (λ k. k ≡ other → ⊥) (take n keys) (drop n keys) all)
              ∙ end.others other (subst (λ ks. IsNotAmong ks other) (sym front) first)
              ∙ hear.others other first;
          reads = reads;
          writes = writes;
          unfinished = late.goes_on.1
              ∙ ap (λ (l : List ℕ). l ++ writes) (end.goes_on.1 ∙ ap (λ (l : List ℕ). l ++ reads) c.in_ok-unfinished.ensures.items);
          read_on = have_first known true heard middle after end.spoken late.spoken (take n keys) reads
              (subst (λ ks. HaveProgressed true ks heard middle reads) front end.goes_on.2);
          write_on = have_then known false heard middle after end.spoken late.spoken (drop n keys) writes
              (subst (λ ks. HaveProgressed false ks middle after writes) back late.goes_on.2);
          waits = all_map (λ k. IsNotAmong middle_items k → AwaitsStream (middle k))
              (λ k. IsNotAmong items k → IsNotAmong (drop n keys) k → AwaitsStream (after k)) (take n keys)
              (λ k had apart aside. subst AwaitsStream (sym (others k aside))
              (had (all_left (λ i. i ≡ k → ⊥) middle_items writes (subst (λ l. IsNotAmong l k) late.goes_on.1 apart)))) waits;
          counted = subst (AllByRecursion (λ k. IsCounted (after k))) (take-append-drop n keys)
              (all_both (λ k. IsCounted (after k)) (take n keys) (drop n keys)
              (all_map (λ k. IsCounted (middle k)) (λ k. IsCounted (after k)) (take n keys)
              (entries_also IsCounted middle after (drop n keys) others counted)
              (subst (AllByRecursion (λ k. IsCounted (middle k))) front end.counted)) counted);
        };
      },
    )
