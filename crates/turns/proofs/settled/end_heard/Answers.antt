-- What is removed has neither progressed nor anything to wait for.
use Rattle.std.proofs.Common.{◌≡◌, None, [], append-nil, sym, subst}
use Rattle.slab.specs.Slab.{get}
use Rattle.turns.specs.Shared.{IsNotAmong}
use Rattle.turns.specs.Settled.{AwaitsStream, IsCounted}
use Rattle.turns.proofs.SharedLemmas.{all_map}
use Rattle.turns.proofs.SettledLemmas.{left_spoken}
use Rattle.turns.proofs.settled.end_heard.Goals as goal

pub returns-then-not-stands-clause-spoken : goal.returns-then-not-stands-clause-spoken
returns-then-not-stands-clause-spoken g c =
    left_spoken g.T.Write.contents (get c.args.peers.now) (get c.remove_all.new.peers) c.remove_all.ensures.left

pub returns-then-not-stands-clause-goes_on : goal.returns-then-not-stands-clause-goes_on
returns-then-not-stands-clause-goes_on g c =
    ([], sym (append-nil c.args.unfinished.now.items), ((λ other apart. tt), tt))

pub returns-then-not-stands-clause-waits : goal.returns-then-not-stands-clause-waits
returns-then-not-stands-clause-waits g c noted =
    let after = get c.remove_all.new.peers in
    all_map (λ k. after k ≡ None) (λ k. IsNotAmong c.args.unfinished.now.items k → AwaitsStream (after k)) c.args.keys.now
    (λ k none apart. subst AwaitsStream (sym none) tt) c.remove_all.ensures.gone

pub returns-then-not-stands-clause-counted : goal.returns-then-not-stands-clause-counted
returns-then-not-stands-clause-counted g c =
    let after = get c.remove_all.new.peers in
    all_map (λ k. after k ≡ None) (λ k. IsCounted (after k)) c.args.keys.now (λ k none. subst IsCounted (sym none) tt)
    c.remove_all.ensures.gone
