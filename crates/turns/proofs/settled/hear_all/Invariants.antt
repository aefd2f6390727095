-- The turns so far, to the keys so far. What was received is what was read, and the connections rest, or are noted to have more to read.
use Rattle.std.proofs.Common.{◌≡◌, take}
use Rattle.std.specs.List.{AllByRecursion}
use Rattle.slab.specs.Slab.{get}
use Rattle.turns.specs.Shared.{Turns, IsShared, IsAtRest, OthersStay}
use Rattle.turns.specs.Settled.{AreHeard, OnlyAmong, AwaitsUnlessNoted}
use Rattle.turns.proofs.settled.hear_all.Given as goal

abbrev pub invariant-loop-key : goal.invariant-loop-key
invariant-loop-key g l =
    ((turns : Turns) × OnlyAmong (take l.key-index l.keys) turns
    × IsShared g.S.Settle.answers l.fn.service l.service (get l.fn.peers) (get l.peers) turns)
    × AreHeard g.T.Read.remaining (get l.fn.peers) (get l.peers)
    × AllByRecursion (λ key. IsAtRest (get l.peers key)) (take l.key-index l.keys)
    × AllByRecursion (λ key. AwaitsUnlessNoted (get l.peers key)) (take l.key-index l.keys)
    × OthersStay (take l.key-index l.keys) (get l.fn.peers) (get l.peers)
    × (l.count ≡ l.key-index)
