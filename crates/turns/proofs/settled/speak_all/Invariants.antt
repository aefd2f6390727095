-- What was said so far, and what became of the connections of the keys so far. The unfinished keys have room for each key that is left.
use Rattle.std.proofs.Common.{◌≡◌, ◌≤◌, ◌+◌, ◌++◌, List, ℕ, IsTrue, take, vec_len, vec_capacity}
use Rattle.std.specs.List.{AllByRecursion}
use Rattle.slab.specs.Slab.{get}
use Rattle.turns.specs.Shared.{IsNotAmong, OthersStay}
use Rattle.turns.specs.Settled.{AreSpoken, HaveProgressed, AwaitsUnlessNoted, AwaitsStream, IsCounted}
use Rattle.turns.proofs.settled.speak_all.Given as goal

abbrev pub invariant-loop-key : goal.invariant-loop-key
invariant-loop-key g l =
    AreSpoken g.T.Write.contents (get l.fn.peers) (get l.peers)
    × OthersStay (take l.key-index l.keys) (get l.fn.peers) (get l.peers)
    × ((found : List ℕ) × (l.unfinished.items ≡ l.fn.unfinished.items ++ found)
    × HaveProgressed l.heard (take l.key-index l.keys) (get l.fn.peers) (get l.peers) found)
    × (IsTrue l.heard → AllByRecursion (λ key. AwaitsUnlessNoted (get l.fn.peers key)) l.keys
    → AllByRecursion (λ key. IsNotAmong l.unfinished.items key → AwaitsStream (get l.peers key)) (take l.key-index l.keys))
    × AllByRecursion (λ key. IsCounted (get l.peers key)) (take l.key-index l.keys)
    × (vec_len l.unfinished ≤ vec_len l.fn.unfinished + l.key-index)
    × (vec_capacity l.fn.unfinished ≤ vec_capacity l.unfinished)
