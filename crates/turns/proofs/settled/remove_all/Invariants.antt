-- The connections of the keys so far are gone, and each that is left is as it was.
use Rattle.std.proofs.Common.{◌≡◌, None, take}
use Rattle.std.specs.List.{AllByRecursion}
use Rattle.slab.specs.Slab.{get}
use Rattle.turns.specs.Shared.{OthersStay}
use Rattle.turns.specs.Settled.{AreLeft}
use Rattle.turns.proofs.settled.remove_all.Given as goal

abbrev pub invariant-loop-key : goal.invariant-loop-key
invariant-loop-key g l =
    AreLeft (get l.fn.peers) (get l.peers) × AllByRecursion (λ key. get l.peers key ≡ None) (take l.key-index l.keys)
    × OthersStay (take l.key-index l.keys) (get l.fn.peers) (get l.peers)
