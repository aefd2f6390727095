-- The calls of all turns are answered by a map, which is committed, or none of them is left.
use Rattle.std.proofs.Common.{◌≡◌, ◌⊎◌, IsTrue}
use Rattle.sqlite.specs.Held.{state}
use Rattle.slab.specs.Slab.{get}
use Rattle.sqlite.specs.State.{HasCleanDisk}
use Rattle.turns.specs.Shared.{Turns}
use Rattle.store.specs.Answered.{codec}
use Rattle.store.specs.Maps.{Map}
use Rattle.store.specs.Rounds.{IsBetween}
use Rattle.store.proofs.Steps.{result_by}
use Rattle.store.proofs.ShareLemmas.{Settled, SettledMap, round_of_map}
use Rattle.store.proofs.shared.serve_settled_round.Goals as goal

pub returns-clause-settled : goal.returns-clause-settled
returns-clause-settled g c =
    let of = codec g.V.FromJson.means g.V.Serialize.tree in
    let remaining = g.T.Read.remaining in
    let contents = g.T.Write.contents in
    let call = c.settled_round in
    let old = c.args.service.now in
    let new = call.new.service in
    let before = get c.args.peers.now in
    let after = get call.new.peers in
    result_by call.result
    (λ end. (turns : Turns) × Settled g.S.Store of remaining contents c.args.keys.now old new before after turns end)
    (λ end. HasCleanDisk (state g.S.Store new.0) → (m : Map) → IsBetween m (state g.S.Store old.0) old.1.0 → (turns : Turns) × (last : Map)
    × SettledMap g.S.Store of remaining contents c.args.keys.now old new before after turns m last end
    × IsBetween last (state g.S.Store new.0) new.1.0
    × (IsTrue end.stands → IsTrue new.1.0 × (IsTrue (state g.S.Store new.0).is_open ⊎ (last ≡ m))))
    call.ensures.settled
    (λ end it clean m ready.
    let round = round_of_map g.S.Store of remaining contents c.args.keys.now old new before after it.0 end it.1 clean m ready in
    (it.0, round.0, round.1, round.2, round.3))
