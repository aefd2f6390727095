-- The round is over exactly if the connection is outside of a transaction.
use Rattle.sqlite.specs.Held.{state}
use Rattle.store.proofs.RoundLemmas.{is_over}
use Rattle.store.proofs.rounds.drop_round.Goals as goal

pub returns : goal.returns
returns g c clean =
    let new = state g.S.Store c.roll_back.new.conn in
    let it = c.roll_back.ensures clean in
    (it.0, λ begun off. is_over begun new c.is_in_transaction.result c.is_in_transaction.ensures.value (it.1 begun off))
