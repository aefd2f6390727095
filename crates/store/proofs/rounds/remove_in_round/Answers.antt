-- The transaction of the round was begun, or could not be, and the row was removed inside of it.
use Rattle.std.proofs.Common.{◌≡◌, true, Some, inr, refl, rules}
use Rattle.sqlite.specs.Held.{state}
use Rattle.store.specs.Answered.{outcome, Removes}
use Rattle.store.specs.Maps.{RemovesMap}
use Rattle.store.proofs.MapLemmas.{removes_map}
use Rattle.store.proofs.RoundLemmas.{was_inside, called}
use Rattle.store.proofs.rounds.remove_in_round.Goals as goal

pub returns-then-not-begin_round : goal.returns-then-not-begin_round
returns-then-not-begin_round g c clean =
    let it = c.begin_round.ensures clean in (
      it.0,
      λ begun m way. (
        m,
        (it.1 begun m way).0,
        λ _. inr (refl, inr (inr (record { status = refl; headers = c.requires.headers; body = c.requires.body }))),
      ),
    )

pub returns : goal.returns
returns g c clean =
    let mid = state g.S.Store c.begin_round.new.conn in
    let new = state g.S.Store c.remove.new.conn in
    let headers = c.args.headers.now in
    let key = c.args.key.now in
    let response = c.remove.new.response in
    let it = c.remove.ensures clean in
    let begin = c.begin_round.ensures it.0 in (
      begin.0,
      λ begun m way.
          let on = begin.1 begun m way in
          let inside : mid.in_transaction ≡ true = on.1 (search rules) in
          let (base, s, is, sees) = was_inside begun m mid on.0 inside in
          called begun base new (Removes (outcome mid response new) headers key)
          (λ after. RemovesMap (outcome m response after) headers key)
          c.is_in_transaction.result is (it.1 (Some base) s) (removes_map mid new m sees headers key response)
          c.is_in_transaction.ensures.value,
    )
