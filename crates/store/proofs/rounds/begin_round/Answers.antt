-- What the statement that begins a transaction says.
use Rattle.std.proofs.Common.{◌≡◌, false, IsTrue, rules, subst, sym}
use Rattle.sqlite.specs.Held.{state}
use Rattle.store.specs.Rounds.{IsUnderWay}
use Rattle.store.proofs.RoundLemmas.{begins}
use Rattle.store.proofs.rounds.begin_round.Goals as goal

pub returns : goal.returns
returns g c clean =
    let old = state g.S.Store c.args.conn.now in
    let new = state g.S.Store c.begin.new.conn in
    let outside : old.in_transaction ≡ false = search rules in
    let it = c.begin.ensures in (
      it.clean clean,
      λ begun m way. subst (λ v. IsUnderWay begun new m × (IsTrue v → IsTrue new.in_transaction)) (sym c.is_ok.ensures.value)
          (begins begun m old new c.begin.result way outside (it.begun clean) (it.live clean outside) (it.aborts clean)),
    )
