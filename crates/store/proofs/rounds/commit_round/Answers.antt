-- What the statement that commits a transaction says.
use Rattle.std.proofs.Common.{◌≡◌, ◌⊎◌, inr, true, false, if◌then◌else◌, IsTrue, rules, subst, sym}
use Rattle.sqlite.specs.Held.{state}
use Rattle.store.specs.Rounds.{IsBetween}
use Rattle.store.proofs.RoundLemmas.{was_outside, commits}
use Rattle.store.proofs.rounds.commit_round.Goals as goal

pub returns-then-not-is_in_transaction : goal.returns-then-not-is_in_transaction
returns-then-not-is_in_transaction g c clean =
    let old = state g.S.Store c.args.conn.now in
    let outside : old.in_transaction ≡ false = search rules in (
      clean,
      λ begun m way.
          let was = was_outside begun m old way outside in
          (was.0, λ _. inr was.1),
    )

pub returns : goal.returns
returns g c clean =
    let old = state g.S.Store c.args.conn.now in
    let new = state g.S.Store c.commit.new.conn in
    let inside : old.in_transaction ≡ true = search rules in
    let it = c.commit.ensures in (
      it.clean clean,
      λ begun m way.
          subst (λ v. IsBetween (if v then m else begun) new v × (IsTrue v → IsTrue new.is_open ⊎ (m ≡ begun)))
          (sym c.is_ok.ensures.value)
          (commits begun m old new c.commit.result way inside (it.committed clean) (it.aborts clean)),
    )
