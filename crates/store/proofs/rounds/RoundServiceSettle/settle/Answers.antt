-- The round is committed, or dropped: since it did not stand, or since that failed.
use Rattle.std.proofs.Common.{refl, map, string_bytes, ap}
use Rattle.sqlite.specs.Held.{state}
use Rattle.store.proofs.RoundLemmas.{kept_round, lost_round, off_round}
use Rattle.store.proofs.rounds.RoundServiceSettle.settle.Goals.{else-self-via-then-self+else-commit_round, else-self-via-else-self}
use Rattle.store.proofs.rounds.RoundServiceSettle.settle.Goals as goal

pub returns-then-commit_round : goal.returns-then-commit_round
returns-then-commit_round g c =
    let old = state g.S.Store c.self.inside.conn in
    let new = state g.S.Store c.commit_round.new.conn in
    rw (← c.self.view_is)
    (refl, kept_round old new c.self.inside.stands c.commit_round.result c.if-self.true c.if-commit_round.true c.commit_round.ensures)

pub returns : goal.returns
returns g c =
    let old = state g.S.Store c.self.inside.conn in
    let new = state g.S.Store c.drop_round-self-inside.new.conn in
    let drop = c.drop_round-self-inside in
    elim c.else-self.branch [
      | else-self-via-then-self+else-commit_round w ↦
          rw (← c.self.view_is) (
            ap (λ service. map string_bytes service.hosts.items) w.self-inside-is,
            lost_round old (state g.S.Store w.commit_round.new.conn) new c.self.inside.stands w.commit_round.result drop.result
                w.if-self.true w.if-commit_round.false w.commit_round.ensures (rw w.self-inside-is at drop.ensures),
          )
      | else-self-via-else-self w ↦
          rw (← c.self.view_is) (
            ap (λ service. map string_bytes service.hosts.items) w.self-inside-is,
            off_round old new c.self.inside.stands drop.result w.if-self.false (rw w.self-inside-is at drop.ensures),
          )
    ]
