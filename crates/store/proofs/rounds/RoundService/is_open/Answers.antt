-- A query for a row changes nothing between two rounds.
use Rattle.std.proofs.Common.{◌≡◌, true, rules}
use Rattle.sqlite.specs.Held.{state}
use Rattle.store.proofs.RoundLemmas.{stays_between}
use Rattle.store.proofs.rounds.RoundService.is_open.Goals as goal

pub returns-clause-between : goal.returns-clause-between
returns-clause-between g c =
    let old = state g.S.Store c.self.inside.conn in
    let new = state g.S.Store c.has.new.conn in
    let stood : c.self.inside.stands ≡ true = search rules in
    rw (← c.self.view_is)
    (λ clean m between. stays_between m old new c.self.inside.stands stood between (c.has.ensures.serving clean) (c.has.ensures.kept clean))
