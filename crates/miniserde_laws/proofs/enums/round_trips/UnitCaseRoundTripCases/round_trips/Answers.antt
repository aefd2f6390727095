-- The tree of a variant is read as that variant (`case-round_trips`): the first one has no data (`unit-round_trips`),
-- and a later one goes by the law of the chain.
use Rattle.miniserde_enum.specs.Cases.{unit_content, UnitReads, unit_tree}
use Rattle.miniserde_enum.specs.laws.Cases.{unit-agrees}
use Rattle.miniserde_laws.proofs.Cases.{unit-round_trips, case-round_trips}
use Rattle.miniserde_laws.proofs.enums.round_trips.UnitCaseRoundTripCases.round_trips.Goals as goal

pub returns-clause-round_trips : goal.returns-clause-round_trips
returns-clause-round_trips g c = λ tagging names v s f r.
    let m = g.R.RoundTripCases in
    let n = m.meaning in
    case-round_trips unit_content UnitReads (λ u. u) unit-agrees n.content_by_name n.reads n.content n.fresh
    n.agrees tagging _ (unit_tree tagging) (unit-round_trips tagging s.0) m.valid (m.tree tagging) n.count
    (λ ns w. c.round_trips.ensures.round_trips tagging ns w s.1) names v f r
