-- The tree of a variant is read as that variant (`case-round_trips`): the first one by the round trip of its data
-- (`data-round_trips`), a later one by the law of the chain.
use Rattle.miniserde_enum.specs.Cases.{data_content, DataReads, data_tree}
use Rattle.miniserde_enum.specs.laws.Cases.{data-agrees}
use Rattle.miniserde_laws.proofs.Cases.{data-round_trips, case-round_trips}
use Rattle.miniserde_laws.proofs.enums.round_trips.DataCaseRoundTripCases.round_trips.Goals as goal

pub returns-clause-round_trips : goal.returns-clause-round_trips
returns-clause-round_trips g c = λ tagging names v s f r.
    let p = g.T.FromJson.means in
    let valid = g.T.Ranged.valid in
    let tree = g.T.Serialize.tree in
    let m = g.R.RoundTripCases in
    let n = m.meaning in
    case-round_trips (data_content p.from_tree) (DataReads p.reads) p.content
    (data-agrees p.reads p.from_tree p.content p.reads_agrees) n.content_by_name n.reads n.content n.fresh
    n.agrees tagging
    valid (data_tree tagging tree) (data-round_trips valid tree p.reads c.round_trips.ensures tagging s.0) m.valid
    (m.tree tagging) n.count (λ ns w. c.round_trips-2.ensures.round_trips tagging ns w s.1) names v f r
