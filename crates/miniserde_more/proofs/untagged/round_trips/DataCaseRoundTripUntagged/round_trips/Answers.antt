-- The tree of the data is read as that variant (`untagged-round_trips`), since no other one has its kind.
use Rattle.miniserde_enum.specs.laws.Cases.{both}
use Rattle.miniserde_more.specs.Kinds.{apart}
use Rattle.miniserde_more.specs.laws.Untagged.{of-first}
use Rattle.miniserde_more.proofs.UntaggedLaws.{untagged-round_trips}
use Rattle.miniserde_more.proofs.untagged.round_trips.DataCaseRoundTripUntagged.round_trips.Goals as goal

pub returns-clause-only : goal.returns-clause-only
returns-clause-only g c =
    let r = g.R.RoundTripUntagged in
    of-first g.T.Kinds.KindSet.kinds r.kinds g.T.FromJson.means.from_tree r.meaning.from_tree
    g.met.T.HasKinds.only c.round_trips-2.ensures.only

pub returns-clause-round_trips : goal.returns-clause-round_trips
returns-clause-round_trips g c = λ d v s.
    let p = g.T.FromJson.means in
    let a = g.T.Kinds.KindSet.kinds in
    let r = g.R.RoundTripUntagged in
    let n = r.meaning in
    let e = both (apart a r.kinds) r.disjoint d in
    untagged-round_trips g.T.Ranged.valid g.T.Serialize.tree p.reads p.from_tree p.content p.reads_agrees
    c.round_trips.ensures a g.met.T.HasKinds.only r.valid r.tree n.reads n.from_tree n.content n.reads_agrees
    (c.round_trips-2.ensures.round_trips e.1) r.kinds c.round_trips-2.ensures.only e.0 v s
