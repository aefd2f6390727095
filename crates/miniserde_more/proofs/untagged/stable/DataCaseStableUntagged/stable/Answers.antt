-- The normal form of a tree is of its kind, so it means the same variant (`untagged-stable`).
use Rattle.miniserde_enum.specs.laws.Cases.{both}
use Rattle.miniserde_more.specs.Kinds.{apart}
use Rattle.miniserde_more.specs.laws.Untagged.{of-first}
use Rattle.miniserde_more.proofs.UntaggedLaws.{untagged-stable}
use Rattle.miniserde_more.proofs.untagged.stable.DataCaseStableUntagged.stable.Goals as goal

pub returns-clause-only : goal.returns-clause-only
returns-clause-only g c =
    let r = g.R.StableUntagged in
    of-first g.T.Kinds.KindSet.kinds r.kinds g.T.FromJson.means.from_tree r.meaning.from_tree
    g.met.T.HasKinds.only c.stable-2.ensures.only

pub returns-clause-stable : goal.returns-clause-stable
returns-clause-stable g c = λ d.
    let a = g.T.Kinds.KindSet.kinds in
    let r = g.R.StableUntagged in
    let e = both (apart a r.kinds) r.disjoint d in
    untagged-stable a r.kinds g.T.FromJson.means.from_tree r.meaning.from_tree g.met.T.HasKinds.only
    c.stable-2.ensures.only e.0 c.stable.ensures (c.stable-2.ensures.stable e.1)
