-- Data with one tree is of one variant, since no other has its kind (`untagged-same`), and has one content.
use Rattle.miniserde_enum.specs.laws.Cases.{both}
use Rattle.miniserde_more.specs.Kinds.{apart}
use Rattle.miniserde_more.proofs.UntaggedLaws.{tree_of_kind, either_of_kind, untagged-same}
use Rattle.miniserde_more.proofs.untagged.lossless.DataCaseLosslessUntagged.lossless.Goals as goal

pub returns-clause-of_kinds : goal.returns-clause-of_kinds
returns-clause-of_kinds g c =
    let p = g.T.FromJson.means in
    let a = g.T.Kinds.KindSet.kinds in
    let r = g.R.LosslessUntagged in
    either_of_kind g.T.Ranged.valid g.T.Serialize.tree a
    (tree_of_kind g.T.Ranged.valid g.T.Serialize.tree p.reads p.from_tree p.content p.reads_agrees
    c.round_trips.ensures a g.met.T.HasKinds.only)
    r.valid r.tree r.kinds c.lossless-2.ensures.of_kinds

pub returns-clause-same : goal.returns-clause-same
returns-clause-same g c = λ d.
    let p = g.T.FromJson.means in
    let a = g.T.Kinds.KindSet.kinds in
    let r = g.R.LosslessUntagged in
    let e = both (apart a r.kinds) r.disjoint d in
    untagged-same g.T.Ranged.valid g.T.Serialize.tree a
    (tree_of_kind g.T.Ranged.valid g.T.Serialize.tree p.reads p.from_tree p.content p.reads_agrees
    c.round_trips.ensures a g.met.T.HasKinds.only)
    r.valid r.tree r.kinds c.lossless-2.ensures.of_kinds p.content r.meaning.content c.lossless.ensures
    (c.lossless-2.ensures.same e.1) e.0
