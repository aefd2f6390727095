-- The tree gives a content for a later variant, so it is of its kind, and gives none for the first (`no_first`).
use Rattle.miniserde_more.specs.laws.Kinds.{no_first}
use Rattle.miniserde_more.proofs.untagged.cases.later_alone.Goals as goal

pub returns : goal.returns
returns g c = λ t w h.
    let r = g.R.UntaggedCases in
    no_first g.T.Kinds.KindSet.kinds r.kinds g.T.FromJson.means.from_tree r.meaning.from_tree g.met.T.HasKinds.only
    g.met.R.UntaggedCases.only c.requires t (r.meaning.content w) ((r.meaning.reads_agrees t w).0 h)
