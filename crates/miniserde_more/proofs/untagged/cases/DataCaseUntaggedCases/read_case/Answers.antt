-- The token's kind tells whether the first variant may be read. Either way what the call for the data says is said of
-- all the variants (`first_none`, `later_given`; `search` finds the other two).
use Rattle.std.proofs.Common.{sym, ◌∙◌}
use Rattle.miniserde_read.proofs.Calls.{reads_failed, reads_value}
use Rattle.miniserde_enum.specs.laws.Cases.{both}
use Rattle.miniserde_more.specs.Kinds.{apart}
use Rattle.miniserde_more.proofs.UntaggedFirsts.{first_none, later_given}
use Rattle.miniserde_more.proofs.untagged.cases.DataCaseUntaggedCases.read_case.Goals as goal

pub returns-in_err-read : goal.returns-in_err-read
returns-in_err-read g c = reads_failed _ c.from_residual.ensures.1 (λ e.
    let a = g.T.Kinds.KindSet.kinds in
    let r = g.R.UntaggedCases in
    first_none a r.kinds _ r.meaning.from_tree c.args.token _ (both (apart a r.kinds) r.disjoint c.requires.disjoint).0
    g.met.R.UntaggedCases.only (sym c.has.ensures ∙ c.if-has.true) (c.in_err-read.ensures.invalid e))

pub read_case-requires-clause-disjoint : goal.read_case-requires-clause-disjoint
read_case-requires-clause-disjoint g c =
    let r = g.R.UntaggedCases in
    (both (apart g.T.Kinds.KindSet.kinds r.kinds) r.disjoint c.requires.disjoint).1

pub returns-in_ok-read_case : goal.returns-in_ok-read_case
returns-in_ok-read_case g c = reads_value _ c.in_ok-read_case.ensures.going
    (later_given g.T.Kinds.KindSet.kinds g.R.UntaggedCases.kinds g.T.FromJson.means.from_tree _ c.args.token _
    g.met.T.HasKinds.only (sym c.has.ensures ∙ c.if-has.false) c.in_ok-read_case.ensures.ok)
