-- Values of variants with one tree have one content. `case-named` says that no value is written by a name that is not
-- one of the variants', and `case-same` compares two values, by `data-same` for the data of the first variant.
use Rattle.std.proofs.Common.{Some}
use Rattle.miniserde_enum.specs.Tagging.{variant_of_tree}
use Rattle.miniserde_enum.specs.Cases.{data_tree}
use Rattle.miniserde_laws.proofs.Cases.{case-named, case-same, data-same}
use Rattle.miniserde_laws.proofs.enums.lossless.DataCaseLosslessCases.lossless.Goals as goal

pub returns-clause-named : goal.returns-clause-named
returns-clause-named g c = λ tagging names v n o s f r h e.
    let m = g.R.LosslessCases in
    let tree = g.T.Serialize.tree in
    let valid = g.T.Ranged.valid in
    case-named (variant_of_tree tagging) g.T.FromJson.means.content m.meaning.content valid (data_tree tagging tree)
    (λ n x r. (Some (tree x), s.0 n x r))
    (data-same tagging valid tree s.0 g.T.FromJson.means.content c.lossless.ensures) m.valid (m.tree tagging)
    m.meaning.count
    (λ ns w k o. c.lossless-2.ensures.named tagging ns w k o s.1)
    (λ ns v w. c.lossless-2.ensures.same tagging ns v w s.1) names v n o f r h e

pub returns-clause-same : goal.returns-clause-same
returns-clause-same g c = λ tagging names v w s f r q e.
    let m = g.R.LosslessCases in
    let tree = g.T.Serialize.tree in
    let valid = g.T.Ranged.valid in
    case-same (variant_of_tree tagging) g.T.FromJson.means.content m.meaning.content valid (data_tree tagging tree)
    (λ n x r. (Some (tree x), s.0 n x r))
    (data-same tagging valid tree s.0 g.T.FromJson.means.content c.lossless.ensures) m.valid (m.tree tagging)
    m.meaning.count
    (λ ns w k o. c.lossless-2.ensures.named tagging ns w k o s.1) (λ ns v w. c.lossless-2.ensures.same tagging ns v w s.1) names v w f r q e
