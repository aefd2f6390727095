-- Values of variants with one tree have one content. `case-named` says that no value is written by a name that is not
-- one of the variants', and `case-same` compares two values; two values of the first variant are both the unit.
use Rattle.std.proofs.Common.{None, refl}
use Rattle.std.specs.Prelude.{⊤}
use Rattle.miniserde_enum.specs.Tagging.{variant_of_tree}
use Rattle.miniserde_enum.specs.Cases.{unit_tree}
use Rattle.miniserde_laws.proofs.Cases.{case-named, case-same}
use Rattle.miniserde_laws.proofs.enums.lossless.UnitCaseLosslessCases.lossless.Goals as goal

pub returns-clause-named : goal.returns-clause-named
returns-clause-named g c = λ tagging names v n o s f r h e.
    let m = g.R.LosslessCases in
    case-named {C = Unit {0}} (variant_of_tree tagging) (λ u. u) m.meaning.content (λ (u : Unit {0}). ⊤)
    (unit_tree tagging) (λ n x r. (None, s.0 n)) (λ n x y r s e. refl) m.valid (m.tree tagging) m.meaning.count
    (λ ns w k o. c.lossless.ensures.named tagging ns w k o s.1) (λ ns v w. c.lossless.ensures.same tagging ns v w s.1) names v n o f r h e

pub returns-clause-same : goal.returns-clause-same
returns-clause-same g c = λ tagging names v w s f r q e.
    let m = g.R.LosslessCases in
    case-same {C = Unit {0}} (variant_of_tree tagging) (λ u. u) m.meaning.content (λ (u : Unit {0}). ⊤)
    (unit_tree tagging) (λ n x r. (None, s.0 n)) (λ n x y r s e. refl) m.valid (m.tree tagging) m.meaning.count
    (λ ns w k o. c.lossless.ensures.named tagging ns w k o s.1) (λ ns v w. c.lossless.ensures.same tagging ns v w s.1) names v w f r q e
