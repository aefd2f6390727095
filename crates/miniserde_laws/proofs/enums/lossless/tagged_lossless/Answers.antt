-- Internal tagging fits by the precondition, and the names of the enum are distinct, so `lossless` of the chain
-- applies.
use Rattle.miniserde_laws.proofs.Fields.{distinct_names}
use Rattle.miniserde_enum.specs.Tagging.{internal}
use Rattle.miniserde_laws.proofs.enums.lossless.tagged_lossless.Goals as goal

pub returns : goal.returns
returns g c = λ v w r q e.
    let s = g.E.DataEnum in
    let f = g.C.LosslessCases in
    c.lossless.ensures.same (internal g.E.HasTag.tag) s.names (s.values v) (s.values w) c.requires.fits
    (distinct_names f.meaning.count s.names c.requires.count g.met.E.DataEnum.distinct_names) r q e
