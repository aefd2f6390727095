-- If no written member has the name of the tag, internal tagging fits the first variant (`inside-fits`) and the later ones.
-- The test of the tag is a conjunction, which `both` splits.
use Rattle.std.proofs.Common.{◌&&◌}
use Rattle.miniserde_record.specs.Structs.{is_new}
use Rattle.miniserde_enum.specs.laws.Cases.{both}
use Rattle.miniserde_enum.proofs.Fits.{inside-fits}
use Rattle.miniserde_enum.proofs.inside.DataCaseInsideCases.fit.Goals as goal

pub returns : goal.returns
returns g c = λ tag h.
    let i = g.T.Inside in
    let a = both (i.left_out tag && is_new tag i.fields) (g.R.InsideCases.apart tag) h in (
      inside-fits tag g.T.Ranged.valid g.T.Serialize.tree c.is_object.ensures.object (λ v. c.is_object.ensures.named tag v a.0),
      c.fit.ensures tag a.1,
    )
