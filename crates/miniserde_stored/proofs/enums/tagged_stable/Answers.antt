-- An object has the same tag in normal form, and the content of its other members is stable by the law of the
-- variants (`tagged-stable`).
use Rattle.miniserde_stored.proofs.Tags.{tagged-stable}
use Rattle.miniserde_stored.proofs.enums.tagged_stable.Goals as goal

pub returns : goal.returns
returns g c =
    let names = g.E.DataEnum.names in
    tagged-stable g.E.HasTag.tag (g.C.StableCases.meaning.content_by_name names) (c.stable.ensures names)
