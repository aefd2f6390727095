-- The one name finds both values.
use Rattle.std.proofs.Common.{◌≡◌, sym, ap, ◌∙◌}
use Rattle.std.proofs.lemmas.Option.{same_Some}
use Rattle.miniserde_record.specs.Names.{find_variant}
use Rattle.miniserde_laws.proofs.structs.unit_enums.variant_lossless.Goals as goal

pub returns : goal.returns
returns g c = λ v w r q e.
    let t = g.T.UnitEnum in
    let found = t.found in
    let same : t.name_of v ≡ t.name_of w = cc in
    same_Some _ _ (sym (found v) ∙ ap (find_variant t.name_of t.all) same ∙ found w)
