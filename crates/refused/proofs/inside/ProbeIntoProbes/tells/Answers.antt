-- A field and the later ones (`field-right`, `into-wrong`).
use Rattle.miniserde.specs.Fields.{field_rule}
use Rattle.refused.specs.Wrong.{later_names}
use Rattle.refused.proofs.Fields.{before_later, field-right, into-wrong, later-apart}
use Rattle.refused.proofs.inside.ProbeIntoProbes.tells.Goals as goal

pub returns-clause-right : goal.returns-clause-right
returns-clause-right g c =
    let of = g.T.FromJson.means in
    let m = g.R.Probes in
    let names = g.N.Names.names in
    λ before apart.
    field-right (field_rule g.M.Repeats.once g.M.Mark.given of g.T.FromJson.absent) m.meaning.from_members
    m.meaning.empty before names apart g.W.Way.is_way (m.right g.W.Way.gives (later_names names))
    (c.tells.ensures.right (before_later before names) (later-apart before names apart))

pub returns-clause-wrong : goal.returns-clause-wrong
returns-clause-wrong g c =
    let of = g.T.FromJson.means in
    let m = g.R.Probes in
    let names = g.N.Names.names in
    λ before apart path t.
    into-wrong (field_rule g.M.Repeats.once g.M.Mark.given of g.T.FromJson.absent) m.meaning.from_members
    m.meaning.empty before names apart g.W.Way.is_way path t (c.by_fields.ensures.wrong path t)
    (c.tells.ensures.wrong (before_later before names) (later-apart before names apart) path t)
