-- The value that the tree means makes an enum that it means.
use Rattle.miniserde_laws.proofs.Fields.{distinct_names}
use Rattle.miniserde_enum.specs.Tagging.{external}
use Rattle.miniserde_laws.proofs.Cases.{enum-round_trips}
use Rattle.miniserde_laws.proofs.enums.round_trips.enum_round_trips.Goals as goal

pub returns : goal.returns
returns g c = λ v r.
    let s = g.E.DataEnum in
    let f = g.C.RoundTripCases in
    let tagging = external in
    enum-round_trips f.valid (f.tree tagging s.names) (f.meaning.reads tagging s.names) s.values s.made g.met.E.DataEnum.bijective.1 v
    (c.round_trips.ensures.round_trips tagging s.names (s.values v) c.round_trips.ensures.external
    (distinct_names f.meaning.count s.names c.requires g.met.E.DataEnum.distinct_names) r)
