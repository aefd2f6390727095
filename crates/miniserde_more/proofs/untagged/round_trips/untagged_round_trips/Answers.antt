-- The value that the tree means makes an enum that it means.
use Rattle.miniserde_laws.proofs.Cases.{enum-round_trips}
use Rattle.miniserde_more.proofs.untagged.round_trips.untagged_round_trips.Goals as goal

pub returns : goal.returns
returns g c = λ v r.
    let s = g.E.UntaggedEnum in
    let f = g.C.RoundTripUntagged in
    enum-round_trips f.valid f.tree f.meaning.reads s.values s.made g.met.E.UntaggedEnum.bijective.1 v
    (c.round_trips.ensures.round_trips c.requires (s.values v) r)
