-- Each key and each value reads again, and so does the map.
use Rattle.std.proofs.Common.{refl, sym, ◌∙◌}
use Rattle.std_collections.specs.Layout.BTreeMap.{with_entries}
use Rattle.miniserde_laws.proofs.Maps.{round_trips-sorted}
use Rattle.miniserde_laws.proofs.round_trip.BTreeMapRoundTrip.round_trips.Goals as goal

pub returns : goal.returns
returns g c = λ m r.
    let v = g.V.FromJson.means in
    let k = g.K.MapKey in
    let laws = g.met.K.MapKey in
    round_trips-sorted k.read k.code k.content k.text g.K.Ranged.valid g.V.Ranged.valid g.V.Serialize.tree v.from_tree v.reads
    (λ t w h. rw ((v.reads_agrees t w).0 h) refl) laws.back laws.one_text c.round_trips.ensures
    g.K.Ord.cmp g.met.K.Ord.total (λ a b. sym (g.met.K.Ord.matches_eq a b) ∙ laws.alike a b)
    (λ m. m.entries) with_entries (λ m es. refl) m r
