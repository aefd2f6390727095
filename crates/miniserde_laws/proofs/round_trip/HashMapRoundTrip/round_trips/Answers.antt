-- Each key and each value reads again, and so does the map.
use Rattle.std.proofs.Common.{refl}
use Rattle.std_collections.specs.Layout.HashMap.{hash_map, hasher_of, spare}
use Rattle.miniserde_laws.proofs.Maps.{round_trips-hashed}
use Rattle.miniserde_laws.proofs.round_trip.HashMapRoundTrip.round_trips.Goals as goal

pub returns : goal.returns
returns g c = λ m r.
    let v = g.V.FromJson.means in
    let k = g.K.MapKey in
    let laws = g.met.K.MapKey in
    round_trips-hashed k.read k.code k.content k.text g.K.Ranged.valid g.V.Ranged.valid g.V.Serialize.tree v.from_tree v.reads
    (λ t w h. rw ((v.reads_agrees t w).0 h) refl) laws.back laws.one_text c.round_trips.ensures
    g.K.PartialEq.eq laws.alike (λ m. m.entries) (λ m es. hash_map es (hasher_of m) (spare m)) (λ m es. refl) m r
