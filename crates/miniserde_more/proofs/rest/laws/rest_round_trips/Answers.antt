-- The values that the written members mean make a struct that the struct's tree means (`rest-round_trips`).
use Rattle.std.proofs.Common.{◌++◌, refl, string_bytes}
use Rattle.std_collections.specs.Layout.BTreeMap.{with_entries}
use Rattle.miniserde_laws.proofs.Fields.{distinct_names}
use Rattle.miniserde_more.specs.Rest.{kept}
use Rattle.miniserde_more.proofs.RestBeside.{kept_all, kept_sorted}
use Rattle.miniserde_more.proofs.RestRoundTrips.{struct-round_trips}
use Rattle.miniserde_more.proofs.rest.laws.rest_round_trips.Goals as goal

pub returns : goal.returns
returns g c = λ v r.
    let s = g.S.Record in
    let f = g.F.RoundTripFields in
    let ns = s.names in
    let more = g.A.TakenNames.further in
    let taken = more ++ ns in
    struct-round_trips string_bytes ns more g.V.FromJson.means f.meaning c.requires.open
    (λ m. m.entries) _ g.V.Serialize.tree f.valid f.trees
    (λ x. with_entries x (kept string_bytes taken x.entries)) (λ x. refl)
    (λ x h. (kept_sorted taken string_bytes _ x.entries h.0, kept_all taken string_bytes _ x.entries h.1))
    c.round_trips-2.ensures s.values s.made g.met.S.Record.bijective.1 v r.0
    (c.round_trips.ensures ns (s.values v).1 (distinct_names f.meaning.count ns c.requires.count g.met.S.Record.distinct_names) r.1)
