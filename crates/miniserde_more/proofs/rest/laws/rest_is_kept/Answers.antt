-- At a name that is not taken the written object has what the object had that was read (`stays`).
use Rattle.std.proofs.Common.{◌≡◌, [], ◌++◌, ap, ◌∙◌, option_map, string_bytes, BTreeMap, String, Global}
use Rattle.miniserde_model.specs.Normal.{last_of, norm}
use Rattle.miniserde_read.specs.Lookups.{last_in}
use Rattle.miniserde_ser.specs.Trees.{members_of}
use Rattle.miniserde_record.specs.Structs.{with_names}
use Rattle.miniserde_more.specs.Rest.{kept, members_then}
use Rattle.miniserde_more.specs.RestMeaning.{with_rest}
use Rattle.miniserde_more.proofs.RestStays.{stays, names_agree, on_object}
use Rattle.miniserde_more.proofs.rest.laws.rest_is_kept.Goals as goal

pub returns : goal.returns
returns g c = λ t v w r valid same q other.
    let s = g.S.Record in
    let more = g.A.TakenNames.further in
    let f = g.V.Serialize.tree in
    let m = g.V.FromJson.means in
    let ts = g.F.RoundTripFields.trees (s.values w).1 in
    let behind : _ → _ = λ x. last_of q
    (members_then (with_names s.names ts) (members_of string_bytes f (kept string_bytes (more ++ s.names) x.entries))) in
    on_object ((with_rest string_bytes s.names more m (λ (x : BTreeMap (String Global) g.row.V.Denot). x.entries)
    g.F.RoundTripFields.meaning).reads [] s.names) s.values (λ t. behind (s.values w).0 ≡ option_map norm (last_in q t)) v
    (λ ms e. ap behind same
    ∙ stays string_bytes s.names more f m.from_tree m.reads _ (λ a b. names_agree (string_bytes a) (string_bytes b)) c.requires q other ts
    (s.values v).0.entries valid.0 ms e.1) t r
