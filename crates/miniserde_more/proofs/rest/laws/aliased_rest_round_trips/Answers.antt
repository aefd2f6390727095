-- None of the written names is an alias, so the written members keep their names (`written_alone`). They are read as without
-- aliases (`rest_round_trips`).
use Rattle.std.proofs.Common.{[], ◌++◌, sym, subst, string_bytes, BTreeMap, String, Global}
use Rattle.miniserde_more.specs.Rest.{alias_names}
use Rattle.miniserde_more.specs.RestMeaning.{with_rest}
use Rattle.miniserde_more.proofs.RestAliases.{written_alone}
use Rattle.miniserde_more.proofs.rest.laws.aliased_rest_round_trips.Goals as goal

pub returns : goal.returns
returns g c = λ v r.
    let s = g.S.Record in
    let ps = g.S.HasAliases.aliases in
    let more = g.A.TakenNames.further in
    let f = g.F.RoundTripFields in
    let n = with_rest string_bytes s.names (alias_names ps ++ more) g.V.FromJson.means
    (λ (x : BTreeMap (String Global) g.row.V.Denot). x.entries) f.meaning in
    let same = sym (written_alone string_bytes g.V.Serialize.tree ps s.names (f.trees (s.values v).1) more (s.values v).0.entries
    g.met.S.HasAliases.apart) in
    let a = c.rest_round_trips.ensures v r in (
      (a.0.0, a.0.1, subst (λ ms. n.reads [] s.names ms (s.values a.0.0)) same a.0.2),
      λ w q h. a.1 w q (subst (λ ms. n.reads [] s.names ms (s.values w)) (sym same) h),
    )
