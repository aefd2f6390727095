-- None of the written names is an alias, so the written members keep their names (`written_counts`). They are read as
-- without aliases (`record_round_trips`).
use Rattle.std.proofs.Common.{[], sym, subst}
use Rattle.miniserde_record.specs.Structs.{with_names}
use Rattle.miniserde_laws.proofs.Aliases.{written_counts}
use Rattle.miniserde_laws.proofs.structs.round_trips.aliased_round_trips.Goals as goal

pub returns : goal.returns
returns g c = λ v r.
    let s = g.S.Record in
    let f = g.F.RoundTripFields in
    let ms = with_names s.names (f.trees (s.values v)) in
    let same = sym (written_counts g.S.HasAliases.aliases s.names (f.trees (s.values v)) g.met.S.HasAliases.apart) in
    let a = c.record_round_trips.ensures v r in (
      (a.0.0, a.0.1, subst (λ ms. f.meaning.reads [] s.names ms (s.values a.0.0)) same a.0.2),
      λ w q h. a.1 w q (subst (λ ms. f.meaning.reads [] s.names ms (s.values w)) (sym same) h),
    )
