-- The values that the fields' trees mean make a struct that the struct's tree means.
use Rattle.std.proofs.Common.{[], sym, ap, subst}
use Rattle.miniserde_model.specs.Tree.{members}
use Rattle.miniserde_laws.proofs.Fields.{distinct_names}
use Rattle.miniserde_record.specs.Structs.{with_names}
use Rattle.miniserde_laws.proofs.structs.round_trips.record_round_trips.Goals as goal

pub returns : goal.returns
returns g c = λ v r.
    let s = g.S.Record in
    let f = g.F.RoundTripFields in
    let a = c.round_trips.ensures s.names (s.values v)
    (distinct_names f.meaning.count s.names c.requires g.met.S.Record.distinct_names) r in
    let same = sym (g.met.S.Record.bijective.1 a.0.0) in (
      (
        s.made a.0.0,
        subst f.valid same a.0.1,
        subst (f.meaning.reads [] s.names (with_names s.names (f.trees (s.values v)))) same a.0.2,
      ),
      λ w q h. ap (λ ts. members (with_names s.names ts)) (a.1 (s.values w) q h),
    )
