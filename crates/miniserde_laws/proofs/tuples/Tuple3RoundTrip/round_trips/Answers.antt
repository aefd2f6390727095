-- A tuple reads as the tuple of what its three items read as, by the round trip of each.
use Rattle.std.proofs.Common.{refl}
use Rattle.miniserde_laws.proofs.tuples.Tuple3RoundTrip.round_trips.Goals as goal

pub returns : goal.returns
returns g c = λ v r.
    let x = c.round_trips.ensures v.0 r.0 in
    let y = c.round_trips-2.ensures v.1 r.1 in
    let z = c.round_trips-3.ensures v.2 r.2 in (
      ((x.0.0, y.0.0, z.0.0), (x.0.1, y.0.1, z.0.1), (x.0.2, (y.0.2, (z.0.2, tt)))),
      λ w s e.
          rw (x.1 w.0 s.0 e.0, y.1 w.1 s.1 e.1.0, z.1 w.2 s.2 e.1.1.0) refl,
    )
