-- The pair of the two reads again, and so does the entry.
use Rattle.test_types.proofs.entries.EntryRoundTrip.round_trips.Goals as goal

pub returns : goal.returns
returns c = λ v r.
    let a = c.round_trips.ensures (v.code, v.message) (r, tt) in
    ((record { code = a.0.0.0; message = a.0.0.1 }, a.0.1.0, a.0.2), λ w s e. a.1 (w.code, w.message) (s, tt) e)
