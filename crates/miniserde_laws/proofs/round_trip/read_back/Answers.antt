-- The text spells one tree, and the tree of a valid value means values of that tree alone.
use Rattle.std.proofs.Common.{subst}
use Rattle.std.proofs.lemmas.Result.{err_from_is_err_and}
use Rattle.miniserde_laws.proofs.round_trip.read_back.Goals as goal

pub returns-clause-same : goal.returns-clause-same
returns-clause-same g c v valid j =
    let h = c.in_ok-read.ensures.ok in
    let one = c.in_ok-read.ensures.one h.0 (g.T.Serialize.tree v) h.1 j in
    (c.round_trips.ensures v valid).1 c.in_ok-read.read c.ranged.ensures (subst (λ u. g.T.FromJson.means.reads u c.in_ok-read.read) one h.2)

pub returns-in_err-read-clause-stored : goal.returns-in_err-read-clause-stored
returns-in_err-read-clause-stored g c e v valid j =
    let w = err_from_is_err_and c.from_residual.result c.from_residual.ensures.1 in
    let a = (c.round_trips.ensures v valid).0 in
    c.in_err-read.ensures.invalid (cc (w.1, w.2, e)) (g.T.Serialize.tree v) j a.0 a.2
