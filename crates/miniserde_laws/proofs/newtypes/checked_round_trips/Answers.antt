-- The tree of a value means a value of the same content, since the inner type is lossless, and so the value itself.
use Rattle.std.proofs.Common.{Some, ap, ◌∙◌}
use Rattle.miniserde_read.proofs.Accepted.{reads-there, reads-back}
use Rattle.miniserde_laws.proofs.newtypes.checked_round_trips.Goals as goal

pub returns : goal.returns
returns g c = λ v p.
    let r = p.0 in
    let n = g.N.Checked in
    let m = g.T.FromJson.means in
    let x = n.inner v in
    let t = g.T.Serialize.tree x in
    let h = c.round_trips.ensures x r in
    let content = c.lossless.ensures h.0.0 x h.0.1 r (h.1 h.0.0 h.0.1 h.0.2) in
    let itself = (m.reads_agrees t x).1 ((m.reads_agrees t h.0.0).0 h.0.2 ∙ ap Some content) in (
      (v, p, (reads-there m n.means g.met.N.Checked.same t x itself, p.1)),
      λ w s e. h.1 (n.inner w) s.0 (reads-back m n.means g.met.N.Checked.same t (n.inner w) e.0),
    )
