-- The tree of the value means a value that is written alike, and so has the same content.
use Rattle.std.proofs.Common.{sym, ◌∙◌}
use Rattle.miniserde.proofs.laws.canonical_text_determines_content.Goals as goal

pub returns-clause-itself : goal.returns-clause-itself
returns-clause-itself g c v w u p e r =
    let a = c.round_trips.ensures v p in
    c.means_in_normal_form.ensures.one u (g.T.Serialize.tree v) w a.0.0 e r a.0.2 ∙ c.lossless.ensures a.0.0 v a.0.1
    p (a.1 a.0.0 a.0.1 a.0.2)

pub returns-clause-one : goal.returns-clause-one
returns-clause-one g c v w p q e =
    let a = c.round_trips.ensures v p in
    let b = c.round_trips.ensures w q in
    sym (c.lossless.ensures a.0.0 v a.0.1 p (a.1 a.0.0 a.0.1 a.0.2))
    ∙ c.means_in_normal_form.ensures.one (g.T.Serialize.tree v) (g.T.Serialize.tree w) a.0.0 b.0.0 e a.0.2 b.0.2
    ∙ c.lossless.ensures b.0.0 w b.0.1 q (b.1 b.0.0 b.0.1 b.0.2)
