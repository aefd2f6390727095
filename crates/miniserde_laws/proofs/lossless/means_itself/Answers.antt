-- The tree means some value, which has the same tree, and so the same content.
use Rattle.std.proofs.Common.{◌≡◌, Option, Some, sym, ap, ◌∙◌}
use Rattle.miniserde_laws.proofs.lossless.means_itself.Goals as goal

pub returns-clause-means : goal.returns-clause-means
returns-clause-means g c =
    let m = g.T.FromJson.means in
    let v = c.args.value.now in
    let t = g.T.Serialize.tree v in
    let a = c.round_trips.ensures v c.ranged.ensures in
    let same = c.lossless.ensures a.0.0 v a.0.1 c.ranged.ensures (a.1 a.0.0 a.0.1 a.0.2) in
    (m.reads_agrees t v).1 ((m.reads_agrees t a.0.0).0 a.0.2 ∙ ap Some same)

pub returns-clause-only : goal.returns-clause-only
returns-clause-only g c w r =
    let m = g.T.FromJson.means in
    let v = c.args.value.now in
    let t = g.T.Serialize.tree v in
    let same : ◌≡◌ {A = Option m.Content} (Some (m.content w)) (Some (m.content v)) =
    sym ((m.reads_agrees t w).0 r) ∙ (m.reads_agrees t v).0 (returns-clause-means g c) in
    cc
