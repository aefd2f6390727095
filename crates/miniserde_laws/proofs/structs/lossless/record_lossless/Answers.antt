-- Each field has a name and a tree, so the one tree has the same trees of the fields.
use Rattle.std.proofs.Common.{◌≡◌, sym, ◌∙◌}
use Rattle.miniserde_record.specs.Structs.{with_names}
use Rattle.miniserde_laws.proofs.Named.{one_trees}
use Rattle.miniserde_laws.proofs.structs.lossless.record_lossless.Goals as goal

pub returns : goal.returns
returns g c = λ v w r q e.
    let s = g.S.Record in
    let f = g.F.LosslessFields in
    let ts = f.trees (s.values v) in
    let us = f.trees (s.values w) in
    let same : with_names s.names ts ≡ with_names s.names us = cc in
    let k = sym c.requires in
    c.lossless.ensures.same (s.values v) (s.values w) r q
    (one_trees s.names ts us g.met.S.Record.distinct_names (c.lossless.ensures.each (s.values v) ∙ k)
    (c.lossless.ensures.each (s.values w) ∙ k) same)
