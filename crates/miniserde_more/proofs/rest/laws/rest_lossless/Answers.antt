-- Of two structs with one tree, the fields have the same trees and the maps, as they are kept, the same members.
use Rattle.std.proofs.Common.{◌++◌, sym, ap, ◌∙◌, string_bytes}
use Rattle.std_collections.specs.Layout.BTreeMap.{with_entries}
use Rattle.miniserde_model.specs.Tree.{members}
use Rattle.miniserde_more.specs.Rest.{kept}
use Rattle.miniserde_more.proofs.RestBeside.{kept_all, kept_sorted}
use Rattle.miniserde_more.proofs.RestLossless.{same_parts, both_same}
use Rattle.miniserde_more.proofs.rest.laws.rest_lossless.Goals as goal

pub returns : goal.returns
returns g c = λ v w r q e.
    let s = g.S.Record in
    let f = g.F.LosslessFields in
    let ns = s.names in
    let more = g.A.TakenNames.further in
    let taken = more ++ ns in
    let p = same_parts string_bytes ns more g.V.Serialize.tree f.trees g.met.S.Record.distinct_names
    (λ x. c.lossless.ensures.each x ∙ sym c.requires) (s.values v).1 (s.values w).1 (s.values v).0.entries (s.values w).0.entries e in
    both_same (c.lossless-2.ensures (with_entries (s.values v).0 (kept string_bytes taken (s.values v).0.entries))
    (with_entries (s.values w).0 (kept string_bytes taken (s.values w).0.entries))
    (kept_sorted taken string_bytes _ (s.values v).0.entries r.0.0, kept_all taken string_bytes _ (s.values v).0.entries r.0.1)
    (kept_sorted taken string_bytes _ (s.values w).0.entries q.0.0, kept_all taken string_bytes _ (s.values w).0.entries q.0.1)
    (ap members p.1)) (c.lossless.ensures.same (s.values v).1 (s.values w).1 r.1 q.1 p.0)
