-- The members are written in two parts (`parts_text`).
use Rattle.std.proofs.Common.{◌++◌, map, ◌∙◌, string_bytes}
use Rattle.miniserde_ser.specs.Trees.{members_of}
use Rattle.miniserde_record.specs.Structs.{with_names}
use Rattle.miniserde_more.specs.Rest.{kept}
use Rattle.miniserde_more.proofs.RestTexts.{parts_text, range_then, normal_then}
use Rattle.miniserde_more.proofs.rest.write.write_inside_and_rest.Goals as goal

pub returns : goal.returns
returns g c =
    let names = map (λ n. n.now) c.args.names.now in
    let fs = with_names names (g.M.Members.trees c.args.values.now) in
    let rs = members_of string_bytes g.V.Serialize.tree (kept string_bytes (g.A.TakenNames.further ++ names) c.args.rest.now.entries) in
    let fields = c.in_ok-write.ensures in
    let rest = c.in_ok-write_rest.ensures in
    record {
      ok = parts_text fs rs c.args.w.now.text c.args.w.now.first fields.ok fields.first rest.ok;
      all_in_range = range_then fs rs fields.all_in_range rest.all_in_range;
      normal = λ n.
          let behind = rest.normal n in
          let before = fields.normal behind.0 in
          (before.0, normal_then fs rs before.1 behind.1);
      unrefused = rest.unrefused ∙ fields.unrefused;
      memory = tt;
      err = tt;
    }
