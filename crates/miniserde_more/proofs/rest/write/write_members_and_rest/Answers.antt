-- The object's members stand between its brackets (`object_text`). `map` ended the writer's flag `normal`.
use Rattle.std.proofs.Common.{◌++◌, map, sym, ap, ◌∙◌, true≢false, string_bytes}
use Rattle.miniserde_ser.specs.Trees.{members_of}
use Rattle.miniserde_record.specs.Structs.{with_names}
use Rattle.miniserde_more.specs.Rest.{kept, members_then}
use Rattle.miniserde_more.proofs.RestTexts.{object_text}
use Rattle.miniserde_more.proofs.rest.write.write_members_and_rest.Goals as goal

pub returns : goal.returns
returns g c =
    let names = map (λ n. n.now) c.args.names.now in
    let ms = members_then (with_names names (g.M.Members.trees c.args.values.now))
    (members_of string_bytes g.V.Serialize.tree (kept string_bytes (g.A.TakenNames.further ++ names) c.args.rest.now.entries)) in
    let opened = c.in_ok-map.ensures.ok in
    let inside = c.in_ok-write_inside_and_rest.ensures in
    let closed = c.in_ok-map_finish.ensures.ok in
    record {
      ok = object_text ms c.args.w.now.text (ap (λ s. s.text) opened) (ap (λ s. s.first) opened) inside.ok (ap (λ s. s.text) closed);
      in_range = inside.all_in_range;
      normal = λ n. absurd (true≢false (sym (inside.normal (sym (ap (λ s. s.normal) closed) ∙ n)).0 ∙ ap (λ s. s.normal) opened));
      first = ap (λ s. s.first) closed;
      unrefused = ap (λ s. s.refused) closed ∙ c.in_ok-map_finish.ensures.was_running;
      was_running = c.in_ok-map.ensures.was_running;
      memory = tt;
      err = tt;
    }
