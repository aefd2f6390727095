-- A turn writes one member behind those so far (`text_step`), unless its name is taken (`written_known`).
use Rattle.std.proofs.Common.{◌≡◌, true, false, [], ◌∷◌, ◌++◌, sym, ap, ◌∙◌, map, string_bytes, String, Global}
use Rattle.std.specs.Map.Iter.{deref_pair}
use Rattle.std.proofs.lemmas.List.{map-append}
use Rattle.miniserde_record.specs.Marks.{is_among}
use Rattle.miniserde_more.proofs.RestTexts.{written_known, text_step, range_step, normal_step, first_step, found}
use Rattle.miniserde_more.proofs.rest.write.write_rest.Goals as goal

pub loop-name-preserved-in-Continue-branch-2 : goal.loop-name-preserved-in-Continue-branch-2
loop-name-preserved-in-Continue-branch-2 g c =
    let names = g.A.TakenNames.further ++ map (λ n. n.now) c.args.names.now in
    let f = g.V.Serialize.tree in
    let done = map deref_pair c.loop-name.yielded in
    let entry : String Global × g.row.V.Denot = (c.in-Some.name.now, c.in-Some.value.now) in
    let inv = c.loop-name.invariant in
    let wrote = c.in_ok-begin.ensures in
    let first = c.args.w.now.first in
    let other : is_among names (string_bytes c.in-Some.name.now) ≡ false =
    found names c.as_str.ensures.value c.is_taken.ensures c.if-not-is_taken.true in
    let named = c.as_str-then-not-is_taken.ensures.value in
    let at = rw named at c.in_ok-key.ensures.appends.ok in
    rw (map-append deref_pair c.loop-name.yielded ((c.in-Some.name, c.in-Some.value) ∷ [])) (record {
      is = text_step string_bytes f names done entry first c.args.w.now.text other inv.is inv.first (ap (λ s. s.text) at) wrote.ok;
      all_in_range = range_step string_bytes f names done entry other inv.all_in_range
          (rw named at c.in_ok-key.ensures.utf8) wrote.in_range;
      first = first_step string_bytes f names done entry first other (wrote.first (ap (λ s. s.first) at));
      normal = λ n.
          let so_far = inv.normal (sym (ap (λ s. s.normal) at) ∙ (wrote.normal n).0) in
          (so_far.0, normal_step string_bytes f names done entry other so_far.1 (wrote.normal n).1);
      refused = wrote.unrefused ∙ sym c.in_ok-key.ensures.appends.was_running ∙ inv.refused;
    })

pub loop-name-preserved : goal.loop-name-preserved
loop-name-preserved g c =
    let names = g.A.TakenNames.further ++ map (λ n. n.now) c.args.names.now in
    let own : is_among names (string_bytes c.in-Some.name.now) ≡ true =
    found names c.as_str.ensures.value c.is_taken.ensures c.if-not-is_taken.false in
    rw (
      map-append deref_pair c.loop-name.yielded ((c.in-Some.name, c.in-Some.value) ∷ []),
      written_known string_bytes g.V.Serialize.tree names (map deref_pair c.loop-name.yielded)
          (c.in-Some.name.now, c.in-Some.value.now) own,
    ) c.loop-name.invariant
