-- A turn writes one member (`MembersWritten_step`). The name that is written is `K.text` of the key that the iterator yields,
-- and while the flag is true it comes after the name before it (`rise_further`). At the end the iterator has yielded all
-- entries (`iter_end`).
use Rattle.std.proofs.Common.{◌≡◌, ◌∷◌, [], rules, ap, sym, subst, ◌∙◌, false, map}
use Rattle.std.specs.Map.Iter.{deref_pair}
use Rattle.std.proofs.lemmas.List.{map-append}
use Rattle.std.proofs.lemmas.Map.Iter.{iter_end}
use Rattle.std.proofs.lemmas.Result.{on_ok_weaker}
use Rattle.miniserde_model.specs.Normal.{norm}
use Rattle.miniserde_model.specs.Tree.{members}
use Rattle.miniserde_ser.specs.Trees.{members_of}
use Rattle.miniserde_ser.specs.Writer.{with_first_flag, after_append}
use Rattle.miniserde_ser.proofs.Members.{MembersWritten, MembersWritten_step}
use Rattle.miniserde_ser.proofs.NormalForms.{last_key-snoc, IfSome-option_map, TreesAreNormal-snoc, rise_further, rising_is_normal}
use Rattle.miniserde_ser.proofs.ser.impls.maps.BTreeMapSerialize.begin.Goals as goal

pub loop-key-preserved : goal.loop-key-preserved
loop-key-preserved g c =
    let text = g.K.MapKey.text in
    let f = g.V.Serialize.tree in
    let done = map deref_pair c.loop-key.yielded in
    let entry : g.row.K.Denot × g.row.V.Denot = (c.in-Some.key.now, c.in-Some.value.now) in
    let inv = c.loop-key.invariant in
    let wrote = c.in_ok-begin.ensures in
    let named : c.as_str.result.now ≡ text c.in-Some.key.now = search rules in
    let at = rw named at c.in_ok-key_inline.ensures.appends.ok in
    let same : MembersWritten text f c.args.w.now done c.watch_order.new.w = rw c.watch_order.ensures.flag (record {
      is = inv.written.is;
      all_in_range = inv.written.all_in_range;
      start = inv.written.start;
      later = inv.written.later;
      unrefused = inv.written.unrefused;
      was_running = inv.written.was_running;
    }) in
    rw (map-append deref_pair c.loop-key.yielded ((c.in-Some.key, c.in-Some.value) ∷ [])) (record {
      written = MembersWritten_step text f done entry same at (rw named at c.in_ok-key_inline.ensures.utf8) wrote.ok wrote.in_range
          wrote.first wrote.unrefused;
      normal = λ n.
          let kept = wrote.normal n in
          let watched = sym (ap (λ s. s.normal) at) ∙ kept.0 in
          let so = inv.normal (c.watch_order.ensures.was_normal watched) in (
            so.0,
            rise_further text f done entry so.1 (rw inv.ends (IfSome-option_map (λ k. k.now) _ c.loop-key.earlier
                (c.watch_order.ensures.rises watched))),
            TreesAreNormal-snoc text f done entry so.2 kept.1,
          );
      ends = last_key-snoc done entry;
    })

pub returns-clause-normal : goal.returns-clause-normal
returns-clause-normal g c =
    let ms = members_of g.K.MapKey.text g.V.Serialize.tree in
    let all : map deref_pair c.loop-key.yielded ≡ c.args.self.now.entries = (iter_end deref_pair
    c.args.self.now.entries c.loop-key.yielded c.into_iter-key-iterator.result c.loop-key.key-iterator c.next.new.self
    c.next.result (search rules) c.loop-key.yielded_by c.in-None.is c.next.ensures.steps).0 in
    on_ok_weaker c.map_finish.result
    (λ (e : c.map_finish.new.self ≡ with_first_flag (after_append c.loop-key.w (125 ∷ []) c.map_finish.new.self.capacity) false) n.
    let so = c.loop-key.invariant.normal (sym (ap (λ s. s.normal) e) ∙ n) in
    (so.0, subst (λ es. norm (members (ms es)) ≡ members (ms es)) all (ap members (rising_is_normal _ so.1 so.2))))
    c.map_finish.ensures.ok
