-- A turn writes one member (`MembersWritten_step`). At the end the entries before the index are all entries (`take_all`).
use Rattle.std.proofs.Common.{◌≡◌, ◌∷◌, [], false, arith, ap, sym, subst, ◌∙◌, take, string_bytes, Bor}
use Rattle.std.proofs.lemmas.List.{take_all}
use Rattle.std.proofs.lemmas.Result.{on_ok_weaker}
use Rattle.miniserde_model.specs.Tree.{Tree, members}
use Rattle.miniserde_ser.specs.Trees.{members_of, TreesAreNormal}
use Rattle.miniserde_ser.specs.Writer.{with_first_flag, after_append}
use Rattle.miniserde_ser.proofs.Items.{took}
use Rattle.miniserde_ser.proofs.Members.{MembersWritten_step}
use Rattle.miniserde_ser.proofs.NormalForms.{TreesAreNormal-snoc, rising_is_normal}
use Rattle.miniserde_ser.proofs.ser.impls.hashed.write_entries.Goals as goal

pub loop-entry-preserved : goal.loop-entry-preserved
loop-entry-preserved g c =
    let f : Bor g.row.V.Denot → Tree = λ v. g.V.Serialize.tree v.now in
    let i = c.loop-entry.entry-index in
    let entries = c.args.entries.now in
    let entry = c.entry-item.result in
    let inv = c.loop-entry.invariant in
    let at = rw c.as_str.ensures.value at c.in_ok-key.ensures.appends.ok in
    let utf8 = rw c.as_str.ensures.value at c.in_ok-key.ensures.utf8 in
    let wrote = c.in_ok-begin.ensures in
    rw (took entries i entry (omega arith) c.entry-item.is) (record {
      written = MembersWritten_step string_bytes f (take i entries) entry inv.written at utf8 wrote.ok wrote.in_range wrote.first
          wrote.unrefused;
      normal = λ n.
          let kept = wrote.normal n in
          let so = inv.normal (sym (ap (λ s. s.normal) at) ∙ kept.0) in
          (so.0, TreesAreNormal-snoc string_bytes f (take i entries) entry so.1 kept.1);
    })

pub returns-clause-normal : goal.returns-clause-normal
returns-clause-normal g c =
    let f : Bor g.row.V.Denot → Tree = λ v. g.V.Serialize.tree v.now in
    let entries = c.args.entries.now in
    let whole : take c.loop-entry.entry-index entries ≡ entries = take_all _ entries (omega arith) in
    on_ok_weaker c.map_finish.result
    (λ (e : c.map_finish.new.self ≡ with_first_flag (after_append c.loop-entry.w (125 ∷ []) c.map_finish.new.self.capacity) false) rise n.
    let so = c.loop-entry.invariant.normal (sym (ap (λ s. s.normal) e) ∙ n) in (
      so.0,
      ap members (rising_is_normal (members_of string_bytes f entries) rise
          (subst (λ es. TreesAreNormal (members_of string_bytes f es)) whole so.1)),
    ))
    c.map_finish.ensures.ok
