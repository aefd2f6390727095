-- `read_record` returns the struct that the members of an object give, and `Invalid` only if no such object follows.
-- The loop keeps that the values so far are given by the members so far, behind which a brace or a comma was taken
-- (`ObjectNext`); a name is taken out of the source before its value is read.
use Rattle.std.proofs.Common.{[], Some, None, refl, sym, ap, ◌∙◌}
use Rattle.std.specs.Prelude.{option_and_then}
use Rattle.miniserde_model.specs.Tree.{no_members}
use Rattle.miniserde_read.proofs.Objects.{object_begins, no_member_follows, no_name_follows, object_ended, object_gives, object_rejects}
use Rattle.miniserde_read.proofs.Calls.{reads_failed, reads_value}
use Rattle.miniserde_record.proofs.Members.{fields_go, fields_next, fields_less, fields_none}
use Rattle.miniserde_record.proofs.record.slots.read_record.Goals as goal

pub returns-in_err-next-clause-reads : goal.returns-in_err-next-clause-reads
returns-in_err-next-clause-reads g c = reads_failed _ c.from_residual.ensures.1 (λ e.
    let mean = g.F.Slots.meaning in
    object_rejects _ _ _ c.in-MapStart.is (λ ms r p. absurd (no_member_follows
    (object_begins (mean.next_state g.S.Record.names) mean.empty _)
    (c.in_err-next.ensures.invalid e c.requires.going) ms r p)))

pub returns-in_err-name-clause-reads : goal.returns-in_err-name-clause-reads
returns-in_err-name-clause-reads g c = reads_failed _ c.from_residual-in_err-name.ensures.1 (λ e.
    let n = rw c.in-Next.is at c.loop-next.invariant.goes in
    object_rejects _ _ _ c.in-MapStart.is (λ ms r p. absurd (no_name_follows n.goes _ n.follows
    (c.in_err-name.ensures.invalid e c.loop-next.invariant.going) ms r p)))

pub returns-in_err-read_member-clause-reads : goal.returns-in_err-read_member-clause-reads
returns-in_err-read_member-clause-reads g c = reads_failed _ c.from_residual-in_err-read_member.ensures.1 (λ e.
    object_rejects _ _ _ c.in-MapStart.is (fields_none g.F.Slots.meaning g.S.Record.names
    (rw c.in-Next.is at c.loop-next.invariant.goes) _ _ c.in_ok-name.name c.in_ok-name.ensures.ok _ _ _ c.names.ensures
    (c.as_str.ensures.value ∙ c.take_text-name.ensures.text) c.take_text-name.ensures.rest
    (c.in_err-read_member.ensures.invalid e)))

pub returns-in_err-next-2-clause-reads : goal.returns-in_err-next-2-clause-reads
returns-in_err-next-2-clause-reads g c = reads_failed _ c.from_residual-in_err-next-2.ensures.1 (λ e.
    let goes = fields_go g.F.Slots.meaning g.S.Record.names
    (rw c.in-Next.is at c.loop-next.invariant.goes) _ _ c.in_ok-name.name c.in_ok-name.ensures.ok _ _ _ c.names.ensures
    (c.as_str.ensures.value ∙ c.take_text-name.ensures.text) c.take_text-name.ensures.rest
    _ _ c.in_ok-read_member.ensures.ok in
    object_rejects _ _ _ c.in-MapStart.is (λ ms r p. absurd (no_member_follows goes
    (c.in_err-next-2.ensures.invalid e c.in_ok-read_member.ensures.going) ms r p)))

-- dropping the name splits a turn in two: one that owned it, and one that borrowed it from the text
pub loop-next-smaller-in_ok-next-2 : goal.loop-next-smaller-in_ok-next-2
loop-next-smaller-in_ok-next-2 g c = fields_less g.F.Slots.meaning g.S.Record.names
    (rw c.in-Next.is at c.loop-next.invariant.goes) _ _ c.in_ok-name.name c.in_ok-name.ensures.ok _ _ _ c.names.ensures
    (c.as_str.ensures.value ∙ c.take_text-name.ensures.text) c.take_text-name.ensures.rest
    _ _ _ _ c.in_ok-read_member.ensures.ok c.in_ok-next-2.ensures.ok

pub loop-next-preserved-in_ok-next-2 : goal.loop-next-preserved-in_ok-next-2
loop-next-preserved-in_ok-next-2 g c = record {
  going = c.in_ok-next-2.ensures.first_error.kept;
  goes = fields_next g.F.Slots.meaning g.S.Record.names
      (rw c.in-Next.is at c.loop-next.invariant.goes) _ _ c.in_ok-name.name c.in_ok-name.ensures.ok _ _ _ c.names.ensures
      (c.as_str.ensures.value ∙ c.take_text-name.ensures.text) c.take_text-name.ensures.rest
      _ _ _ _ c.in_ok-read_member.ensures.ok c.in_ok-next-2.ensures.ok;
}

pub loop-next-smaller : goal.loop-next-smaller
loop-next-smaller g c = fields_less g.F.Slots.meaning g.S.Record.names
    (rw c.in-Next.is at c.loop-next.invariant.goes) _ _ c.in_ok-name.name c.in_ok-name.ensures.ok _ _ _ c.names.ensures
    (c.as_str.ensures.value ∙ c.take_text-name.ensures.text) c.take_text-name.ensures.rest
    _ _ _ _ c.in_ok-read_member.ensures.ok c.in_ok-next-2.ensures.ok

pub loop-next-preserved : goal.loop-next-preserved
loop-next-preserved g c = record {
  going = c.in_ok-next-2.ensures.first_error.kept;
  goes = fields_next g.F.Slots.meaning g.S.Record.names
      (rw c.in-Next.is at c.loop-next.invariant.goes) _ _ c.in_ok-name.name c.in_ok-name.ensures.ok _ _ _ c.names.ensures
      (c.as_str.ensures.value ∙ c.take_text-name.ensures.text) c.take_text-name.ensures.rest
      _ _ _ _ c.in_ok-read_member.ensures.ok c.in_ok-next-2.ensures.ok;
}

pub returns-in_err-end-clause-reads : goal.returns-in_err-end-clause-reads
returns-in_err-end-clause-reads g c = reads_failed _ c.from_residual-in_err-end.ensures.1 (λ e.
    let mean = g.F.Slots.meaning in
    let n = rw c.in_default-next.is at c.loop-next.invariant.goes in
    object_rejects _ _ _ c.in-MapStart.is (λ ms r p. sym (mean.members_agree g.S.Record.names mean.empty ms)
    ∙ ap (option_and_then mean.end) (object_ended n.goes [] _ {o = None} n.follows refl ms r p)
    ∙ c.in_err-end.ensures.invalid e))

pub returns-clause-reads : goal.returns-clause-reads
returns-clause-reads g c =
    let mean = g.F.Slots.meaning in
    let n = rw c.in_default-next.is at c.loop-next.invariant.goes in
    let d = n.goes.on no_members _ n.follows in
    reads_value _ c.loop-next.invariant.going (object_gives _ _ _ c.in-MapStart.is (
      d.0,
      d.1,
      sym (mean.members_agree g.S.Record.names mean.empty d.0)
          ∙ ap (option_and_then mean.end) d.2 ∙ c.in_ok-end.ensures.ok ∙ ap (λ z. Some (mean.content z)) (sym c.build.ensures),
    ))
