-- The loop keeps that the state of the fields is that after the members so far (`ObjectNext`), behind which the closing
-- brace or the next comma was taken. Each turn shortens the text.
use Rattle.std.proofs.Common.{◌≡◌, None, length}
use Rattle.miniserde_text.specs.Lexer.{is_close}
use Rattle.miniserde_read.proofs.Objects.{ObjectNext}
use Rattle.miniserde_record.proofs.record.slots.read_record.Given as goal

abbrev pub invariant-loop-next : goal.invariant-loop-next
invariant-loop-next g l = record {
  going : l.source.refused ≡ None;
  goes : ObjectNext (g.F.Slots.meaning.next_state g.S.Record.names) g.F.Slots.meaning.empty l.fn.source.rest
      (is_close l.next) l.source.rest (g.F.Slots.state l.fields);
}

abbrev pub decreases-loop-next : goal.decreases-loop-next
decreases-loop-next g l = length l.source.rest
