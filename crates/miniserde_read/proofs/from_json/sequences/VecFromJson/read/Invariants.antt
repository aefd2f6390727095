-- The loop keeps that the items so far are given by the children so far (`ListNext`), behind which the closing bracket
-- or the next comma was taken. Each turn shortens the text.
use Rattle.std.proofs.Common.{◌≡◌, None, length}
use Rattle.miniserde_text.specs.Lexer.{is_close}
use Rattle.miniserde_read.proofs.Lists.{ListNext}
use Rattle.miniserde_read.proofs.from_json.sequences.VecFromJson.read.Given as goal

abbrev pub invariant-loop-next : goal.invariant-loop-next
invariant-loop-next g l = record {
  going : l.source.refused ≡ None;
  goes : ListNext g.T.FromJson.means l.fn.source.rest (is_close l.next) l.source.rest l.items.items;
}

abbrev pub decreases-loop-next : goal.decreases-loop-next
decreases-loop-next g l = length l.source.rest
