-- What is written so far is the text for the characters that the iterator has yielded.
use Rattle.std.proofs.Common.{flat_map}
use Rattle.std.specs.Fmt.{HasWritten, HasWrittenStyled, IsFlush, IsPlainFormatter}
use Rattle.refused.specs.Text.{char_text}
use Rattle.refused.proofs.path.write_name.Given as goal

abbrev pub invariant-loop-c : goal.invariant-loop-c
invariant-loop-c g l =
    (IsPlainFormatter l.fn.f → HasWritten g.W.Write.write_str_gives l.fn.f (flat_map char_text l.yielded) l.f)
    × (IsFlush l.fn.f → HasWrittenStyled g.W.Write.write_str_gives l.fn.f (flat_map char_text l.yielded) l.f)
