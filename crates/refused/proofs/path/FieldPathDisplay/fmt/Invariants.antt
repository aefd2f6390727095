-- What is written so far is the text for the first name and the later ones before the index.
use Rattle.std.proofs.Common.{◌+◌, map, take}
use Rattle.std.specs.Fmt.{HasWritten, HasWrittenStyled, IsFlush, IsPlainFormatter}
use Rattle.refused.specs.Text.{path_text}
use Rattle.refused.proofs.path.FieldPathDisplay.fmt.Given as goal

abbrev pub invariant-loop-name : goal.invariant-loop-name
invariant-loop-name g l =
    let written = path_text (map (λ s. s.now) (take (1 + l.name-index) l.self.names.items)) in
    (IsPlainFormatter l.fn.f → HasWritten g.W.Write.write_str_gives l.fn.f written l.f)
    × (IsFlush l.fn.f → HasWrittenStyled g.W.Write.write_str_gives l.fn.f written l.f)
