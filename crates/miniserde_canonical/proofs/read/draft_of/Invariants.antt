-- The lexer has no error, and the draft took the tokens of the text that was read (`Taken`). The loop ends since the
-- rest of the text gets shorter.
use Rattle.std.proofs.Common.{◌≡◌, None, length}
use Rattle.miniserde_text.specs.private.EventRuns.{text_at}
use Rattle.miniserde_text.specs.private.Moments.{first_or_after}
use Rattle.miniserde_canonical.proofs.ReaderDrafts.{Taken}
use Rattle.miniserde_canonical.proofs.read.draft_of.Given as goal

abbrev pub invariant-loop-kind : goal.invariant-loop-kind
invariant-loop-kind l = record {
  going : l.reader.lexer.refused ≡ None;
  taken : Taken l.j (text_at (first_or_after l.first) l.reader.stack l.reader.lexer.rest) l.reader.draft;
}

abbrev pub decreases-loop-kind : goal.decreases-loop-kind
decreases-loop-kind l = length l.reader.lexer.rest
