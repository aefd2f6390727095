-- The loop keeps that the text behind the first token reaches the present moment (`Reaches`), whatever the text x of a
-- string is. Each turn shortens the text.
use Rattle.std.proofs.Common.{◌≡◌, ℕ, List, None, length}
use Rattle.miniserde_text.specs.Lexer.{event_of_token}
use Rattle.miniserde_text.specs.private.Moments.{first_or_after}
use Rattle.miniserde_text.specs.private.EventRuns.{text_at, behind_first, Reaches}
use Rattle.miniserde_read.proofs.ignored.skip.Given as goal

abbrev pub invariant-loop-kind : goal.invariant-loop-kind
invariant-loop-kind l = record {
  going : l.source.refused ≡ None;
  reaches : (x : List ℕ) → Reaches (behind_first (event_of_token l.fn.token x) l.fn.source.rest)
      (text_at (first_or_after l.first) l.stack l.source.rest);
}

abbrev pub decreases-loop-kind : goal.decreases-loop-kind
decreases-loop-kind l = length l.source.rest
