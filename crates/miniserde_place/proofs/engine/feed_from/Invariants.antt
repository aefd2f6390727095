-- The loop keeps that neither the source nor the place has an error, and that the events behind the first token are a
-- move up to the present moment (`Moved`). Each turn shortens the text.
use Rattle.std.proofs.Common.{◌≡◌, None, length}
use Rattle.miniserde_text.specs.Lexer.{event_of_token}
use Rattle.miniserde_place.specs.private.EngineRuns.{Moved, after_first, state_before}
use Rattle.miniserde_place.proofs.engine.feed_from.Given as goal

abbrev pub invariant-loop-kind : goal.invariant-loop-kind
invariant-loop-kind g l = record {
  unrefused : (g.V.Visitor.meaning.view l.place).refused ≡ None;
  going : l.source.refused ≡ None;
  moved : Moved
      (after_first (event_of_token l.fn.token l.fn.source.scratch) l.fn.source.rest (g.V.Visitor.meaning.view l.initial.place))
      (state_before l.first l.stack l.source.rest (g.V.Visitor.meaning.view l.place));
}

abbrev pub decreases-loop-kind : goal.decreases-loop-kind
decreases-loop-kind g l = length l.source.rest
