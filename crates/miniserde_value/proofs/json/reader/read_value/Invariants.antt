-- The loop keeps that the source has no error, and that the events so far build the hole (`Builds`). Each turn
-- shortens the text.
use Rattle.std.proofs.Common.{◌≡◌, None, is_some, length}
use Rattle.miniserde_text.specs.Lexer.{event_of_token}
use Rattle.miniserde_text.specs.private.Moments.{opened_kind}
use Rattle.miniserde_value.specs.Builders.{hole_in}
use Rattle.miniserde_value.specs.Containers.{pending}
use Rattle.miniserde_value.specs.private.Builds.{Builds, state_before}
use Rattle.miniserde_value.proofs.json.reader.read_value.Given as goal

abbrev pub invariant-loop-kind : goal.invariant-loop-kind
invariant-loop-kind l = record {
  going : l.source.refused ≡ None;
  unnamed : pending (hole_in l.builder) ≡ None;
  builds : Builds l.fn.once
      (state_before (is_some (opened_kind (event_of_token l.fn.token l.fn.source.scratch))) (hole_in l.initial.builder) l.fn.source.rest)
      (state_before l.first (hole_in l.builder) l.source.rest);
}

abbrev pub decreases-loop-kind : goal.decreases-loop-kind
decreases-loop-kind l = length l.source.rest
