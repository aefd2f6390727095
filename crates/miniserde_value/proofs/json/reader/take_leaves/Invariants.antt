-- The loop keeps that the source has no error, that the container is the innermost one, and that the events so far build
-- the hole (`Builds`). Each turn shortens the text.
use Rattle.std.proofs.Common.{◌≡◌, ◌≤◌, None, Some, length}
use Rattle.miniserde_value.specs.Builders.{hole_in}
use Rattle.miniserde_value.specs.Containers.{innermost_kind, pending}
use Rattle.miniserde_value.specs.private.Builds.{Builds, state_before}
use Rattle.miniserde_value.proofs.json.reader.take_leaves.Given as goal

abbrev pub invariant-loop-source : goal.invariant-loop-source
invariant-loop-source l = record {
  going : l.source.refused ≡ None;
  unnamed : pending (hole_in l.builder) ≡ None;
  inside : innermost_kind (hole_in l.builder) ≡ Some l.fn.kind;
  shorter : length l.source.rest ≤ length l.fn.source.rest;
  builds : Builds l.fn.once (state_before l.fn.first (hole_in l.fn.builder) l.fn.source.rest)
      (state_before l.first (hole_in l.builder) l.source.rest);
}

abbrev pub decreases-loop-source : goal.decreases-loop-source
decreases-loop-source l = length l.source.rest
