-- The loop keeps the text so far followed by the text of the tokens left (`Writes`), and that the names of all tokens
-- are in order if those left are. Each turn takes one token or more.
use Rattle.std.proofs.Common.{length}
use Rattle.miniserde_value.specs.Walks.{frames_left, NestedNamesRise}
use Rattle.miniserde_value.specs.Writes.{Writes}
use Rattle.miniserde_value.proofs.json.write.put_all.Given as goal

abbrev pub invariant-loop-part : goal.invariant-loop-part
invariant-loop-part l = record {
  writes : Writes l.fn.w (frames_left l.fn.frames) l.w (frames_left l.frames);
  ordered : NestedNamesRise l.frames → NestedNamesRise l.fn.frames;
}

abbrev pub decreases-loop-part : goal.decreases-loop-part
decreases-loop-part l = length (frames_left l.frames)
