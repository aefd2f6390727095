-- The bytes up to `at` are appended, and no call has failed or flushed. The loop ends since fewer bytes are left.
use Rattle.std.proofs.Common.{length, ◌-◌, ◌≡◌, ◌≤◌, take}
use Rattle.std.specs.Io.KnownBytes.{Appends}
use Rattle.miniserde_program.specs.Counts.{inner_of, failures, flushes}
use Rattle.miniserde_program.proofs.canon.put_all.Given as goal

abbrev pub invariant-loop-at : goal.invariant-loop-at
invariant-loop-at g l = record {
  within : l.at ≤ length l.bytes;
  written : Appends (g.W.Write.contents (inner_of l.fn.w)) (g.W.Write.contents (inner_of l.w)) (take l.at l.bytes);
  failures : failures l.w ≡ failures l.fn.w;
  flushes : flushes l.w ≡ flushes l.fn.w;
}

abbrev pub decreases-loop-at : goal.decreases-loop-at
decreases-loop-at g l = length l.bytes - l.at
