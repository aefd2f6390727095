-- `bytes` has the bytes that were read so far, and no read has failed.
use Rattle.std.proofs.Common.{◌≡◌, ◌-◌, ◌^◌, vec_len}
use Rattle.std.specs.Io.KnownBytes.{Consumes}
use Rattle.miniserde_program.specs.Counts.{inner_of, failures}
use Rattle.miniserde_program.proofs.canon.read_all.Given as goal

abbrev pub invariant-loop-bytes : goal.invariant-loop-bytes
invariant-loop-bytes g l = record {
  given : Consumes (g.R.Read.remaining (inner_of l.fn.r)) (g.R.Read.remaining (inner_of l.r)) l.bytes.items;
  failures : failures l.r ≡ failures l.fn.r;
}

-- each read that gives bytes makes the list longer
abbrev pub decreases-loop-bytes : goal.decreases-loop-bytes
decreases-loop-bytes g l = 2 ^ 64 - vec_len l.bytes
