-- The first special byte from `i` on is the first from `from` on, or both searches end at the length. The number of
-- bytes from `i` on decreases, by one a turn.
use Rattle.std.proofs.Common.{◌≡◌, ◌+◌, ◌-◌, ◌≤◌, length, drop}
use Rattle.std.specs.List.{position_or_len}
use Rattle.miniserde_model.specs.Bytes.{is_special}
use Rattle.miniserde_text.proofs.scan.search_bytes.Given as goal

abbrev pub invariant-rest : goal.invariant-rest
invariant-rest l = record {
  run : l.from + position_or_len is_special (drop l.from l.bytes) ≡ l.i + position_or_len is_special (drop l.i l.bytes);
  within : l.i ≤ length l.bytes;
}

abbrev pub decreases-rest : goal.decreases-rest
decreases-rest l = length l.bytes - l.i
