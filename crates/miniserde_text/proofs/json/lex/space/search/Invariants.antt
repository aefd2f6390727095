-- The first byte from `i` on that is no whitespace is the first from `from` on, or both searches end at the length. The
-- number of bytes from `i` on decreases, by 16 a turn.
use Rattle.std.proofs.Common.{◌≡◌, ◌+◌, ◌-◌, ◌≤◌, length, drop}
use Rattle.std.specs.List.{position_or_len}
use Rattle.miniserde_text.specs.private.Reading.{is_not_space}
use Rattle.miniserde_text.proofs.json.lex.space.search.Given as goal

abbrev pub invariant-lanes : goal.invariant-lanes
invariant-lanes l = record {
  run : l.from + position_or_len is_not_space (drop l.from l.bytes)
      ≡ l.i + position_or_len is_not_space (drop l.i l.bytes);
  within : l.i ≤ length l.bytes;
}

abbrev pub decreases-lanes : goal.decreases-lanes
decreases-lanes l = length l.bytes - l.i
