-- `out` is the old text and the escapes of the bytes before `start`, which is a character boundary. The capacity of
-- `out` is at least the old one. The number of bytes from `start` on decreases.
use Rattle.std.proofs.Common.{length, ◌-◌, ◌≡◌, ◌+◌, ◌≤◌, ◌++◌, take, string_bytes, string_len, string_capacity}
use Rattle.std.specs.Str.{IsCharBoundary}
use Rattle.miniserde_text.specs.private.Escape.{escapes}
use Rattle.miniserde_text.proofs.escape.put_escapes.Given as goal

abbrev pub invariant-loop-start : goal.invariant-loop-start
invariant-loop-start l = record {
  within : l.start ≤ length l.value;
  cut : IsCharBoundary l.value l.start;
  bytes : string_bytes l.out ≡ string_bytes l.fn.out ++ escapes (take l.start l.value);
  len : string_len l.out ≡ string_len l.fn.out + length (escapes (take l.start l.value));
  capacity : string_capacity l.fn.out ≤ string_capacity l.out;
}

abbrev pub decreases-loop-start : goal.decreases-loop-start
decreases-loop-start l = length l.text - l.start
