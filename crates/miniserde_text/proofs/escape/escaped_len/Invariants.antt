-- `total` counts the bytes that the escape rule writes for the text before `at`, and one byte for each byte from `at`
-- on. The number of bytes from `at` on decreases.
use Rattle.std.proofs.Common.{◌≡◌, ◌+◌, ◌-◌, ◌≤◌, length, take}
use Rattle.miniserde_text.specs.private.Escape.{escapes}
use Rattle.miniserde_text.proofs.escape.escaped_len.Given as goal

abbrev pub invariant-loop-at : goal.invariant-loop-at
invariant-loop-at l = record {
  within : l.at ≤ length l.text;
  counted : l.total + l.at ≡ length (escapes (take l.at l.text)) + length l.text;
}

abbrev pub decreases-loop-at : goal.decreases-loop-at
decreases-loop-at l = length l.text - l.at
