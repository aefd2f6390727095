-- `i` and the length of the run of digits from `i` on add up to the length of the whole run. Up to 19 digits, `value`
-- is that of the digits before `i`, and it is below 10^i. The number of bytes from `i` on decreases.
use Rattle.std.proofs.Common.{◌≡◌, ◌+◌, ◌-◌, ◌^◌, ◌<◌, ◌≤◌, length, take, drop}
use Rattle.std.specs.List.{prefix_len}
use Rattle.std.specs.Str.Parse.{digits_value}
use Rattle.miniserde_text.specs.private.Reading.{is_digit}
use Rattle.miniserde_text.proofs.json.lex.number.leading_digits.Given as goal

abbrev pub invariant-loop-i : goal.invariant-loop-i
invariant-loop-i l = record {
  count : l.i + prefix_len is_digit (drop l.i l.bytes) ≡ prefix_len is_digit l.bytes;
  value : l.i ≤ 19 → l.value ≡ digits_value 10 (take l.i l.bytes);
  small : l.i ≤ 19 → l.value < 10 ^ l.i;
}

abbrev pub decreases-loop-i : goal.decreases-loop-i
decreases-loop-i l = length l.bytes - l.i
