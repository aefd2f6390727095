-- The run of digits from `i` on ends where the run from `at` on ends, and the byte before `i` is ASCII. The number of
-- bytes from `i` on decreases.
use Rattle.std.proofs.Common.{length, ◌-◌, ◌≡◌, drop}
use Rattle.miniserde_text.specs.private.Reading.{is_digit}
use Rattle.miniserde_text.specs.private.Reading.{after_run, FollowsAscii}
use Rattle.miniserde_text.proofs.json.lex.number.after_run_of_digits.Given as goal

abbrev pub invariant-loop-i : goal.invariant-loop-i
invariant-loop-i l = record {
  same : after_run is_digit (drop l.i l.bytes) ≡ after_run is_digit (drop l.at l.bytes);
  follows : FollowsAscii l.bytes l.i;
}

abbrev pub decreases-loop-i : goal.decreases-loop-i
decreases-loop-i l = length l.bytes - l.i
