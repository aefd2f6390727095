-- `escaped_len` returns the length of the escaped text, and `None` only if no `usize` holds it. The loop keeps the
-- count: the bytes of the text, and for each escape before `at` its length less one.
use Rattle.std.proofs.Common.{◌≡◌, ◌+◌, ◌≤◌, ◌^◌, arith, ap, length, refl, rules}
use Rattle.miniserde_text.specs.private.Escape.{escapes}
use Rattle.miniserde_text.proofs.EscapeRule.{escapes-nil, length_escapes_more, length_escapes_rest, length_escapes_run}
use Rattle.miniserde_text.proofs.escape.escaped_len.Goals as goal

pub loop-at-init : goal.loop-at-init
loop-at-init c =
    let s = c.run_end-at.ensures in
    record {
      within = s.high;
      counted = omega (
        arith,
        ap length escapes-nil,
        length_escapes_run c.as_bytes-text.result.now 0
            c.run_end-at.result s.low s.high s.plain,
      );
    }

pub loop-at-preserved : goal.loop-at-preserved
loop-at-preserved c =
    let xs = c.as_bytes-text.result.now in
    let s = c.run_end-at-in-loop-at.ensures in
    let more = length_escapes_more xs c.loop-at.at c.loop-at-test.true in
    let run = length_escapes_run xs (c.loop-at.at + 1) c.run_end-at-in-loop-at.result s.low s.high s.plain in
    record {
      within = s.high;
      counted = omega (
        arith,
        c.loop-at.invariant.counted,
        more,
        run,
        c.byte_len.ensures.len,
        c.byte_len.ensures.low,
        c.in_ok-total.ensures.1,
      );
    }

pub returns-in_err-total-clause-none : goal.returns-in_err-total-clause-none
returns-in_err-total-clause-none c =
    let xs = c.as_bytes-text.result.now in
    let more = length_escapes_more xs c.loop-at.at c.loop-at-test.true in
    let rest = length_escapes_rest xs (c.loop-at.at + 1) (omega (arith, c.loop-at-test.true)) in
    let same : length (escapes xs) ≡ length (escapes c.args.value.now) = rw c.as_bytes-text.ensures.value refl in
    let long : 2 ^ 64 ≤ length (escapes c.args.value.now) =
    omega (
      arith,
      c.loop-at.invariant.counted,
      more,
      rest,
      same,
      c.byte_len.ensures.len,
      c.byte_len.ensures.low,
      c.in_err-total.ensures,
    ) in
    search (rules, long)
