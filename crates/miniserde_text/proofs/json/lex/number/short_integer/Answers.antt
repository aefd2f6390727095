-- The arithmetic does not overflow: with fewer than 20 digits the value before each turn is below 10^18
-- (`short_fits`), and a digit is at most `9` (`high` of `turn`).
use Rattle.std.proofs.Common.{arith}
use Rattle.miniserde_text.proofs.Digits.{turn, short_fits}
use Rattle.miniserde_text.proofs.json.lex.number.short_integer.Goals as goal

pub overflow_mul-value : goal.overflow_mul-value
overflow_mul-value c =
    let l = c.loop-byte in
    omega (arith, short_fits l.value l.byte-index _ l.invariant.small c.loop-byte-test.true c.requires.few)

pub overflow_add-value : goal.overflow_add-value
overflow_add-value c =
    let l = c.loop-byte in
    let t = turn l.value c.args.digits.now l.byte-index c.loop-byte-test.true l.invariant.digits in
    grind (arith, t.high, short_fits l.value l.byte-index _ l.invariant.small c.loop-byte-test.true c.requires.few)
