-- The text that is pushed has the digits and zeros behind them, and the cut leaves the digits.
use Rattle.std.proofs.Common.{◌≡◌, ◌+◌, ◌-◌, Ok, arith, decimal, rules, string_bytes}
use Rattle.std.proofs.lemmas.Fmt.{length-decimal-le}
use Rattle.miniserde_text.proofs.Decimals.{copied_utf8, cut_behind}
use Rattle.miniserde_text.proofs.decimal.put_digits.Goals as goal

pub write_digits-start-requires : goal.write_digits-start-requires
write_digits-start-requires c = (omega (arith, length-decimal-le 20 c.args.n (omega arith) (omega arith) c.ranges.n.fits), omega arith)

pub from_utf8_unchecked-copied-requires : goal.from_utf8_unchecked-copied-requires
from_utf8_unchecked-copied-requires c = copied_utf8 c.args.n _ _ _ c.ranges.n.fits (search rules) c.write_digits-start.ensures.written

pub returns-clause-bytes : goal.returns-clause-bytes
returns-clause-bytes c =
    let w = c.write_digits-start in
    let whole : c.push_str.result ≡ Ok c.unwrap.result = c.unwrap.ensures in
    let pushed = rw whole at c.push_str.ensures in
    rw (c.truncate.ensures.bytes, pushed.bytes, c.from_utf8_unchecked-copied.ensures, w.ensures.written)
    (cut_behind (string_bytes c.args.out.now) (decimal c.args.n) _ (w.result + 20 - w.result) _
    (omega (arith, w.ensures.start)) (omega (arith, w.ensures.start)))
