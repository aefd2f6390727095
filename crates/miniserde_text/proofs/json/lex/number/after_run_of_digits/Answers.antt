-- A digit at `i` belongs to the run (`after_run_more`), and it is ASCII, so `i + 1` follows an ASCII byte
-- (`follows_more`).
use Rattle.std.proofs.Common.{arith, ◌≡◌, true, get_or}
use Rattle.miniserde_text.specs.private.Reading.{is_digit}
use Rattle.miniserde_text.proofs.ByteRuns.{digit_ascii, after_run_more}
use Rattle.miniserde_text.proofs.Indices.{follows_more}
use Rattle.miniserde_text.proofs.json.lex.number.after_run_of_digits.Goals as goal

pub loop-i-preserved : goal.loop-i-preserved
loop-i-preserved c =
    let s = c.args.bytes.now in
    let i = c.loop-i.i in
    let here : is_digit (get_or s i 0) ≡ true = grind arith in
    record {
      same = grind (arith, after_run_more is_digit s i (omega arith), here, c.loop-i.invariant.same);
      follows = follows_more s i (omega arith) (digit_ascii _ here);
    }
