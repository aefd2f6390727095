-- A digit at `i` makes the run before `i + 1` one longer. With fewer than 19 digits before it, the arithmetic does
-- not wrap (`wraps_not`), and the new value is below the next power of 10 (`below_next`).
use Rattle.std.proofs.Common.{arith, ◌≡◌, ◌+◌, ◌*◌, ◌%◌, ◌^◌, ◌<◌, ◌≤◌, ◌∙◌, true, get_or}
use Rattle.std.proofs.lemmas.Int.Digits.{digits_value_more}
use Rattle.std.proofs.lemmas.List.Sums.{prefix_len-drop_yes}
use Rattle.miniserde_text.specs.private.Reading.{is_digit}
use Rattle.miniserde_text.proofs.Digits.{wraps_not, below_next, digit_value_is}
use Rattle.miniserde_text.proofs.Numbers.{digit_of}
use Rattle.miniserde_text.proofs.json.lex.number.leading_digits.Goals as goal

pub loop-i-preserved : goal.loop-i-preserved
loop-i-preserved c =
    let s = c.args.bytes.now in
    let l = c.loop-i in
    let at = get_or s l.i 0 in
    let here : is_digit at ≡ true = grind arith in
    let digit = digit_of at here in
    let least : c.from.result ≤ 9 = grind (arith, digit) in
    let turn : l.i < 19 → (l.value * 10 % 2 ^ 64 + c.from.result) % 2 ^ 64 ≡ l.value * 10 + c.from.result =
    λ few. wraps_not l.value l.i c.from.result (l.invariant.small (omega arith)) few least in
    record {
      count = omega (arith, prefix_len-drop_yes is_digit s l.i 0 (omega arith) here);
      value = λ few. turn (omega arith)
          ∙ grind (
            arith,
            l.invariant.value (omega arith),
            digits_value_more 10 s l.i (omega arith),
            digit_value_is at digit,
          );
      small = λ few. rw (turn (omega arith)) (below_next l.value l.i c.from.result (l.invariant.small (omega arith)) least);
    }
