-- The number after a turn is at most the value of all digits (`grown` of `turn`), so if `checked_mul` or
-- `checked_add` fails, that value is 2^64 or more. After the last digit the number is that value.
use Rattle.std.proofs.Common.{arith, ◌≡◌, ◌^◌, ◌≤◌, ap, sym, ◌∙◌}
use Rattle.std.proofs.lemmas.Grind.{common_steps}
use Rattle.std.proofs.lemmas.Bool.Decides.{nat_tests}
use Rattle.std.specs.Str.Parse.{digits_value, digits_value_after}
use Rattle.std.proofs.lemmas.List.{drop_all}
use Rattle.miniserde_text.proofs.Digits.{turn}
use Rattle.miniserde_text.proofs.json.lex.number.integer.Goals as goal

pub returns-in_err-checked_mul : goal.returns-in_err-checked_mul
returns-in_err-checked_mul c =
    let l = c.loop-byte in
    let t = turn l.value c.args.digits.now l.byte-index c.loop-byte-test.true l.invariant.digits in
    let large : 2 ^ 64 ≤ digits_value 10 c.args.digits.now = grind (arith, t.grown, l.invariant.value) in
    grind (arith, nat_tests, common_steps)

pub returns-in_err-value : goal.returns-in_err-value
returns-in_err-value c =
    let l = c.loop-byte in
    let t = turn l.value c.args.digits.now l.byte-index c.loop-byte-test.true l.invariant.digits in
    let large : 2 ^ 64 ≤ digits_value 10 c.args.digits.now = grind (arith, t.grown, l.invariant.value) in
    grind (arith, nat_tests, common_steps)

pub returns : goal.returns
returns c =
    let l = c.loop-byte in
    let ds = c.args.digits.now in
    let int : l.value ≡ digits_value 10 ds =
    ap (digits_value_after 10 l.value) (sym (drop_all l.byte-index ds c.loop-byte-test.false))
    ∙ l.invariant.value in
    grind (arith, nat_tests)
