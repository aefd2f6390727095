-- `short_number` reads an integer of up to 19 digits as `number_at` does. The digits in front are the whole part, and
-- no byte of number texts follows them, so `int_read` gives the event and the rest.
use Rattle.std.proofs.Common.{arith, ◌≡◌, ◌+◌, ◌-◌, ℕ, List, [], Some, length, take, drop, subst, ap, sym, ◌∙◌}
use Rattle.std.specs.Prelude.{◌<◌, ◌≤◌, ◌==◌, false, slice_index}
use Rattle.std.specs.List.{prefix_len}
use Rattle.std.specs.Str.Parse.{digits_value}
use Rattle.std.proofs.lemmas.Bool.Decides.{nat_tests}
use Rattle.std.proofs.lemmas.List.{take_rest, take-append-drop, drop-drop}
use Rattle.miniserde_model.specs.Bytes.{is_number_byte}
use Rattle.miniserde_text.specs.private.Reading.{is_digit, event_of_parts}
use Rattle.miniserde_text.specs.Lexer.{event_of_token}
use Rattle.miniserde_text.proofs.Numbers.{front_int, int_read}
use Rattle.miniserde_text.proofs.json.lex.number.short_number.Goals as goal

pub returns-clause-value : goal.returns-clause-value
returns-clause-value c =
    let b = c.args.bytes.now in
    let s = drop c.args.at b in
    let d = c.after_minus-start.result in
    let t = take (length b - d) (drop d b) in
    let rest : t ≡ drop d b = take_rest b d in
    let n = c.leading_digits-count.result.0 in
    let v = c.leading_digits-count.result.1 in
    let away : 1 < n → (slice_index t 0 == 48) ≡ false = λ many. grind (arith, nat_tests, c.else-count-gt1.branch) in
    let digits : n ≤ prefix_len is_digit t = omega (arith, c.leading_digits-count.ensures.count) in
    let stop : is_number_byte (slice_index (drop n t) 0) ≡ false = grind arith in
    let e = event_of_token c.in_ok-event.event [] in
    let event = subst (λ x. (text int : List ℕ) → digits_value 10 int ≡ v
    → event_of_parts text (x == 45) int [] ≡ e) c.requires.first c.in_ok-event.ensures.some in
    let split = sym (take-append-drop n t ∙ rest ∙ c.after_minus-start.ensures.value) in
    let read = int_read s (take n t) (drop n t) split (front_int t n (omega arith) digits away) stop in
    let value = sym (c.leading_digits-count.ensures.value (omega arith)) in
    let behind : drop n t ≡ drop (d + n) b = ap (drop n) rest ∙ drop-drop n d b in
    rw (← behind) (read ∙ ap (λ x. Some (x, drop n t)) (event _ (take n t) value))
