-- The parts of a number lie in order in the text, and the number ends at a character boundary. `whole_takes`,
-- `tail_takes` and `splits_at` show that each part is a prefix of the text left, and `ends_order` makes that an order
-- of indices.
use Rattle.std.proofs.Common.{◌≡◌, Some, drop, subst, arith}
use Rattle.miniserde_text.specs.private.Reading.{after_minus, after_int, after_tail, FollowsAscii}
use Rattle.miniserde_text.proofs.Numbers.{whole_takes, tail_takes, splits_at, whole_before}
use Rattle.miniserde_text.proofs.Indices.{ends_order, follows_boundary}
use Rattle.miniserde_text.proofs.json.lex.number.take_any_number.Goals as goal

pub text_between-requires-clause-order : goal.text_between-requires-clause-order
text_between-requires-clause-order c =
    let s = c.args.text.now in
    let int : after_int (after_minus (drop c.args.at s)) ≡ Some (drop c.in_ok-tail.tail s) = grind arith in
    let tail : after_tail (drop c.in_ok-tail.tail s) ≡ Some (drop c.in_ok-end.end s) = grind arith in
    ends_order s c.args.at c.in_ok-end.end c.requires
    (omega (arith, c.in_ok-end.ensures.follows.1, c.as_bytes-bytes.ensures.len)) (splits_at _ _ _ int tail)

pub text_between-requires-clause-to : goal.text_between-requires-clause-to
text_between-requires-clause-to c =
    follows_boundary c.args.text.now c.in_ok-end.end c.utf8.text
    (subst (λ x. FollowsAscii x c.in_ok-end.end) c.as_bytes-bytes.ensures.value c.in_ok-end.ensures.follows)

pub part-requires-clause-order : goal.part-requires-clause-order
part-requires-clause-order c =
    let s = c.as_bytes-bytes.result.now in
    let read : after_int (drop c.after_minus-digits.result s) ≡ Some (drop c.in_ok-tail.tail s) = grind arith in
    let p = whole_takes _ _ read in
    ends_order s c.after_minus-digits.result c.in_ok-tail.tail c.after_minus-digits.ensures.within c.in_ok-tail.ensures.follows.1 (p.0, p.2)

pub part-requires-2-clause-order : goal.part-requires-2-clause-order
part-requires-2-clause-order c =
    let s = c.as_bytes-bytes.result.now in
    let read : after_tail (drop c.in_ok-tail.tail s) ≡ Some (drop c.in_ok-end.end s) = grind arith in
    let p = tail_takes _ _ read in
    ends_order s c.in_ok-tail.tail c.in_ok-end.end c.in_ok-tail.ensures.follows.1 c.in_ok-end.ensures.follows.1 (p.0, p.2)

pub event-event-requires : goal.event-event-requires
event-event-requires c =
    let s = c.as_bytes-bytes.result.now in
    let read : after_int (drop c.after_minus-digits.result s) ≡ Some (drop c.in_ok-tail.tail s) = grind arith in
    whole_before _ _ _ read c.part.ensures
