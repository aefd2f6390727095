-- A character that needs no escape is written as its bytes (`escapes_high`, `escapes_stays`), and any other is a byte
-- that is written as its escape, of six bytes at most (`escapes_low`, `length_escape_le`).
use Rattle.std.proofs.Common.{arith}
use Rattle.miniserde_text.proofs.EscapeRule.{escapes_high, escapes_stays, escapes_low, length_escape_le}
use Rattle.miniserde_text.proofs.escape.push_escaped.Goals as goal

pub returns-then-code-ge128 : goal.returns-then-code-ge128
returns-then-code-ge128 c = rw (escapes_high c.args.c (omega arith)) (grind arith)

pub returns-then-not-is_special : goal.returns-then-not-is_special
returns-then-not-is_special c = rw (escapes_stays c.args.c (omega arith) (grind arith)) (grind arith)

pub put_escape-requires-clause-room : goal.put_escape-requires-clause-room
put_escape-requires-clause-room c = omega (arith, length_escape_le c.args.c, c.in_ok-reserve.ensures.ok, c.in_ok-reserve.ensures.len)

pub returns : goal.returns
returns c = rw (escapes_low c.args.c (omega arith)) (grind arith)
