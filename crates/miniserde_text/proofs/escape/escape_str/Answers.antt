-- A text in which each byte stands for itself is what it is written as.
use Rattle.miniserde_text.proofs.EscapeRule.{escapes_plain}
use Rattle.miniserde_text.proofs.escape.escape_str.Goals as goal

pub put_plain-requires-clause-plain : goal.put_plain-requires-clause-plain
put_plain-requires-clause-plain c =
    escapes_plain c.args.value.now (rw c.as_bytes.ensures.value at (c.is_short_and_plain.ensures.plain c.if-is_short_and_plain.true))
