-- A text in which each byte stands for itself is what it is written as.
use Rattle.std.proofs.Common.{◌≡◌, Ok, ap, arith, length}
use Rattle.miniserde_text.specs.private.Escape.{escapes}
use Rattle.miniserde_text.proofs.EscapeRule.{escapes_plain}
use Rattle.miniserde_text.proofs.escape.put_text.Goals as goal

pub unwrap-requires : goal.unwrap-requires
unwrap-requires c =
    let same : escapes c.args.value.now ≡ c.args.value.now =
    escapes_plain c.args.value.now
    (rw c.as_bytes.ensures.value at (c.is_short_and_plain.ensures.plain c.if-is_short_and_plain.true)) in
    c.push_str.ensures.succeeds (omega (arith, ap length same, c.requires))

pub returns-then-is_short_and_plain-clause-bytes : goal.returns-then-is_short_and_plain-clause-bytes
returns-then-is_short_and_plain-clause-bytes c =
    let same : escapes c.args.value.now ≡ c.args.value.now =
    escapes_plain c.args.value.now
    (rw c.as_bytes.ensures.value at (c.is_short_and_plain.ensures.plain c.if-is_short_and_plain.true)) in
    let done : c.push_str.result ≡ Ok c.unwrap.result = c.unwrap.ensures in
    let pushed = rw done at c.push_str.ensures in
    rw same pushed.bytes

pub returns-then-is_short_and_plain-clause-len : goal.returns-then-is_short_and_plain-clause-len
returns-then-is_short_and_plain-clause-len c =
    let same : escapes c.args.value.now ≡ c.args.value.now =
    escapes_plain c.args.value.now
    (rw c.as_bytes.ensures.value at (c.is_short_and_plain.ensures.plain c.if-is_short_and_plain.true)) in
    let done : c.push_str.result ≡ Ok c.unwrap.result = c.unwrap.ensures in
    let pushed = rw done at c.push_str.ensures in
    rw same pushed.len
