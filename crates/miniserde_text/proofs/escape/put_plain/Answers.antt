-- As in `put_other`, with a text that is its own escapes.
use Rattle.std.proofs.Common.{◌≡◌, ◌+◌, ◌<◌, [], ◌∷◌, ◌++◌, Ok, ap, ap₂, sym, ◌∙◌, arith, length, rules, string_capacity, string_len}
use Rattle.miniserde_model.specs.Compact.{string_text}
use Rattle.miniserde_text.proofs.EscapeRule.{between_quotes, length_quoted}
use Rattle.miniserde_text.proofs.escape.put_plain.Goals as goal

pub returns : goal.returns
returns c =
    let first : c.push_str.result ≡ Ok c.unwrap.result = c.unwrap.ensures in
    let text : c.push_str-2.result ≡ Ok c.unwrap-2.result = c.unwrap-2.ensures in
    let last : c.push_str-3.result ≡ Ok c.unwrap-3.result = c.unwrap-3.ensures in
    let opened = rw first at c.push_str.ensures in
    let pushed = rw text at c.push_str-2.ensures in
    let closed = rw last at c.push_str-3.ensures in
    let v = c.args.value.now in
    let front = rw c.in_ok-reserve.ensures.bytes at opened.bytes in
    let inside = pushed.bytes ∙ ap₂ (λ x y. x ++ y) front (sym c.requires.plain) in
    let whole = closed.bytes ∙ ap (λ x. x ++ 34 ∷ []) inside ∙ between_quotes _ v in
    search (rules, whole)

pub returns-in_err-reserve : goal.returns-in_err-reserve
returns-in_err-reserve c =
    let out = c.args.out.now in
    let full = c.in_err-reserve.ensures.full in
    let lacks : string_capacity out < string_len out + length (string_text c.args.value.now) =
    omega (arith, full, length_quoted c.args.value.now, ap length c.requires.plain) in
    search (rules, lacks)
