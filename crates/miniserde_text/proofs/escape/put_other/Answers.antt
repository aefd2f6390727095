-- The pieces that are pushed make the answer, and its length is what the call makes room for.
use Rattle.std.proofs.Common.{◌≡◌, ◌+◌, ◌<◌, [], ◌∷◌, ◌++◌, Ok, ap, ◌∙◌, arith, length, rules, string_capacity, string_len}
use Rattle.miniserde_model.specs.Compact.{string_text}
use Rattle.miniserde_text.specs.private.Escape.{escapes}
use Rattle.miniserde_text.proofs.EscapeRule.{between_quotes, length_quoted}
use Rattle.miniserde_text.proofs.escape.put_other.Goals as goal

pub returns : goal.returns
returns c =
    let open_quote : c.push_str.result ≡ Ok c.unwrap.result = c.unwrap.ensures in
    let close_quote : c.push_str-2.result ≡ Ok c.unwrap-2.result = c.unwrap-2.ensures in
    let opened = rw open_quote at c.push_str.ensures in
    let closed = rw close_quote at c.push_str-2.ensures in
    let v = c.args.value.now in
    let front = rw c.in_ok-make_room.ensures.bytes at opened.bytes in
    let inside = c.put_escapes.ensures.bytes ∙ ap (λ x. x ++ escapes v) front in
    let whole = closed.bytes ∙ ap (λ x. x ++ 34 ∷ []) inside ∙ between_quotes _ v in
    search (rules, whole)

pub returns-in_err-make_room : goal.returns-in_err-make_room
returns-in_err-make_room c =
    let out = c.args.out.now in
    let full = c.in_err-make_room.ensures.room in
    let lacks : string_capacity out < string_len out + length (string_text c.args.value.now) =
    omega (arith, full, length_quoted c.args.value.now) in
    search (rules, lacks)
