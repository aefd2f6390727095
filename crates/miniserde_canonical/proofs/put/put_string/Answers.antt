-- What is appended of a borrowed text is the text between quotes, which is its string, as no byte of it is escaped
-- (`plain_quoted`).
use Rattle.std.proofs.Common.{◌≡◌, ◌++◌, sym, ap, subst, ◌∙◌}
use Rattle.std.specs.Prelude.{OnOk}
use Rattle.miniserde_model.specs.Compact.{string_text}
use Rattle.miniserde_text.specs.Lexer.{text_of}
use Rattle.miniserde_canonical.specs.private.Plain.{TextPlain}
use Rattle.miniserde_canonical.proofs.PlainStrings.{plain_quoted}
use Rattle.miniserde_canonical.proofs.put.put_string.Goals as goal

pub returns-in-Input : goal.returns-in-Input
returns-in-Input c =
    let plain = plain_quoted c.in-Input.s.now (subst TextPlain c.in-Input.is c.requires) in
    let text = sym plain ∙ ap (λ z. string_text (text_of z c.args.scratch.now)) (sym c.in-Input.is) in
    subst (λ z. OnOk c.put_quoted.result (c.put_quoted.new.out.items ≡ c.args.out.now.items ++ z)) text c.put_quoted.ensures
