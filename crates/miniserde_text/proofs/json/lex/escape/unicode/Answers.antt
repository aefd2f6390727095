-- A code unit that is no character and no high surrogate is a low surrogate, which begins no pair (`no_partner`).
use Rattle.std.proofs.Common.{◌≡◌, Some, drop, sym, arith}
use Rattle.miniserde_text.specs.private.Reading.{code_unit_at}
use Rattle.miniserde_text.proofs.Escapes.{no_partner}
use Rattle.miniserde_text.proofs.json.lex.escape.unicode.Goals as goal

pub returns-else-is_high-clause-value : goal.returns-else-is_high-clause-value
returns-else-is_high-clause-value c =
    let read : code_unit_at (drop c.args.at c.args.bytes.now) ≡ Some (c.in_ok-code.code, drop c.in_ok-code.end c.args.bytes.now) =
    grind arith in
    sym (no_partner _ _ _ read c.in_ok-code.ensures.small c.in_default.ensures.cases (sym c.if-is_high.ensures))
