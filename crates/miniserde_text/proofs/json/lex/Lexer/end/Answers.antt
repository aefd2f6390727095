-- The text at the index that `after_space` returns is the rest without its whitespace. If that index is the length,
-- the rest is whitespace (`blank_of`), and else it is not (`not_blank`).
use Rattle.std.proofs.Common.{◌≡◌, drop, refl, arith}
use Rattle.miniserde_model.specs.Bytes.{is_space}
use Rattle.miniserde_text.specs.private.Reading.{after_run}
use Rattle.miniserde_text.proofs.Steps.{blank_of, not_blank}
use Rattle.miniserde_text.proofs.json.lex.Lexer.end.Goals as goal

pub returns-then-at-bytes-clause-ok : goal.returns-then-at-bytes-clause-ok
returns-then-at-bytes-clause-ok c =
    let from : drop c.after_space-at.result.0 c.self.inside.text.now ≡ after_run is_space c.args.self.now.rest = grind arith in
    (refl, blank_of _ c.self.inside.text.now c.after_space-at.result.0 from (grind (arith, c.as_bytes-bytes.ensures.value)))

pub returns-clause-invalid : goal.returns-clause-invalid
returns-clause-invalid c is fresh =
    let from : drop c.after_space-at.result.0 c.self.inside.text.now ≡ after_run is_space c.args.self.now.rest = grind arith in
    not_blank _ c.self.inside.text.now c.after_space-at.result.0 from
    (λ past. c.if-at-bytes.false (grind (arith, c.as_bytes-bytes.ensures.value)))
