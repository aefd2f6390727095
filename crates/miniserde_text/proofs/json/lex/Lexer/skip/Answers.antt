-- The text at the index that `after_space` returns is the rest without its whitespace, so `blank_of` applies.
use Rattle.std.proofs.Common.{◌≡◌, drop, arith}
use Rattle.miniserde_model.specs.Bytes.{is_space}
use Rattle.miniserde_text.specs.private.Reading.{after_run}
use Rattle.miniserde_text.proofs.ByteRuns.{blank_of}
use Rattle.miniserde_text.proofs.json.lex.Lexer.skip.Goals as goal

pub returns-clause-space : goal.returns-clause-space
returns-clause-space c =
    let from : drop c.after_space-at.result.0 c.self.inside.text.now ≡ after_run is_space c.args.self.now.rest = grind arith in
    blank_of _ _ from
