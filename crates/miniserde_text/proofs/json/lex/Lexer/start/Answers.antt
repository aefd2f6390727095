-- The scratch text is the decoded text of the string (`decoded`).
use Rattle.std.proofs.Common.{sym, subst}
use Rattle.std.proofs.lemmas.Result.{IfOk-weaker}
use Rattle.miniserde_model.specs.Lexing.{Starts}
use Rattle.miniserde_text.proofs.Tokens.{decoded}
use Rattle.miniserde_text.proofs.json.lex.Lexer.start.Goals as goal

pub returns-clause-ok : goal.returns-clause-ok
returns-clause-ok c =
    let rest = c.args.self.now.rest in
    let rest' = c.take_start.new.self.rest in
    IfOk-weaker c.take_start.result _ _
    (λ e p. subst (λ x. Starts rest x rest') (sym (decoded e _ p.0 p.2)) p.1) c.take_start.ensures.ok
