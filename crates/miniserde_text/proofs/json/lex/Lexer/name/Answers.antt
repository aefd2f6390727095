-- The scratch text is the decoded text of the name (`decoded_text`).
use Rattle.std.proofs.Common.{sym, subst}
use Rattle.std.proofs.lemmas.Result.{IfOk-weaker}
use Rattle.miniserde_model.specs.Lexing.{Names}
use Rattle.miniserde_text.proofs.Tokens.{decoded_text}
use Rattle.miniserde_text.proofs.json.lex.Lexer.name.Goals as goal

pub returns-clause-ok : goal.returns-clause-ok
returns-clause-ok c =
    let rest = c.args.self.now.rest in
    let rest' = c.take_name.new.self.rest in
    IfOk-weaker c.take_name.result _ _
    (λ t p. subst (λ x. Names rest x rest') (sym (decoded_text t _ p.0 p.2)) p.1) c.take_name.ensures.ok
