-- A run without a special byte is written as it is (`escapes_all`).
use Rattle.std.proofs.Common.{◌++◌, ◌∙◌, ap, sym, string_bytes}
use Rattle.miniserde_text.proofs.EscapeRule.{escapes_all}
use Rattle.miniserde_text.proofs.json.lex.spelling.EscapedSpelling.push_run.Goals as goal

pub returns-clause-ok : goal.returns-clause-ok
returns-clause-ok c = λ plain.
    c.in_ok-push_run.ensures.ok plain ∙ ap (λ x. string_bytes c.args.scratch.now ++ x) (sym (escapes_all _ plain))
