-- The source has the rest and the error of its lexer, so `Invalid` of the lexer says the same of the source.
use Rattle.std.proofs.Common.{sym, ap, subst, ◌∙◌}
use Rattle.miniserde_model.specs.Lexing.{Names}
use Rattle.miniserde_read.proofs.source.Source.name_checked.Goals as goal

pub returns-clause-invalid : goal.returns-clause-invalid
returns-clause-invalid c = λ e k n r p.
    c.name_checked.ensures.invalid e (ap (λ v. v.refused) c.self.view_is ∙ k) n r
    (subst (λ z. Names z n r) (sym (ap (λ v. v.rest) c.self.view_is)) p)
