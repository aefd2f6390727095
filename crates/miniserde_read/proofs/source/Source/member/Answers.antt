-- No members go on where the lexer refuses; where it lacks memory, the name has a backslash.
use Rattle.std.proofs.Common.{false, sym, ap, subst, ◌∙◌}
use Rattle.std.proofs.lemmas.Result.{err_from_is_err_and}
use Rattle.miniserde_model.specs.Lexing.{Follows}
use Rattle.miniserde_model.specs.declared.kind.Kind.TheVariants.{Map}
use Rattle.miniserde_text.specs.Lexer.{is_close}
use Rattle.miniserde_read.proofs.Steps.{members_follow, members_name}
use Rattle.miniserde_read.proofs.source.Source.member.Goals as goal

pub returns-in_err-after-clause-invalid : goal.returns-in_err-after-clause-invalid
returns-in_err-after-clause-invalid c = λ e k ms r p.
    let w = err_from_is_err_and c.from_residual.result c.from_residual.ensures.1 in
    let a = members_follow ms c.args.first _ r p in
    c.in_err-after.ensures.invalid (cc (w.1, w.2, e)) (ap (λ v. v.refused) c.self.view_is ∙ k) a.0 a.1
    (subst (λ z. Follows Map c.args.first a.0 z a.1) (sym (ap (λ v. v.rest) c.self.view_is)) a.2)

pub returns-in_err-name-in-Next-clause-invalid : goal.returns-in_err-name-in-Next-clause-invalid
returns-in_err-name-in-Next-clause-invalid c = λ e k ms r p.
    let w = err_from_is_err_and c.from_residual-in_err-name-in-Next.result c.from_residual-in_err-name-in-Next.ensures.1 in
    let h = subst (λ z. Follows Map c.args.first false z c.after.new.self.rest) (ap (λ v. v.rest) c.self.view_is)
    (subst (λ z. Follows Map c.args.first (is_close z) c.self.inside.lexer.rest c.after.new.self.rest)
    c.in-Next.is c.in_ok-after.ensures.ok) in
    let a = members_name ms c.args.first _ c.after.new.self.rest r h p in
    c.in_err-name-in-Next.ensures.invalid (cc (w.1, w.2, e)) c.in_ok-after.ensures.first_error.kept a.0 a.1 a.2

pub returns-in_err-name-in-Next-clause-memory : goal.returns-in_err-name-in-Next-clause-memory
returns-in_err-name-in-Next-clause-memory c = λ e k.
    let w = err_from_is_err_and c.from_residual-in_err-name-in-Next.result c.from_residual-in_err-name-in-Next.ensures.1 in
    let h = subst (λ z. Follows Map c.args.first false z c.after.new.self.rest) (ap (λ v. v.rest) c.self.view_is)
    (subst (λ z. Follows Map c.args.first (is_close z) c.self.inside.lexer.rest c.after.new.self.rest)
    c.in-Next.is c.in_ok-after.ensures.ok) in
    (c.after.new.self.rest, h, c.in_err-name-in-Next.ensures.memory (cc (w.1, w.2, e)) c.in_ok-after.ensures.first_error.kept)
