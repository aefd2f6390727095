-- No items are left to read, so the list must end. A closing bracket means that no children remain, and an element
-- that some do (`one_left`). If `after` returns `Invalid`, no list goes on here (`elements_follow`).
use Rattle.std.proofs.Common.{subst, refl}
use Rattle.std.proofs.lemmas.Result.{err_from_is_err_and}
use Rattle.miniserde_model.specs.Tree.{no_trees}
use Rattle.miniserde_model.specs.Lexing.{Follows}
use Rattle.miniserde_model.specs.declared.kind.Kind.TheVariants.{Seq}
use Rattle.miniserde_text.specs.Lexer.{is_close}
use Rattle.miniserde_read.proofs.Steps.{elements_follow}
use Rattle.miniserde_read.proofs.Tuples.{one_left}
use Rattle.miniserde_read.proofs.items.NoItemItems.read_items.Goals as goal

pub returns-in_err-after-clause-invalid : goal.returns-in_err-after-clause-invalid
returns-in_err-after-clause-invalid c = λ e ts r p.
    let w = err_from_is_err_and c.from_residual.result c.from_residual.ensures.1 in
    let m = elements_follow ts c.args.first c.args.source.now.rest r p in
    absurd (c.in_err-after.ensures.invalid (cc (w.1, w.2, e)) c.requires m.0 m.1 m.2)

pub returns-in-Close-clause-ok : goal.returns-in-Close-clause-ok
returns-in-Close-clause-ok c = (
  no_trees,
  subst (λ z. Follows Seq c.args.first (is_close z) c.args.source.now.rest c.after.new.self.rest)
      c.in-Close.is c.in_ok-after.ensures.ok,
  refl,
)

pub returns-in-Next-clause-invalid : goal.returns-in-Next-clause-invalid
returns-in-Next-clause-invalid c = λ e ts r p.
    let s = c.args.source.now.rest in
    let b = c.after.new.self.rest in
    one_left ts c.args.first s b r (subst (λ z. Follows Seq c.args.first (is_close z) s b) c.in-Next.is c.in_ok-after.ensures.ok) p
