-- `take_child_or_end` takes the closing bracket or the tokens up to the first one of the next child, and returns
-- `Invalid` only if the container cannot go on. By cases on the kind: `close_passed`, `element_passed` and
-- `key_passed` each consume one event, and `begin` consumes the first event of the child.
use Rattle.std.proofs.Common.{true, false, subst}
use Rattle.std.proofs.lemmas.Result.{err_from_is_err_and, IfOk-weaker}
use Rattle.miniserde_model.specs.Lexing.{Follows}
use Rattle.miniserde_model.specs.private.Reading.{due}
use Rattle.miniserde_text.specs.Lexer.{is_close}
use Rattle.miniserde_text.specs.private.Moments.{first_or_after}
use Rattle.miniserde_text.specs.private.EventRuns.{text_at, Reaches}
use Rattle.miniserde_text.proofs.Consumes.{close_passed, element_passed, key_passed, after_ends, name_ends}
use Rattle.miniserde_text.proofs.Consumes.{ends_behind, Reaches-one, Reaches-append}
use Rattle.miniserde_read.proofs.ignored.take_child_or_end.Goals as goal

pub returns-in_err-after-clause-invalid : goal.returns-in_err-after-clause-invalid
returns-in_err-after-clause-invalid c = λ e.
    let w = err_from_is_err_and c.from_residual.result c.from_residual.ensures.1 in
    after_ends _ c.args.kind c.args.first c.requires.inside (c.in_err-after.ensures.invalid (cc (w.1, w.2, e)) c.requires.going)

pub returns-in_err-name_checked-in-Map-clause-invalid : goal.returns-in_err-name_checked-in-Map-clause-invalid
returns-in_err-name_checked-in-Map-clause-invalid c = λ e.
    let w = err_from_is_err_and c.from_residual-in_err-name_checked-in-Map.result c.from_residual-in_err-name_checked-in-Map.ensures.1 in
    let p : Follows c.args.kind c.args.first false c.args.source.now.rest c.after.new.self.rest =
    subst (λ z. Follows c.args.kind c.args.first (is_close z) c.args.source.now.rest c.after.new.self.rest)
    c.in-Next.is c.in_ok-after.ensures.ok in
    name_ends _ _ c.args.kind c.args.first c.requires.inside c.in-Map.is p
    (c.in_err-name_checked-in-Map.ensures.invalid (cc (w.1, w.2, e)) c.in_ok-after.ensures.first_error.kept)

pub returns-in-Close-clause-reaches : goal.returns-in-Close-clause-reaches
returns-in-Close-clause-reaches c =
    let p : Follows c.args.kind c.args.first true c.args.source.now.rest c.after.new.self.rest =
    subst (λ z. Follows c.args.kind c.args.first (is_close z) c.args.source.now.rest c.after.new.self.rest)
    c.in-Close.is c.in_ok-after.ensures.ok in
    Reaches-one (close_passed c.args.kind c.args.first c.requires.inside p c.pop.ensures)

pub returns-in-Seq-clause-reaches : goal.returns-in-Seq-clause-reaches
returns-in-Seq-clause-reaches c =
    let st = c.args.stack.now in
    let s = c.args.source.now.rest in
    let u = c.after.new.self.rest in
    let p : Follows c.args.kind c.args.first false s u =
    subst (λ z. Follows c.args.kind c.args.first (is_close z) s u) c.in-Next.is c.in_ok-after.ensures.ok in
    let one : Reaches (text_at (first_or_after c.args.first) st s) (text_at due st u) =
    Reaches-one (element_passed c.args.kind c.args.first c.requires.inside c.in-Seq.is p) in
    IfOk-weaker c.begin.result _ _ (λ b h. Reaches-append one h) c.begin.ensures.reaches

pub returns-in-Seq-clause-invalid : goal.returns-in-Seq-clause-invalid
returns-in-Seq-clause-invalid c = λ e.
    let st = c.args.stack.now in
    let s = c.args.source.now.rest in
    let u = c.after.new.self.rest in
    let p : Follows c.args.kind c.args.first false s u =
    subst (λ z. Follows c.args.kind c.args.first (is_close z) s u) c.in-Next.is c.in_ok-after.ensures.ok in
    let one : Reaches (text_at (first_or_after c.args.first) st s) (text_at due st u) =
    Reaches-one (element_passed c.args.kind c.args.first c.requires.inside c.in-Seq.is p) in
    ends_behind one (c.begin.ensures.invalid e)

pub returns-in_ok-name_checked-in-Map-clause-reaches : goal.returns-in_ok-name_checked-in-Map-clause-reaches
returns-in_ok-name_checked-in-Map-clause-reaches c =
    let st = c.args.stack.now in
    let s = c.args.source.now.rest in
    let u = c.name_checked.new.self.rest in
    let p : Follows c.args.kind c.args.first false s c.after.new.self.rest =
    subst (λ z. Follows c.args.kind c.args.first (is_close z) s c.after.new.self.rest) c.in-Next.is
    c.in_ok-after.ensures.ok in
    let one : Reaches (text_at (first_or_after c.args.first) st s) (text_at due st u) =
    Reaches-one (key_passed c.args.kind c.args.first c.requires.inside c.in-Map.is p c.in_ok-name_checked-in-Map.ensures.ok.1) in
    IfOk-weaker c.begin-in-Map.result _ _ (λ o h. Reaches-append one h) c.begin-in-Map.ensures.reaches

pub returns-in_ok-name_checked-in-Map-clause-invalid : goal.returns-in_ok-name_checked-in-Map-clause-invalid
returns-in_ok-name_checked-in-Map-clause-invalid c = λ e.
    let st = c.args.stack.now in
    let s = c.args.source.now.rest in
    let u = c.name_checked.new.self.rest in
    let p : Follows c.args.kind c.args.first false s c.after.new.self.rest =
    subst (λ z. Follows c.args.kind c.args.first (is_close z) s c.after.new.self.rest) c.in-Next.is
    c.in_ok-after.ensures.ok in
    let one : Reaches (text_at (first_or_after c.args.first) st s) (text_at due st u) =
    Reaches-one (key_passed c.args.kind c.args.first c.requires.inside c.in-Map.is p c.in_ok-name_checked-in-Map.ensures.ok.1) in
    ends_behind one (c.begin-in-Map.ensures.invalid e)
