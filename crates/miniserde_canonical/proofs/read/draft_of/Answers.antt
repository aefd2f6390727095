-- `draft_of` returns the draft of the text's tree, or `Invalid` if the text has no tree. The tokens so far are the
-- invariant (`Taken`), and each exit is a lemma over plain variables of `WholeTexts.antt` or `ReaderDrafts.antt`.
use Rattle.std.proofs.Common.{◌≡◌, None, length, sym, ap, subst, ◌∙◌}
use Rattle.std.proofs.lemmas.Result.{err_from_is_err_and}
use Rattle.miniserde_model.specs.private.Reading.{due}
use Rattle.miniserde_text.specs.private.Stack.{innermost}
use Rattle.miniserde_text.specs.private.EventRuns.{text_at}
use Rattle.miniserde_text.specs.private.Moments.{first_or_after, due_or_after}
use Rattle.miniserde_canonical.specs.private.EventTokens.{ReadsTokens}
use Rattle.miniserde_canonical.specs.private.Drafts.{draft_at, DraftTakes, Holding}
use Rattle.miniserde_canonical.proofs.DraftSteps.{keep_holding}
use Rattle.miniserde_canonical.proofs.WholeTexts.{rejects_from, rejects_json, invalid_exit, end_invalid}
use Rattle.miniserde_canonical.proofs.ReaderDrafts.{taken_first, taken_more, taken_all}
use Rattle.miniserde_canonical.proofs.read.draft_of.Goals as goal

pub loop-kind-init : goal.loop-kind-init
loop-kind-init c =
    let r = c.in_ok-first.ensures.reads in
    let start : c.new.result.rest ≡ c.args.j.now = ap (λ l. l.rest) c.new.ensures in
    record {
      going = c.in_ok-first.ensures.going;
      taken =
          taken_first {d = c.new-4.result} c.new-3.ensures start c.new-4.ensures r.1
          (subst (λ z. DraftTakes (draft_at due z c.new-4.result) r.0
          (draft_at (first_or_after c.in_ok-first.first) c.value.new.self.lexer.rest c.value.new.self.draft)) start r.2);
    }

-- a value is due, and comes
pub loop-kind-preserved-then-branch : goal.loop-kind-preserved-then-branch
loop-kind-preserved-then-branch c =
    let a = c.in_ok-take_child_or_end.ensures.reads in
    let b = c.in_ok-first-2.ensures.reads in
    let l = c.loop-kind.reader in
    let reads = subst (λ z. ReadsTokens (text_at (first_or_after c.loop-kind.first) l.stack l.lexer.rest) a.0
    (text_at (due_or_after z) c.take_child_or_end.new.self.stack c.take_child_or_end.new.self.lexer.rest)) c.if-branch.true a.1 in
    let takes = subst (λ z. DraftTakes (draft_at (first_or_after c.loop-kind.first) l.lexer.rest l.draft) a.0
    (draft_at (due_or_after z) c.take_child_or_end.new.self.lexer.rest c.take_child_or_end.new.self.draft))
    c.if-branch.true a.2 in
    let turned = taken_more c.loop-kind.invariant.taken reads takes in
    record { going = c.in_ok-first-2.ensures.going; taken = taken_more turned b.1 b.2 }

pub loop-kind-preserved : goal.loop-kind-preserved
loop-kind-preserved c =
    let a = c.in_ok-take_child_or_end.ensures.reads in
    let l = c.loop-kind.reader in
    let reads = subst (λ z. ReadsTokens (text_at (first_or_after c.loop-kind.first) l.stack l.lexer.rest) a.0
    (text_at (due_or_after z) c.take_child_or_end.new.self.stack c.take_child_or_end.new.self.lexer.rest)) c.if-branch.false a.1 in
    let takes = subst (λ z. DraftTakes (draft_at (first_or_after c.loop-kind.first) l.lexer.rest l.draft) a.0
    (draft_at (due_or_after z) c.take_child_or_end.new.self.lexer.rest c.take_child_or_end.new.self.draft))
    c.if-branch.false a.2 in
    record {
      going = c.in_ok-take_child_or_end.ensures.going;
      taken =
          taken_more c.loop-kind.invariant.taken reads takes;
    }

pub returns-in_err-first-clause-invalid : goal.returns-in_err-first-clause-invalid
returns-in_err-first-clause-invalid c = λ e.
    let w = err_from_is_err_and c.from_residual.result c.from_residual.ensures.1 in
    rejects_json c.args.j.now
    (rejects_from c.new-3.ensures (ap (λ l. l.rest) c.new.ensures)
    (c.in_err-first.ensures.invalid (cc (w.1, w.2, e))))

pub returns-in_err-take_child_or_end-clause-invalid : goal.returns-in_err-take_child_or_end-clause-invalid
returns-in_err-take_child_or_end-clause-invalid c = λ e.
    let w = err_from_is_err_and c.from_residual-in_err-take_child_or_end.result c.from_residual-in_err-take_child_or_end.ensures.1 in
    invalid_exit c.loop-kind.invariant.taken.reads (c.in_err-take_child_or_end.ensures.invalid (cc (w.1, w.2, e)))

pub returns-in_err-first-2-clause-invalid : goal.returns-in_err-first-2-clause-invalid
returns-in_err-first-2-clause-invalid c = λ e.
    let w = err_from_is_err_and c.from_residual-in_err-first-2.result c.from_residual-in_err-first-2.ensures.1 in
    let a = c.in_ok-take_child_or_end.ensures.reads in
    let l = c.loop-kind.reader in
    let reads = subst (λ z. ReadsTokens (text_at (first_or_after c.loop-kind.first) l.stack l.lexer.rest) a.0
    (text_at (due_or_after z) c.take_child_or_end.new.self.stack c.take_child_or_end.new.self.lexer.rest)) c.if-branch.true a.1 in
    let takes = subst (λ z. DraftTakes (draft_at (first_or_after c.loop-kind.first) l.lexer.rest l.draft) a.0
    (draft_at (due_or_after z) c.take_child_or_end.new.self.lexer.rest c.take_child_or_end.new.self.draft))
    c.if-branch.true a.2 in
    let turned = taken_more c.loop-kind.invariant.taken reads takes in
    invalid_exit turned.reads (c.in_err-first-2.ensures.invalid (cc (w.1, w.2, e)))

pub returns-in_err-end-clause-invalid : goal.returns-in_err-end-clause-invalid
returns-in_err-end-clause-invalid c = λ e.
    let w = err_from_is_err_and c.from_residual-in_err-end.result c.from_residual-in_err-end.ensures.1 in
    let n : innermost c.loop-kind.reader.stack ≡ None = sym c.top.ensures ∙ c.in_default.is in
    end_invalid c.loop-kind.first c.loop-kind.reader.stack n c.loop-kind.invariant.taken.reads
    (c.in_err-end.ensures.invalid (cc (w.1, w.2, e)) c.loop-kind.invariant.going)

pub returns-clause-ok : goal.returns-clause-ok
returns-clause-ok c =
    let n : innermost c.loop-kind.reader.stack ≡ None = sym c.top.ensures ∙ c.in_default.is in
    let t = taken_all c.loop-kind.first n c.in_ok-end.ensures.ok.1 c.loop-kind.invariant.taken in
    let d = c.loop-kind.reader.draft in
    let e = c.flush.new.self in
    let r = t.4 in
    let left = c.left-left.ensures ∙ ap (λ l. length l.rest) c.in_ok-end.ensures.ok.0 in
    let q = c.in_ok-flush.ensures.wrote _ r.bytes r.wrote left in
    (t.0, t.1, t.2, t.3, subst (λ z. Holding e z t.1) (sym q.1) (keep_holding c.in_ok-flush.ensures.only_text r.holding))
