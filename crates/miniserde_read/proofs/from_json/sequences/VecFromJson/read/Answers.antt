-- `read` returns the items that the children of a list give, and `Invalid` only if no such list follows. The loop
-- keeps that the items so far are given by the children so far, behind which a bracket or a comma was taken (`ListNext`).
use Rattle.std.proofs.Common.{false, ap, arith}
use Rattle.std.proofs.lemmas.Result.{err_from_is_err_and}
use Rattle.miniserde_model.specs.Tree.{list}
use Rattle.miniserde_model.specs.declared.kind.Kind.TheVariants.{Seq}
use Rattle.miniserde_text.specs.Lexer.{event_of_token, is_close}
use Rattle.miniserde_read.specs.types.Lists.{list_of}
use Rattle.miniserde_read.proofs.Due.{due_less}
use Rattle.miniserde_read.proofs.Length.{follows_least}
use Rattle.miniserde_read.proofs.Lists.{list_begins, list_rejects, next_goes, closed_list_gives, next_none, no_list_follows}
use Rattle.miniserde_read.proofs.from_json.sequences.VecFromJson.read.Goals as goal

pub returns-in_err-next-clause-invalid : goal.returns-in_err-next-clause-invalid
returns-in_err-next-clause-invalid g c = λ e.
    let w = err_from_is_err_and c.from_residual.result c.from_residual.ensures.1 in
    list_rejects (list_of g.T.FromJson.means.from_tree) _ _ _ c.in-SeqStart.is
    (no_list_follows (list_begins g.T.FromJson.means _) (c.in_err-next.ensures.invalid (cc (w.1, w.2, e)) c.requires.going))

pub returns-in_err-read_due-clause-invalid : goal.returns-in_err-read_due-clause-invalid
returns-in_err-read_due-clause-invalid g c = λ e.
    let w = err_from_is_err_and c.from_residual-in_err-read_due.result c.from_residual-in_err-read_due.ensures.1 in
    list_rejects (list_of g.T.FromJson.means.from_tree) _ _ _ c.in-SeqStart.is
    (next_none (rw c.in-Next.is at c.loop-next.invariant.goes) (c.in_err-read_due.ensures.invalid (cc (w.1, w.2, e))))

pub returns-in_err-next-2-clause-invalid : goal.returns-in_err-next-2-clause-invalid
returns-in_err-next-2-clause-invalid g c = λ e.
    let w = err_from_is_err_and c.from_residual-in_err-next-2.result c.from_residual-in_err-next-2.ensures.1 in
    list_rejects (list_of g.T.FromJson.means.from_tree) _ _ _ c.in-SeqStart.is
    (no_list_follows (next_goes (rw c.in-Next.is at c.loop-next.invariant.goes) c.in_ok-read_due.ensures.ok)
    (c.in_err-next-2.ensures.invalid (cc (w.1, w.2, e)) c.in_ok-read_due.ensures.going))

pub loop-next-smaller : goal.loop-next-smaller
loop-next-smaller g c =
    let l = follows_least Seq false (is_close c.in_ok-next-2.next) c.read_due.new.source.rest _ c.in_ok-next-2.ensures.ok in
    omega (arith, l, due_less c.in_ok-read_due.ensures.ok)

pub loop-next-preserved : goal.loop-next-preserved
loop-next-preserved g c = record {
  going = c.in_ok-next-2.ensures.first_error.kept;
  goes = record {
    first = false;
    before = c.read_due.new.source.rest;
    goes = rw c.in_ok-push.ensures.items
        (next_goes (rw c.in-Next.is at c.loop-next.invariant.goes) c.in_ok-read_due.ensures.ok);
    follows = c.in_ok-next-2.ensures.ok;
  };
}

pub returns-clause-ok : goal.returns-clause-ok
returns-clause-ok g c =
    let n = rw c.in_default-next.is at c.loop-next.invariant.goes in
    let d = closed_list_gives _ n.goes n.follows in
    (list d.0, (ap (λ z. event_of_token z c.args.source.now.scratch) c.in-SeqStart.is, d.1), d.2)
