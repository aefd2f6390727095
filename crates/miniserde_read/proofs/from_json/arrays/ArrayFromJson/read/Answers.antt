-- `read` returns the N items that a list of exactly N children gives, and `Invalid` only if no such list follows. The
-- loop keeps that the items so far are given by the children so far (`ListGoes`); each exit is a lemma of
-- `proofs/Arrays.antt`.
use Rattle.std.proofs.Common.{◌≡◌, map, Result, Ok, Err, IfOk, Option, Some, suc, length, inl, inr, sym, ap, subst, ◌∙◌, arith}
use Rattle.std.proofs.lemmas.Result.{err_from_is_err_and, IfOk-weaker}
use Rattle.std.specs.Result.{MatchResult, result_ok}
use Rattle.std.specs.Option.{ok_or}
use Rattle.miniserde_model.specs.Tree.{list}
use Rattle.miniserde_text.specs.Lexer.{event_of_token}
use Rattle.miniserde_read.specs.types.Arrays.{array_of}
use Rattle.miniserde_read.proofs.Arrays.{array_short, array_long, array_ends}
use Rattle.miniserde_read.proofs.Lacking.{AmongGoes, among_goes, among_lacks, an_element}
use Rattle.miniserde_read.proofs.Lists.{list_goes, list_rejects}
use Rattle.miniserde_read.proofs.from_json.arrays.ArrayFromJson.read.Goals as goal

pub returns-in_err-read_items-clause-invalid : goal.returns-in_err-read_items-clause-invalid
returns-in_err-read_items-clause-invalid g c = λ e.
    let w = err_from_is_err_and c.from_residual-in_err-read_items.result c.from_residual-in_err-read_items.ensures.1 in
    list_rejects (array_of g.row.N g.T.FromJson.means.from_tree) _ _ _ c.in-SeqStart.is
    (array_long g.row.N c.loop-source.invariant.goes (omega arith) (c.in_err-read_items.ensures.invalid (cc (w.1, w.2, e))))

-- what the conversion gives, where it gives an array
given : {X Y E : Type 0} (P : X → Type 0) (Q : Y → Type 0) (r : Result X Y) {o : Option X} {q : Result X E} (e : E)
    → o ≡ result_ok r → q ≡ ok_or o e → MatchResult r P Q → IfOk q P
given P Q (Ok x) e h i m = rw (i, h) m
given P Q (Err y) e h i m = rw (i, h) tt

pub returns-clause-ok : goal.returns-clause-ok
returns-clause-ok g c =
    let d = array_ends g.row.N c.loop-source.invariant.goes _ _ (omega arith) c.in_ok-read_items.ensures.ok in
    IfOk-weaker c.ok_or.result _ _ (λ v k. (
      list d.0,
      (ap (λ z. event_of_token z c.args.source.now.scratch) c.in-SeqStart.is, d.1),
      d.2 ∙ ap (λ z. Some (map g.T.FromJson.means.content z)) (sym k.0),
    )) (given _ _ c.try_from.result _ c.ok.ensures.value c.ok_or.ensures.value c.try_from.ensures)

pub returns-in_default-2-clause-invalid : goal.returns-in_default-2-clause-invalid
returns-in_default-2-clause-invalid g c = λ e. list_rejects (array_of g.row.N g.T.FromJson.means.from_tree) _ _ _ c.in-SeqStart.is
    (array_short g.row.N c.loop-source.invariant.goes _ (omega arith) (rw c.in_default-2.is at c.in_ok-item.ensures.ok))

pub returns-in_err-item-clause-memory : goal.returns-in_err-item-clause-memory
returns-in_err-item-clause-memory g c = λ e a.
    let w = err_from_is_err_and c.from_residual.result c.from_residual.ensures.1 in (
      ap (λ z. event_of_token z c.args.source.now.scratch) c.in-SeqStart.is,
      among_lacks g.row.N _ _ _ _ _ c.loop-source.invariant.among (omega arith)
          (inl (c.in_err-item.ensures.memory (cc (w.1, w.2, e)) a)),
    )

pub returns-in_err-push-clause-memory : goal.returns-in_err-push-clause-memory
returns-in_err-push-clause-memory g c = λ e a. (
  ap (λ z. event_of_token z c.args.source.now.scratch) c.in-SeqStart.is,
  among_lacks g.row.N _ _ _ _ _ c.loop-source.invariant.among (omega arith)
      (inr (an_element g.T.FromJson.means _ _ _ _ (rw c.in-Some.is at c.in_ok-item.ensures.ok))),
)

pub loop-source-preserved : goal.loop-source-preserved
loop-source-preserved g c =
    let h = rw c.in-Some.is at c.in_ok-item.ensures.ok in
    let one_more : suc (length c.loop-source.items.items) ≡ length c.push.new.self.items = omega (arith, c.in_ok-push.ensures.len) in
    record {
      going = c.in_ok-item.ensures.going;
      goes = rw c.in_ok-push.ensures.items (list_goes c.loop-source.invariant.goes h);
      few = omega (arith, c.in_ok-push.ensures.len);
      among = subst (AmongGoes g.row.N _ _ _) one_more
          (among_goes g.row.N _ _ _ _ _ c.loop-source.invariant.among (an_element g.T.FromJson.means _ _ _ _ h));
    }
