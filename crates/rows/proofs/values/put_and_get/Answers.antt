-- The one body of the key is the canonical text of the value.
use Rattle.std.proofs.Common.{inr, refl, sym, subst}
use Rattle.std.proofs.lemmas.Option.{IfSome_then}
use Rattle.std.proofs.lemmas.Result.{IfOk-weaker}
use Rattle.miniserde.specs.Value.{IsJson}
use Rattle.miniserde.specs.Normal.{norm}
use Rattle.rows.proofs.Commits.{still_inside}
use Rattle.rows.proofs.Reopened.{still_put, still_committed}
use Rattle.rows.proofs.Serving.{on_err}
use Rattle.rows.proofs.values.put_and_get.Goals as goal

pub returns-clause-put : goal.returns-clause-put
returns-clause-put g c clean was =
    let p = c.in_ok-put.ensures.put (c.get.ensures.clean clean) was in
    IfOk-weaker c.get.result _ _ (λ _ same. still_put _ _ _ _ _ _ p refl same.0.now_is) (c.get.ensures.same clean p.store.schema)

pub returns-clause-committed : goal.returns-clause-committed
returns-clause-committed g c clean was outside =
    let late = c.get.ensures.clean clean in
    let p = c.in_ok-put.ensures.put late was in
    IfOk-weaker c.get.result _ _ (λ _ same. still_committed _ _ (c.in_ok-put.ensures.committed late was outside) same)
    (c.get.ensures.same clean p.store.schema)

pub returns-clause-same : goal.returns-clause-same
returns-clause-same g c clean was =
    let p = c.in_ok-put.ensures.put (c.get.ensures.clean clean) was in
    let v = c.args.value.now in
    let tree = norm (g.V.Serialize.tree v) in
    IfOk-weaker c.get.result _ _
    (λ answer h. IfSome_then answer h
    (λ read k. k.2.same v c.ranged.ensures (subst (λ b. IsJson b tree) (sym (p.only k.0 k.1)) c.in_ok-put.ensures.spells.1)))
    (c.get.ensures.some clean p.store.schema)

pub returns-clause-some : goal.returns-clause-some
returns-clause-some g c clean was none =
    let p = c.in_ok-put.ensures.put (c.get.ensures.clean clean) was in
    c.get.ensures.none clean p.store.schema none (p.here.0, p.here.1, p.here.2)

pub returns-clause-valid : goal.returns-clause-valid
returns-clause-valid g c clean was wrong =
    let p = c.in_ok-put.ensures.put (c.get.ensures.clean clean) was in
    let v = c.args.value.now in
    let tree = norm (g.V.Serialize.tree v) in
    let b = c.get.ensures.invalid clean p.store.schema wrong in
    b.2 v c.ranged.ensures (subst (λ b. IsJson b tree) (sym (p.only b.0 b.1)) c.in_ok-put.ensures.spells.1)

pub returns-clause-inside : goal.returns-clause-inside
returns-clause-inside g c clean was inside =
    let late = c.get.ensures.clean clean in
    let p = c.in_ok-put.ensures.put late was in
    IfOk-weaker c.get.result _ _ (λ _ same. still_inside _ _ _ (c.in_ok-put.ensures.inside late was.schema inside) same)
    (c.get.ensures.same clean p.store.schema)

pub returns-clause-kept : goal.returns-clause-kept
returns-clause-kept g c clean s live =
    let late = c.get.ensures.clean clean in
    let was = (s.1 (c.in_ok-put.ensures.live late s).0).1 in
    let same = c.get.ensures.kept clean (c.in_ok-put.ensures.serving late s) live in
    on_err _ (inr (still_put _ _ _ _ _ _ (c.in_ok-put.ensures.put late was) refl same.1))
