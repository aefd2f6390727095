-- The row was committed, the open finds the last commit, and the one body of the key is the canonical text of the value.
use Rattle.std.proofs.Common.{refl, sym, ap, subst, ◌∙◌}
use Rattle.std.proofs.lemmas.Option.{IfSome_then}
use Rattle.miniserde.specs.Value.{IsJson}
use Rattle.miniserde.specs.Normal.{norm}
use Rattle.sqlite.specs.Effect.{Database}
use Rattle.rows.proofs.Reopened.{still_put, opened_committed}
use Rattle.rows.proofs.files.put_and_reopen.Goals as goal

pub returns-clause-put : goal.returns-clause-put
returns-clause-put g c clean was outside =
    let again = c.in_ok-found.ensures.clean clean in
    let closed = c.in_ok-conn.ensures.clean again in
    let p = c.in_ok-put.ensures.put closed was in
    let found = c.in_ok-conn.ensures.found again ∙ (c.in_ok-put.ensures.committed closed was outside).1 in
    let same = c.in_ok-found.ensures.same clean (ap (λ (d : Database). d.schema) found ∙ p.store.schema) in
    still_put _ _ _ _ _ _ p found same.0.now_is

pub returns-clause-committed : goal.returns-clause-committed
returns-clause-committed g c clean was outside =
    let again = c.in_ok-found.ensures.clean clean in
    let closed = c.in_ok-conn.ensures.clean again in
    let p = c.in_ok-put.ensures.put closed was in
    let found = c.in_ok-conn.ensures.found again ∙ (c.in_ok-put.ensures.committed closed was outside).1 in
    let same = c.in_ok-found.ensures.same clean (ap (λ (d : Database). d.schema) found ∙ p.store.schema) in
    opened_committed _ _ (c.in_ok-conn.ensures.opened again).0 same

pub returns-clause-same : goal.returns-clause-same
returns-clause-same g c clean was outside =
    let again = c.in_ok-found.ensures.clean clean in
    let closed = c.in_ok-conn.ensures.clean again in
    let p = c.in_ok-put.ensures.put closed was in
    let found = c.in_ok-conn.ensures.found again ∙ (c.in_ok-put.ensures.committed closed was outside).1 in
    let there = still_put _ _ _ _ _ _ p found refl in
    let v = c.args.value.now in
    let tree = norm (g.V.Serialize.tree v) in
    IfSome_then c.in_ok-found.found (c.in_ok-found.ensures.some clean there.store.schema)
    (λ read k. k.2.same v c.ranged.ensures (subst (λ b. IsJson b tree) (sym (there.only k.0 k.1)) c.in_ok-put.ensures.spells.1))

pub returns-clause-some : goal.returns-clause-some
returns-clause-some g c clean was outside none =
    let again = c.in_ok-found.ensures.clean clean in
    let closed = c.in_ok-conn.ensures.clean again in
    let p = c.in_ok-put.ensures.put closed was in
    let found = c.in_ok-conn.ensures.found again ∙ (c.in_ok-put.ensures.committed closed was outside).1 in
    let there = still_put _ _ _ _ _ _ p found refl in
    c.in_ok-found.ensures.none clean there.store.schema (rw none) (there.here.0, there.here.1, there.here.2)
