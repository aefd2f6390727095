-- Each visit adds one, and the visitor took all rows.
use Rattle.std.proofs.Common.{◌≡◌, ◌+◌, OnOk, refl}
use Rattle.sqlite.specs.Held.{state}
use Rattle.test_store.specs.declared.counted.Count.{Count}
use Rattle.test_store.proofs.Counts.{counts_all}
use Rattle.test_store.proofs.counted.count_rows.Goals as goal

pub returns-then-branch : goal.returns-then-branch
returns-then-branch g c clean store =
    let visited = rw c.if-branch.true at (c.in_ok-visit_rows.ensures.visited clean store) in
    counts_all (λ v k b r w. OnOk r (w.rows ≡ v.rows + 1)) (λ (v : Count). v.rows) (λ v w e adds. adds)
    (state g.S.Store c.args.conn.now).now _ _ refl visited
