-- What the statement did, by what `sqlite` says of an execution.
use Rattle.std.proofs.Common.{[], ◌∷◌, Ok, Err}
use Rattle.sqlite.specs.declared.types.Value.TheVariants.{Text}
use Rattle.sqlite.specs.Held.{state}
use Rattle.rows.specs.Entries.{remove_text}
use Rattle.rows.proofs.Effects.{removes_in, removes_any, removes_commits_in, removes_undone}
use Rattle.rows.proofs.Serving.{remove_kept, failed_aborts, on_err}
use Rattle.rows.proofs.Commits.{removes_inside}
use Rattle.rows.proofs.texts.remove.Goals as goal

pub returns-clause-found : goal.returns-clause-found
returns-clause-found g c clean was =
    let old = state g.S.Store c.args.conn.now in
    let new = state g.S.Store c.execute_remove.new.conn in
    removes_any old new c.args.key.now c.in_ok-count.count was (c.in_ok-count.ensures.runs clean)

pub returns-clause-removed : goal.returns-clause-removed
returns-clause-removed g c clean was =
    let old = state g.S.Store c.args.conn.now in
    let new = state g.S.Store c.execute_remove.new.conn in
    removes_in old new c.args.key.now (Ok c.in_ok-count.count) was (c.in_ok-count.ensures.runs clean)

pub returns-clause-committed : goal.returns-clause-committed
returns-clause-committed g c clean was outside =
    let old = state g.S.Store c.args.conn.now in
    let new = state g.S.Store c.execute_remove.new.conn in
    removes_commits_in old new c.args.key.now (Ok c.in_ok-count.count) was outside (c.in_ok-count.ensures.runs clean)

pub returns-clause-serving : goal.returns-clause-serving
returns-clause-serving g c clean s =
    let old = state g.S.Store c.args.conn.now in
    let new = state g.S.Store c.execute_remove.new.conn in
    (remove_kept old new c.args.key.now (Ok c.in_ok-count.count) s (c.in_ok-count.ensures.runs clean)).0

pub returns-clause-live : goal.returns-clause-live
returns-clause-live g c clean s =
    let old = state g.S.Store c.args.conn.now in
    let new = state g.S.Store c.execute_remove.new.conn in
    (remove_kept old new c.args.key.now (Ok c.in_ok-count.count) s (c.in_ok-count.ensures.runs clean)).1.0

pub returns-in_err-count-clause-undone : goal.returns-in_err-count-clause-undone
returns-in_err-count-clause-undone g c clean was =
    let old = state g.S.Store c.args.conn.now in
    let new = state g.S.Store c.execute_remove.new.conn in
    on_err _ (removes_undone old new c.args.key.now (Err _) was (c.in_err-count.ensures.runs clean))

pub returns-in_err-count-clause-aborts : goal.returns-in_err-count-clause-aborts
returns-in_err-count-clause-aborts g c clean =
    let old = state g.S.Store c.args.conn.now in
    let new = state g.S.Store c.execute_remove.new.conn in
    on_err _ (failed_aborts remove_text (Text c.args.key.now ∷ []) old new _ (c.in_err-count.ensures.runs clean))

pub returns-in_err-count-clause-serving : goal.returns-in_err-count-clause-serving
returns-in_err-count-clause-serving g c clean s =
    let old = state g.S.Store c.args.conn.now in
    let new = state g.S.Store c.execute_remove.new.conn in
    (remove_kept old new c.args.key.now (Err _) s (c.in_err-count.ensures.runs clean)).0

pub returns-in_err-count-clause-kept : goal.returns-in_err-count-clause-kept
returns-in_err-count-clause-kept g c clean s =
    let old = state g.S.Store c.args.conn.now in
    let new = state g.S.Store c.execute_remove.new.conn in
    on_err _ (remove_kept old new c.args.key.now (Err _) s (c.in_err-count.ensures.runs clean)).1.1

pub returns-clause-inside : goal.returns-clause-inside
returns-clause-inside g c clean has inside =
    let old = state g.S.Store c.args.conn.now in
    let new = state g.S.Store c.execute_remove.new.conn in
    removes_inside old new c.args.key.now (Ok c.in_ok-count.count) has inside (c.in_ok-count.ensures.runs clean)
