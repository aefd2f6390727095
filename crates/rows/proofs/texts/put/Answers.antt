-- What the statement did, by what `sqlite` says of an execution.
use Rattle.std.proofs.Common.{[], ◌∷◌}
use Rattle.sqlite.specs.declared.types.Value.TheVariants.{Text}
use Rattle.sqlite.specs.Held.{state}
use Rattle.rows.specs.Entries.{put_text}
use Rattle.rows.proofs.Effects.{puts_in, commits_in, undone_in}
use Rattle.rows.proofs.Serving.{put_kept, executes_aborts}
use Rattle.rows.proofs.Commits.{puts_inside}
use Rattle.rows.proofs.texts.put.Goals as goal

pub returns-clause-put : goal.returns-clause-put
returns-clause-put g c clean was =
    let old = state g.S.Store c.args.conn.now in
    let new = state g.S.Store c.execute_put.new.conn in
    puts_in old new c.args.key.now c.args.body.now c.execute_put.result was (c.execute_put.ensures.runs clean)

pub returns-clause-committed : goal.returns-clause-committed
returns-clause-committed g c clean was outside =
    let old = state g.S.Store c.args.conn.now in
    let new = state g.S.Store c.execute_put.new.conn in
    commits_in old new c.args.key.now c.args.body.now c.execute_put.result was outside (c.execute_put.ensures.runs clean)

pub returns-clause-undone : goal.returns-clause-undone
returns-clause-undone g c clean was =
    let old = state g.S.Store c.args.conn.now in
    let new = state g.S.Store c.execute_put.new.conn in
    undone_in old new c.args.key.now c.args.body.now c.execute_put.result was (c.execute_put.ensures.runs clean)

pub returns-clause-aborts : goal.returns-clause-aborts
returns-clause-aborts g c clean =
    let old = state g.S.Store c.args.conn.now in
    let new = state g.S.Store c.execute_put.new.conn in
    executes_aborts put_text (Text c.args.key.now ∷ Text c.args.body.now ∷ []) old new c.execute_put.result
    (c.execute_put.ensures.runs clean)

pub returns-clause-serving : goal.returns-clause-serving
returns-clause-serving g c clean s =
    let old = state g.S.Store c.args.conn.now in
    let new = state g.S.Store c.execute_put.new.conn in
    (put_kept old new c.args.key.now c.args.body.now c.execute_put.result s (c.execute_put.ensures.runs clean)).0

pub returns-clause-live : goal.returns-clause-live
returns-clause-live g c clean s =
    let old = state g.S.Store c.args.conn.now in
    let new = state g.S.Store c.execute_put.new.conn in
    (put_kept old new c.args.key.now c.args.body.now c.execute_put.result s (c.execute_put.ensures.runs clean)).1.0

pub returns-clause-kept : goal.returns-clause-kept
returns-clause-kept g c clean s =
    let old = state g.S.Store c.args.conn.now in
    let new = state g.S.Store c.execute_put.new.conn in
    (put_kept old new c.args.key.now c.args.body.now c.execute_put.result s (c.execute_put.ensures.runs clean)).1.1

pub returns-clause-inside : goal.returns-clause-inside
returns-clause-inside g c clean has inside =
    let old = state g.S.Store c.args.conn.now in
    let new = state g.S.Store c.execute_put.new.conn in
    puts_inside old new c.args.key.now c.args.body.now c.execute_put.result has inside (c.execute_put.ensures.runs clean)
