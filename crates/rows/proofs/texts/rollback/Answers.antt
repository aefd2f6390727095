-- What the statement did, by what `sqlite` says of an execution.
use Rattle.std.proofs.Common.{[]}
use Rattle.sqlite.specs.Held.{state}
use Rattle.rows.specs.Entries.{rollback_text}
use Rattle.rows.proofs.Commits.{rolls_back, back_serving}
use Rattle.rows.proofs.Serving.{executes_aborts}
use Rattle.rows.proofs.texts.rollback.Goals as goal

pub returns-clause-back : goal.returns-clause-back
returns-clause-back g c clean has =
    rolls_back (state g.S.Store c.args.conn.now) (state g.S.Store c.execute_rollback.new.conn) c.execute_rollback.result has
    (c.execute_rollback.ensures.runs clean)

pub returns-clause-serving : goal.returns-clause-serving
returns-clause-serving g c clean has was =
    let old = state g.S.Store c.args.conn.now in
    let new = state g.S.Store c.execute_rollback.new.conn in
    back_serving old new c.execute_rollback.result was
    (rolls_back old new c.execute_rollback.result has (c.execute_rollback.ensures.runs clean))

pub returns-clause-aborts : goal.returns-clause-aborts
returns-clause-aborts g c clean =
    executes_aborts rollback_text [] (state g.S.Store c.args.conn.now) (state g.S.Store c.execute_rollback.new.conn)
    c.execute_rollback.result (c.execute_rollback.ensures.runs clean)
