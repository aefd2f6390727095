-- What the statement did, by what `sqlite` says of an execution.
use Rattle.std.proofs.Common.{[]}
use Rattle.sqlite.specs.Held.{state}
use Rattle.rows.specs.Entries.{begin_text}
use Rattle.rows.proofs.Commits.{begins, begins_open}
use Rattle.rows.proofs.Serving.{executes_aborts}
use Rattle.rows.proofs.texts.begin.Goals as goal

pub returns-clause-begun : goal.returns-clause-begun
returns-clause-begun g c clean has =
    begins (state g.S.Store c.args.conn.now) (state g.S.Store c.execute_begin.new.conn) c.execute_begin.result has
    (c.execute_begin.ensures.runs clean)

pub returns-clause-aborts : goal.returns-clause-aborts
returns-clause-aborts g c clean =
    executes_aborts begin_text [] (state g.S.Store c.args.conn.now) (state g.S.Store c.execute_begin.new.conn) c.execute_begin.result
    (c.execute_begin.ensures.runs clean)

pub returns-clause-live : goal.returns-clause-live
returns-clause-live g c clean outside =
    begins_open (state g.S.Store c.args.conn.now) (state g.S.Store c.execute_begin.new.conn) c.execute_begin.result outside
    (c.execute_begin.ensures.runs clean)
