-- What the statement did, by what `sqlite` says of an execution.
use Rattle.std.proofs.Common.{[]}
use Rattle.sqlite.specs.Held.{state}
use Rattle.rows.specs.Entries.{create_text}
use Rattle.rows.proofs.Effects.{creates, creates_again, creates_committed}
use Rattle.rows.proofs.Serving.{executes_aborts}
use Rattle.rows.proofs.texts.create.Goals as goal

pub returns-clause-fresh : goal.returns-clause-fresh
returns-clause-fresh g c clean has = creates (state g.S.Store c.args.conn.now) (state g.S.Store c.execute.new.self) c.execute.result has
    (c.execute.ensures.runs clean)

pub returns-clause-committed : goal.returns-clause-committed
returns-clause-committed g c clean has outside =
    creates_committed (state g.S.Store c.args.conn.now) (state g.S.Store c.execute.new.self) c.execute.result has outside
    (c.execute.ensures.runs clean)

pub returns-clause-again : goal.returns-clause-again
returns-clause-again g c clean has = creates_again (state g.S.Store c.args.conn.now)
    (state g.S.Store c.execute.new.self) c.execute.result has (c.execute.ensures.runs clean)

pub returns-clause-aborts : goal.returns-clause-aborts
returns-clause-aborts g c clean =
    executes_aborts create_text [] (state g.S.Store c.args.conn.now) (state g.S.Store c.execute.new.self) c.execute.result
    (c.execute.ensures.runs clean)
