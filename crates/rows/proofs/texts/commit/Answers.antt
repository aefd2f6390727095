-- What the statement did, by what `sqlite` says of an execution.
use Rattle.std.proofs.Common.{[]}
use Rattle.sqlite.specs.Held.{state}
use Rattle.rows.specs.Entries.{commit_text}
use Rattle.rows.proofs.Commits.{commits}
use Rattle.rows.proofs.Serving.{executes_aborts}
use Rattle.rows.proofs.texts.commit.Goals as goal

pub returns-clause-committed : goal.returns-clause-committed
returns-clause-committed g c clean has =
    commits (state g.S.Store c.args.conn.now) (state g.S.Store c.execute_commit.new.conn) c.execute_commit.result has
    (c.execute_commit.ensures.runs clean)

pub returns-clause-aborts : goal.returns-clause-aborts
returns-clause-aborts g c clean =
    executes_aborts commit_text [] (state g.S.Store c.args.conn.now) (state g.S.Store c.execute_commit.new.conn) c.execute_commit.result
    (c.execute_commit.ensures.runs clean)
