-- What the query shows, by what `sqlite` says of a query for one row.
use Rattle.std.proofs.Common.{inl, [], Ok, Err}
use Rattle.sqlite.specs.Held.{state}
use Rattle.rows.specs.Entries.{len_text}
use Rattle.rows.proofs.Statements.{len_plain}
use Rattle.rows.proofs.Counted.{shows_len, row_same, row_fails, row_aborts}
use Rattle.rows.proofs.Serving.{aborts_keeps, aborts_serving, on_err, row_open}
use Rattle.rows.proofs.texts.len.Goals as goal

pub returns-clause-count : goal.returns-clause-count
returns-clause-count g c clean has =
    let old = state g.S.Store c.args.conn.now in
    let new = state g.S.Store c.query_len.new.conn in
    shows_len old new c.in_ok-row.row c.in_ok-count.count has (c.in_ok-row.ensures.row clean) c.in_ok-count.ensures.ok.1

pub returns-clause-same : goal.returns-clause-same
returns-clause-same g c clean has =
    let old = state g.S.Store c.args.conn.now in
    let new = state g.S.Store c.query_len.new.conn in
    row_same len_text [] len_plain old new c.in_ok-row.row has (c.in_ok-row.ensures.row clean)

pub returns-clause-live : goal.returns-clause-live
returns-clause-live g c clean s =
    let old = state g.S.Store c.args.conn.now in
    let new = state g.S.Store c.query_len.new.conn in
    row_open len_text [] old new c.in_ok-row.row (c.in_ok-row.ensures.row clean)

pub returns-clause-serving : goal.returns-clause-serving
returns-clause-serving g c clean s =
    let old = state g.S.Store c.args.conn.now in
    let new = state g.S.Store c.query_len.new.conn in
    aborts_serving old new s (row_aborts len_text [] len_plain old new (Ok c.in_ok-row.row) s (c.in_ok-row.ensures.row clean))

pub returns-clause-kept : goal.returns-clause-kept
returns-clause-kept g c clean s =
    let old = state g.S.Store c.args.conn.now in
    let new = state g.S.Store c.query_len.new.conn in
    aborts_keeps old new s (row_aborts len_text [] len_plain old new (Ok c.in_ok-row.row) s (c.in_ok-row.ensures.row clean))

pub returns-in_err-count-clause-aborts : goal.returns-in_err-count-clause-aborts
returns-in_err-count-clause-aborts g c clean has =
    let old = state g.S.Store c.args.conn.now in
    let new = state g.S.Store c.query_len.new.conn in
    on_err _ (inl (row_same len_text [] len_plain old new c.in_ok-row.row has (c.in_ok-row.ensures.row clean)))

pub returns-in_err-count-clause-serving : goal.returns-in_err-count-clause-serving
returns-in_err-count-clause-serving g c clean s =
    let old = state g.S.Store c.args.conn.now in
    let new = state g.S.Store c.query_len.new.conn in
    aborts_serving old new s (row_aborts len_text [] len_plain old new (Ok c.in_ok-row.row) s (c.in_ok-row.ensures.row clean))

pub returns-in_err-count-clause-kept : goal.returns-in_err-count-clause-kept
returns-in_err-count-clause-kept g c clean s =
    let old = state g.S.Store c.args.conn.now in
    let new = state g.S.Store c.query_len.new.conn in
    aborts_keeps old new s (row_aborts len_text [] len_plain old new (Ok c.in_ok-row.row) s (c.in_ok-row.ensures.row clean))

pub returns-in_err-row-clause-aborts : goal.returns-in_err-row-clause-aborts
returns-in_err-row-clause-aborts g c clean has =
    let old = state g.S.Store c.args.conn.now in
    let new = state g.S.Store c.query_len.new.conn in
    on_err _ (row_fails len_text [] len_plain old new _ has (c.in_err-row.ensures.row clean))

pub returns-in_err-row-clause-serving : goal.returns-in_err-row-clause-serving
returns-in_err-row-clause-serving g c clean s =
    let old = state g.S.Store c.args.conn.now in
    let new = state g.S.Store c.query_len.new.conn in
    aborts_serving old new s (row_aborts len_text [] len_plain old new (Err _) s (c.in_err-row.ensures.row clean))

pub returns-in_err-row-clause-kept : goal.returns-in_err-row-clause-kept
returns-in_err-row-clause-kept g c clean s =
    let old = state g.S.Store c.args.conn.now in
    let new = state g.S.Store c.query_len.new.conn in
    aborts_keeps old new s (row_aborts len_text [] len_plain old new (Err _) s (c.in_err-row.ensures.row clean))
