-- The rows of the answer are the keys and bodies that the loop pushed. After the query the call does not touch the
-- connection, so each later exit has the same answers: those of the query, which `listed` gives of a store that is served
-- (that the connection was open, and `Aborts`).
use Rattle.std.proofs.Common.{◌≤◌, inl, [], length, map, rules}
use Rattle.sqlite.specs.Held.{state}
use Rattle.rows.specs.Entries.{texts_of, words_of}
use Rattle.rows.proofs.Lists.{read_all}
use Rattle.rows.proofs.Each.{shown, shows_each, each_same}
use Rattle.rows.specs.Entries.{each_text}
use Rattle.rows.proofs.Serving.{aborts_keeps, aborts_serving, listed, query_aborts, on_err}
use Rattle.rows.proofs.texts.all.Goals as goal

pub returns-clause-rows : goal.returns-clause-rows
returns-clause-rows g c clean has =
    let rows = c.in_ok-rows.rows.items in
    let entries = map texts_of c.loop-row.listed.items in
    let seen = c.deref-row-items.result.now in
    let end : length seen ≤ c.loop-row.row-index = search rules in
    let read = read_all shown rows seen c.loop-row.row-index
    (map words_of entries) c.deref-row-items.ensures.value end c.loop-row.invariant in
    shows_each (state g.S.Store c.args.conn.now) (state g.S.Store c.query_each.new.conn) rows entries has
    (c.in_ok-rows.ensures.rows clean) read

pub returns-clause-same : goal.returns-clause-same
returns-clause-same g c clean has =
    each_same (state g.S.Store c.args.conn.now) (state g.S.Store c.query_each.new.conn) c.in_ok-rows.rows.items has
    (c.in_ok-rows.ensures.rows clean)

pub returns-in_err-key-clause-aborts : goal.returns-in_err-key-clause-aborts
returns-in_err-key-clause-aborts g c clean has =
    let old = state g.S.Store c.args.conn.now in
    let new = state g.S.Store c.query_each.new.conn in
    on_err _ (inl (each_same old new c.in_ok-rows.rows.items has (c.in_ok-rows.ensures.rows clean)))

pub returns-in_err-key-clause-serving : goal.returns-in_err-key-clause-serving
returns-in_err-key-clause-serving g c clean s =
    let old = state g.S.Store c.args.conn.now in
    let new = state g.S.Store c.query_each.new.conn in
    aborts_serving old new s (listed old new c.in_ok-rows.rows.items s (c.in_ok-rows.ensures.rows clean)).1

pub returns-in_err-key-clause-kept : goal.returns-in_err-key-clause-kept
returns-in_err-key-clause-kept g c clean s =
    let old = state g.S.Store c.args.conn.now in
    let new = state g.S.Store c.query_each.new.conn in
    aborts_keeps old new s (listed old new c.in_ok-rows.rows.items s (c.in_ok-rows.ensures.rows clean)).1

pub returns-in_err-body-clause-aborts : goal.returns-in_err-body-clause-aborts
returns-in_err-body-clause-aborts g c clean has =
    let old = state g.S.Store c.args.conn.now in
    let new = state g.S.Store c.query_each.new.conn in
    on_err _ (inl (each_same old new c.in_ok-rows.rows.items has (c.in_ok-rows.ensures.rows clean)))

pub returns-in_err-body-clause-serving : goal.returns-in_err-body-clause-serving
returns-in_err-body-clause-serving g c clean s =
    let old = state g.S.Store c.args.conn.now in
    let new = state g.S.Store c.query_each.new.conn in
    aborts_serving old new s (listed old new c.in_ok-rows.rows.items s (c.in_ok-rows.ensures.rows clean)).1

pub returns-in_err-body-clause-kept : goal.returns-in_err-body-clause-kept
returns-in_err-body-clause-kept g c clean s =
    let old = state g.S.Store c.args.conn.now in
    let new = state g.S.Store c.query_each.new.conn in
    aborts_keeps old new s (listed old new c.in_ok-rows.rows.items s (c.in_ok-rows.ensures.rows clean)).1

pub returns-in_err-push-clause-aborts : goal.returns-in_err-push-clause-aborts
returns-in_err-push-clause-aborts g c clean has =
    let old = state g.S.Store c.args.conn.now in
    let new = state g.S.Store c.query_each.new.conn in
    on_err _ (inl (each_same old new c.in_ok-rows.rows.items has (c.in_ok-rows.ensures.rows clean)))

pub returns-in_err-push-clause-serving : goal.returns-in_err-push-clause-serving
returns-in_err-push-clause-serving g c clean s =
    let old = state g.S.Store c.args.conn.now in
    let new = state g.S.Store c.query_each.new.conn in
    aborts_serving old new s (listed old new c.in_ok-rows.rows.items s (c.in_ok-rows.ensures.rows clean)).1

pub returns-in_err-push-clause-kept : goal.returns-in_err-push-clause-kept
returns-in_err-push-clause-kept g c clean s =
    let old = state g.S.Store c.args.conn.now in
    let new = state g.S.Store c.query_each.new.conn in
    aborts_keeps old new s (listed old new c.in_ok-rows.rows.items s (c.in_ok-rows.ensures.rows clean)).1

pub returns-clause-live : goal.returns-clause-live
returns-clause-live g c clean s =
    let old = state g.S.Store c.args.conn.now in
    let new = state g.S.Store c.query_each.new.conn in
    (listed old new c.in_ok-rows.rows.items s (c.in_ok-rows.ensures.rows clean)).0

pub returns-clause-serving : goal.returns-clause-serving
returns-clause-serving g c clean s =
    let old = state g.S.Store c.args.conn.now in
    let new = state g.S.Store c.query_each.new.conn in
    aborts_serving old new s (listed old new c.in_ok-rows.rows.items s (c.in_ok-rows.ensures.rows clean)).1

pub returns-clause-kept : goal.returns-clause-kept
returns-clause-kept g c clean s =
    let old = state g.S.Store c.args.conn.now in
    let new = state g.S.Store c.query_each.new.conn in
    aborts_keeps old new s (listed old new c.in_ok-rows.rows.items s (c.in_ok-rows.ensures.rows clean)).1

pub returns-in_err-rows-clause-aborts : goal.returns-in_err-rows-clause-aborts
returns-in_err-rows-clause-aborts g c clean has =
    let old = state g.S.Store c.args.conn.now in
    let new = state g.S.Store c.query_each.new.conn in
    on_err _ (query_aborts each_text [] old new _ (c.in_err-rows.ensures.failed clean))

pub returns-in_err-rows-clause-serving : goal.returns-in_err-rows-clause-serving
returns-in_err-rows-clause-serving g c clean s =
    let old = state g.S.Store c.args.conn.now in
    let new = state g.S.Store c.query_each.new.conn in
    aborts_serving old new s (query_aborts each_text [] old new _ (c.in_err-rows.ensures.failed clean))

pub returns-in_err-rows-clause-kept : goal.returns-in_err-rows-clause-kept
returns-in_err-rows-clause-kept g c clean s =
    let old = state g.S.Store c.args.conn.now in
    let new = state g.S.Store c.query_each.new.conn in
    aborts_keeps old new s (query_aborts each_text [] old new _ (c.in_err-rows.ensures.failed clean))
