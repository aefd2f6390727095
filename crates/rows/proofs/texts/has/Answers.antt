-- What the query shows, by what `sqlite` says of a query for one row.
use Rattle.std.proofs.Common.{◌≡◌, [], ◌∷◌, Ok, rules, refl, sym, true≢false}
use Rattle.sqlite.specs.declared.types.Value.TheVariants.{Text}
use Rattle.sqlite.specs.declared.error.Error.TheVariants.{QueryReturnedNoRows, SqliteFailure}
use Rattle.sqlite.specs.declared.error.ErrorCode.TheVariants.{Closed}
use Rattle.sqlite.specs.Held.{state}
use Rattle.rows.specs.Entries.{has_text}
use Rattle.rows.proofs.Statements.{has_query}
use Rattle.rows.proofs.Gets.{gets, gets_none, was_shut}
use Rattle.rows.proofs.Effects.{gets_same, gets_none_same}
use Rattle.rows.proofs.Serving.{aborts_keeps, aborts_serving, got, got_none, got_failed, failed_for, query_aborts}
use Rattle.rows.proofs.texts.has.Goals as goal

pub returns-in-Ok-clause-found : goal.returns-in-Ok-clause-found
returns-in-Ok-clause-found g c clean has =
    let old = state g.S.Store c.args.conn.now in
    let new = state g.S.Store c.query_key.new.conn in
    let r = gets has_query old new c.args.key.now (Ok c.in-Ok.row) has (c.in-Ok.ensures.row clean) in
    (λ t. (r.0, r.1, r.2), λ there. refl)

pub returns-in-Ok-clause-same : goal.returns-in-Ok-clause-same
returns-in-Ok-clause-same g c clean has =
    let old = state g.S.Store c.args.conn.now in
    let new = state g.S.Store c.query_key.new.conn in
    gets_same has_query old new c.args.key.now c.in-Ok.row has (c.in-Ok.ensures.row clean)

pub returns-in-Ok-clause-live : goal.returns-in-Ok-clause-live
returns-in-Ok-clause-live g c clean s =
    let old = state g.S.Store c.args.conn.now in
    let new = state g.S.Store c.query_key.new.conn in
    (got has_query old new c.args.key.now c.in-Ok.row s (c.in-Ok.ensures.row clean)).0

pub returns-in-Ok-clause-serving : goal.returns-in-Ok-clause-serving
returns-in-Ok-clause-serving g c clean s =
    let old = state g.S.Store c.args.conn.now in
    let new = state g.S.Store c.query_key.new.conn in
    aborts_serving old new s (got has_query old new c.args.key.now c.in-Ok.row s (c.in-Ok.ensures.row clean)).1

pub returns-in-Ok-clause-kept : goal.returns-in-Ok-clause-kept
returns-in-Ok-clause-kept g c clean s =
    let old = state g.S.Store c.args.conn.now in
    let new = state g.S.Store c.query_key.new.conn in
    aborts_keeps old new s (got has_query old new c.args.key.now c.in-Ok.row s (c.in-Ok.ensures.row clean)).1

pub returns-in-Err-QueryReturnedNoRows-clause-found : goal.returns-in-Err-QueryReturnedNoRows-clause-found
returns-in-Err-QueryReturnedNoRows-clause-found g c clean has =
    let old = state g.S.Store c.args.conn.now in
    let new = state g.S.Store c.query_key.new.conn in
    let missed = rw c.in-Err-QueryReturnedNoRows.field-0-is at (c.in-Err-QueryReturnedNoRows.ensures.row clean) in
    (λ t. absurd (true≢false (sym t)), λ there. absurd (gets_none has_query old new c.args.key.now has missed there))

pub returns-in-Err-QueryReturnedNoRows-clause-same : goal.returns-in-Err-QueryReturnedNoRows-clause-same
returns-in-Err-QueryReturnedNoRows-clause-same g c clean has =
    let old = state g.S.Store c.args.conn.now in
    let new = state g.S.Store c.query_key.new.conn in
    let missed = rw c.in-Err-QueryReturnedNoRows.field-0-is at (c.in-Err-QueryReturnedNoRows.ensures.row clean) in
    gets_none_same has_query old new c.args.key.now has missed

pub returns-in-Err-QueryReturnedNoRows-clause-live : goal.returns-in-Err-QueryReturnedNoRows-clause-live
returns-in-Err-QueryReturnedNoRows-clause-live g c clean s =
    let old = state g.S.Store c.args.conn.now in
    let new = state g.S.Store c.query_key.new.conn in
    let missed = rw c.in-Err-QueryReturnedNoRows.field-0-is at (c.in-Err-QueryReturnedNoRows.ensures.row clean) in
    (got_none has_query old new c.args.key.now s missed).0

pub returns-in-Err-QueryReturnedNoRows-clause-serving : goal.returns-in-Err-QueryReturnedNoRows-clause-serving
returns-in-Err-QueryReturnedNoRows-clause-serving g c clean s =
    let old = state g.S.Store c.args.conn.now in
    let new = state g.S.Store c.query_key.new.conn in
    let missed = rw c.in-Err-QueryReturnedNoRows.field-0-is at (c.in-Err-QueryReturnedNoRows.ensures.row clean) in
    aborts_serving old new s (got_none has_query old new c.args.key.now s missed).1

pub returns-in-Err-QueryReturnedNoRows-clause-kept : goal.returns-in-Err-QueryReturnedNoRows-clause-kept
returns-in-Err-QueryReturnedNoRows-clause-kept g c clean s =
    let old = state g.S.Store c.args.conn.now in
    let new = state g.S.Store c.query_key.new.conn in
    let missed = rw c.in-Err-QueryReturnedNoRows.field-0-is at (c.in-Err-QueryReturnedNoRows.ensures.row clean) in
    aborts_keeps old new s (got_none has_query old new c.args.key.now s missed).1

pub returns-in-Err-clause-shut : goal.returns-in-Err-clause-shut
returns-in-Err-clause-shut g c clean has is =
    let old = state g.S.Store c.args.conn.now in
    let new = state g.S.Store c.query_key.new.conn in
    let other : c.in-Err.error ≡ QueryReturnedNoRows → ⊥ = search rules in
    let shut : c.in-Err.error ≡ SqliteFailure Closed = cc in
    was_shut has_query old new c.args.key.now c.in-Err.error has shut
    (failed_for has_text (Text c.args.key.now ∷ []) old new c.in-Err.error other (c.in-Err.ensures.row clean))

pub returns-in-Err-clause-aborts : goal.returns-in-Err-clause-aborts
returns-in-Err-clause-aborts g c clean =
    let old = state g.S.Store c.args.conn.now in
    let new = state g.S.Store c.query_key.new.conn in
    let other : c.in-Err.error ≡ QueryReturnedNoRows → ⊥ = search rules in
    query_aborts has_text (Text c.args.key.now ∷ []) old new c.in-Err.error
    (failed_for has_text (Text c.args.key.now ∷ []) old new c.in-Err.error other (c.in-Err.ensures.row clean))

pub returns-in-Err-clause-serving : goal.returns-in-Err-clause-serving
returns-in-Err-clause-serving g c clean s =
    let old = state g.S.Store c.args.conn.now in
    let new = state g.S.Store c.query_key.new.conn in
    aborts_serving old new s (got_failed has_query old new c.args.key.now c.in-Err.error s (c.in-Err.ensures.row clean))

pub returns-in-Err-clause-kept : goal.returns-in-Err-clause-kept
returns-in-Err-clause-kept g c clean s =
    let old = state g.S.Store c.args.conn.now in
    let new = state g.S.Store c.query_key.new.conn in
    aborts_keeps old new s (got_failed has_query old new c.args.key.now c.in-Err.error s (c.in-Err.ensures.row clean))
