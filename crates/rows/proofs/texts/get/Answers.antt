-- What the query shows, by what `sqlite` says of a query for one row.
use Rattle.std.proofs.Common.{◌≡◌, inl, inr, [], ◌∷◌, Ok, rules, sym, ap, ◌∙◌}
use Rattle.sqlite.specs.Order.{column}
use Rattle.sqlite.specs.declared.types.Value.TheVariants.{Text}
use Rattle.sqlite.specs.declared.error.Error.TheVariants.{QueryReturnedNoRows}
use Rattle.sqlite.specs.Held.{state}
use Rattle.rows.specs.Entries.{get_text}
use Rattle.rows.proofs.Statements.{get_query}
use Rattle.rows.proofs.Gets.{gets, gets_none}
use Rattle.rows.proofs.Effects.{gets_same, gets_none_same}
use Rattle.rows.proofs.Serving.{aborts_keeps, aborts_serving, got, got_none, got_failed, if_err, on_err, failed_for, query_aborts}
use Rattle.rows.proofs.texts.get.Goals as goal

pub returns-in_ok-get-in-Ok-clause-some : goal.returns-in_ok-get-in-Ok-clause-some
returns-in_ok-get-in-Ok-clause-some g c clean has =
    let old = state g.S.Store c.args.conn.now in
    let new = state g.S.Store c.query_body.new.conn in
    let r = gets get_query old new c.args.key.now (Ok c.in-Ok.row) has (c.in-Ok.ensures.row clean) in
    (r.0, r.1, r.2, sym (ap (λ r. column r 0) r.3) ∙ c.in_ok-get-in-Ok.ensures.ok.1)

pub returns-in_ok-get-in-Ok-clause-same : goal.returns-in_ok-get-in-Ok-clause-same
returns-in_ok-get-in-Ok-clause-same g c clean has =
    let old = state g.S.Store c.args.conn.now in
    let new = state g.S.Store c.query_body.new.conn in
    gets_same get_query old new c.args.key.now c.in-Ok.row has (c.in-Ok.ensures.row clean)

pub returns-in_ok-get-in-Ok-clause-live : goal.returns-in_ok-get-in-Ok-clause-live
returns-in_ok-get-in-Ok-clause-live g c clean s =
    let old = state g.S.Store c.args.conn.now in
    let new = state g.S.Store c.query_body.new.conn in
    (got get_query old new c.args.key.now c.in-Ok.row s (c.in-Ok.ensures.row clean)).0

pub returns-in_ok-get-in-Ok-clause-serving : goal.returns-in_ok-get-in-Ok-clause-serving
returns-in_ok-get-in-Ok-clause-serving g c clean s =
    let old = state g.S.Store c.args.conn.now in
    let new = state g.S.Store c.query_body.new.conn in
    aborts_serving old new s (got get_query old new c.args.key.now c.in-Ok.row s (c.in-Ok.ensures.row clean)).1

pub returns-in_ok-get-in-Ok-clause-kept : goal.returns-in_ok-get-in-Ok-clause-kept
returns-in_ok-get-in-Ok-clause-kept g c clean s =
    let old = state g.S.Store c.args.conn.now in
    let new = state g.S.Store c.query_body.new.conn in
    aborts_keeps old new s (got get_query old new c.args.key.now c.in-Ok.row s (c.in-Ok.ensures.row clean)).1

pub returns-in_err-get-in-Ok-clause-cause : goal.returns-in_err-get-in-Ok-clause-cause
returns-in_err-get-in-Ok-clause-cause g c clean has =
    let old = state g.S.Store c.args.conn.now in
    let new = state g.S.Store c.query_body.new.conn in
    let r = gets get_query old new c.args.key.now (Ok c.in-Ok.row) has (c.in-Ok.ensures.row clean) in
    if_err _ _ (λ e. inl (r.0, r.1, r.2))

pub returns-in_err-get-in-Ok-clause-aborts : goal.returns-in_err-get-in-Ok-clause-aborts
returns-in_err-get-in-Ok-clause-aborts g c clean has =
    let old = state g.S.Store c.args.conn.now in
    let new = state g.S.Store c.query_body.new.conn in
    on_err _ (inl (gets_same get_query old new c.args.key.now c.in-Ok.row has (c.in-Ok.ensures.row clean)))

pub returns-in_err-get-in-Ok-clause-serving : goal.returns-in_err-get-in-Ok-clause-serving
returns-in_err-get-in-Ok-clause-serving g c clean s =
    let old = state g.S.Store c.args.conn.now in
    let new = state g.S.Store c.query_body.new.conn in
    aborts_serving old new s (got get_query old new c.args.key.now c.in-Ok.row s (c.in-Ok.ensures.row clean)).1

pub returns-in_err-get-in-Ok-clause-kept : goal.returns-in_err-get-in-Ok-clause-kept
returns-in_err-get-in-Ok-clause-kept g c clean s =
    let old = state g.S.Store c.args.conn.now in
    let new = state g.S.Store c.query_body.new.conn in
    aborts_keeps old new s (got get_query old new c.args.key.now c.in-Ok.row s (c.in-Ok.ensures.row clean)).1

pub returns-in-Err-QueryReturnedNoRows-clause-none : goal.returns-in-Err-QueryReturnedNoRows-clause-none
returns-in-Err-QueryReturnedNoRows-clause-none g c clean has none =
    let old = state g.S.Store c.args.conn.now in
    let new = state g.S.Store c.query_body.new.conn in
    let missed = rw c.in-Err-QueryReturnedNoRows.field-0-is at (c.in-Err-QueryReturnedNoRows.ensures.row clean) in
    gets_none get_query old new c.args.key.now has missed

pub returns-in-Err-QueryReturnedNoRows-clause-same : goal.returns-in-Err-QueryReturnedNoRows-clause-same
returns-in-Err-QueryReturnedNoRows-clause-same g c clean has =
    let old = state g.S.Store c.args.conn.now in
    let new = state g.S.Store c.query_body.new.conn in
    let missed = rw c.in-Err-QueryReturnedNoRows.field-0-is at (c.in-Err-QueryReturnedNoRows.ensures.row clean) in
    gets_none_same get_query old new c.args.key.now has missed

pub returns-in-Err-QueryReturnedNoRows-clause-live : goal.returns-in-Err-QueryReturnedNoRows-clause-live
returns-in-Err-QueryReturnedNoRows-clause-live g c clean s =
    let old = state g.S.Store c.args.conn.now in
    let new = state g.S.Store c.query_body.new.conn in
    let missed = rw c.in-Err-QueryReturnedNoRows.field-0-is at (c.in-Err-QueryReturnedNoRows.ensures.row clean) in
    (got_none get_query old new c.args.key.now s missed).0

pub returns-in-Err-QueryReturnedNoRows-clause-serving : goal.returns-in-Err-QueryReturnedNoRows-clause-serving
returns-in-Err-QueryReturnedNoRows-clause-serving g c clean s =
    let old = state g.S.Store c.args.conn.now in
    let new = state g.S.Store c.query_body.new.conn in
    let missed = rw c.in-Err-QueryReturnedNoRows.field-0-is at (c.in-Err-QueryReturnedNoRows.ensures.row clean) in
    aborts_serving old new s (got_none get_query old new c.args.key.now s missed).1

pub returns-in-Err-QueryReturnedNoRows-clause-kept : goal.returns-in-Err-QueryReturnedNoRows-clause-kept
returns-in-Err-QueryReturnedNoRows-clause-kept g c clean s =
    let old = state g.S.Store c.args.conn.now in
    let new = state g.S.Store c.query_body.new.conn in
    let missed = rw c.in-Err-QueryReturnedNoRows.field-0-is at (c.in-Err-QueryReturnedNoRows.ensures.row clean) in
    aborts_keeps old new s (got_none get_query old new c.args.key.now s missed).1

pub returns-in-Err-clause-cause : goal.returns-in-Err-clause-cause
returns-in-Err-clause-cause g c clean has =
    let old = state g.S.Store c.args.conn.now in
    let new = state g.S.Store c.query_body.new.conn in
    let other : c.in-Err.error ≡ QueryReturnedNoRows → ⊥ = search rules in
    let failed = failed_for get_text (Text c.args.key.now ∷ []) old new c.in-Err.error other (c.in-Err.ensures.row clean) in
    inr failed

pub returns-in-Err-clause-aborts : goal.returns-in-Err-clause-aborts
returns-in-Err-clause-aborts g c clean has =
    let old = state g.S.Store c.args.conn.now in
    let new = state g.S.Store c.query_body.new.conn in
    let other : c.in-Err.error ≡ QueryReturnedNoRows → ⊥ = search rules in
    let failed = failed_for get_text (Text c.args.key.now ∷ []) old new c.in-Err.error other (c.in-Err.ensures.row clean) in
    query_aborts get_text (Text c.args.key.now ∷ []) old new c.in-Err.error failed

pub returns-in-Err-clause-serving : goal.returns-in-Err-clause-serving
returns-in-Err-clause-serving g c clean s =
    let old = state g.S.Store c.args.conn.now in
    let new = state g.S.Store c.query_body.new.conn in
    aborts_serving old new s (got_failed get_query old new c.args.key.now c.in-Err.error s (c.in-Err.ensures.row clean))

pub returns-in-Err-clause-kept : goal.returns-in-Err-clause-kept
returns-in-Err-clause-kept g c clean s =
    let old = state g.S.Store c.args.conn.now in
    let new = state g.S.Store c.query_body.new.conn in
    aborts_keeps old new s (got_failed get_query old new c.args.key.now c.in-Err.error s (c.in-Err.ensures.row clean))
