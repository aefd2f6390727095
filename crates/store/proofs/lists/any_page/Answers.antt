-- The database could be read, so what is shown is right for any page.
use Rattle.std.proofs.Common.{inr, refl}
use Rattle.sqlite.specs.Held.{state}
use Rattle.rows.specs.Entries.{Keeps}
use Rattle.store.specs.Answered.{outcome, ShowsAny}
use Rattle.store.proofs.Steps.{goes_by, found_in_store, failed_keeps, any_found}
use Rattle.store.proofs.lists.any_page.Goals as goal

pub returns-in-Ok : goal.returns-in-Ok
returns-in-Ok g c =
    let old = state g.S.Store c.args.conn.now in
    let new = state g.S.Store c.page_from.new.conn in
    let rows = c.in-Ok.ensures in
    any_found old new c.args.condition c.show_bare.new.response
    (found_in_store old new (Unit {0})
    (record { clean = rows.clean; serving = rows.serving; live = rows.live; kept = rows.kept; same = rows.same }) (λ clean store. tt))
    c.show_bare.ensures

pub returns-in-Err : goal.returns-in-Err
returns-in-Err g c =
    let old = state g.S.Store c.args.conn.now in
    let new = state g.S.Store c.page_from.new.conn in
    let rows = c.in-Err.ensures in
    goes_by old new (Keeps old new) (ShowsAny (outcome old _ new) c.args.condition)
    (λ kept. (kept, inr (record { status = refl; headers = c.requires.headers; body = c.requires.body })))
    (failed_keeps old new (record { clean = rows.clean; serving = rows.serving; kept = rows.kept; aborts = rows.aborts }))
