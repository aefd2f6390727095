-- The page was found, and then shown as the conditions say.
use Rattle.std.proofs.Common.{inr, map, refl, sym, subst}
use Rattle.sqlite.specs.Held.{state}
use Rattle.rows.specs.Entries.{IsPage, Keeps, texts_of}
use Rattle.store.specs.Lists.{max_page_bytes}
use Rattle.store.specs.Answered.{outcome, ListsFrom}
use Rattle.store.proofs.Steps.{goes_by, found_in_store, failed_keeps, page_found}
use Rattle.store.proofs.lists.page.Goals as goal

pub returns-in-Ok : goal.returns-in-Ok
returns-in-Ok g c =
    let old = state g.S.Store c.args.conn.now in
    let new = state g.S.Store c.page_from.new.conn in
    let start = c.args.start.now in
    let entries = map texts_of c.as_slice.result.now in
    let rows = c.in-Ok.ensures in
    page_found old new c.args.is_bare c.args.headers.now start c.args.limit entries c.show_entries.new.response
    (found_in_store old new (IsPage old.now start c.args.limit max_page_bytes entries)
    (record { clean = rows.clean; serving = rows.serving; live = rows.live; kept = rows.kept; same = rows.same })
    (λ clean store.
    subst (λ xs. IsPage old.now start c.args.limit max_page_bytes (map texts_of xs)) (sym c.as_slice.ensures.value)
    (rows.page clean store)))
    c.show_entries.ensures

pub returns-in-Err : goal.returns-in-Err
returns-in-Err g c =
    let old = state g.S.Store c.args.conn.now in
    let new = state g.S.Store c.page_from.new.conn in
    let rows = c.in-Err.ensures in
    goes_by old new (Keeps old new) (ListsFrom (outcome old _ new) c.args.is_bare c.args.headers.now c.args.start.now c.args.limit)
    (λ kept. (kept, inr (record { status = refl; headers = c.requires.headers; body = c.requires.body })))
    (failed_keeps old new (record { clean = rows.clean; serving = rows.serving; kept = rows.kept; aborts = rows.aborts }))
