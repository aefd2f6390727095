-- The row was found, and then shown as the conditions say.
use Rattle.std.proofs.Common.{inl, inr, Some, None, Ok, refl, sym, ap, subst}
use Rattle.sqlite.specs.Held.{state}
use Rattle.rows.specs.Entries.{Holds, Keeps}
use Rattle.store.specs.Answered.{outcome, IsCurrent, Reads}
use Rattle.store.proofs.Steps.{goes_by, found, failed_keeps, read_found}
use Rattle.store.proofs.entries.read.Goals as goal

pub returns-in-Ok-Some : goal.returns-in-Ok-Some
returns-in-Ok-Some g c =
    let old = state g.S.Store c.args.conn.now in
    let new = state g.S.Store c.get.new.conn in
    let key = c.args.key.now in
    let rows = c.in-Ok-Some.ensures in
    read_found old new c.args.is_bare c.args.headers.now key (Some c.as_str.result.now) c.show.new.response
    (found old new (IsCurrent old.now key (Some c.as_str.result.now))
    (record { clean = rows.clean; serving = rows.serving; live = rows.live; kept = rows.kept; same = rows.same })
    (λ clean has. subst (Holds old.now key) (sym c.as_str.ensures.value) (rw c.in-Ok-Some.field-0-is at (rows.some clean has))))
    c.show.ensures

pub returns-in-Ok-None : goal.returns-in-Ok-None
returns-in-Ok-None g c =
    let old = state g.S.Store c.args.conn.now in
    let new = state g.S.Store c.get.new.conn in
    let key = c.args.key.now in
    let rows = c.in-Ok-None.ensures in
    read_found old new c.args.is_bare c.args.headers.now key None _
    (found old new (IsCurrent old.now key None)
    (record { clean = rows.clean; serving = rows.serving; live = rows.live; kept = rows.kept; same = rows.same })
    (λ clean has. rows.none clean has (ap Ok c.in-Ok-None.field-0-is)))
    (inl (record { status = refl; headers = c.requires.headers; body = c.requires.body }))

pub returns-in-Err : goal.returns-in-Err
returns-in-Err g c =
    let old = state g.S.Store c.args.conn.now in
    let new = state g.S.Store c.get.new.conn in
    let rows = c.in-Err.ensures in
    goes_by old new (Keeps old new) (Reads (outcome old _ new) c.args.is_bare c.args.headers.now c.args.key.now)
    (λ kept. (kept, inr (record { status = refl; headers = c.requires.headers; body = c.requires.body })))
    (failed_keeps old new (record { clean = rows.clean; serving = rows.serving; kept = rows.kept; aborts = rows.aborts }))
