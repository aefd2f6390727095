-- The visitor took the rows that the query has given so far.
use Rattle.std.proofs.Common.{◌≡◌, IsTrue}
use Rattle.sqlite.specs.State.{HasCleanDisk}
use Rattle.sqlite.specs.Held.{state}
use Rattle.rows.specs.Entries.{entry_schema}
use Rattle.rows.proofs.Walks.{Walks}
use Rattle.rows.proofs.visits.visit_rows.Given as goal

abbrev pub invariant-rows : goal.invariant-rows
invariant-rows g l =
    let old = l.fn.conn in
    let now = l.rows.conn.now in
    (l.rows.conn.ghost_name ≡ l.initial.rows.conn.ghost_name)
    × (HasCleanDisk (state g.S.Store now) → HasCleanDisk (state g.S.Store old) × IsTrue (state g.S.Store old).is_open
    × (old.schema ≡ entry_schema → Walks g.S.Store g.V.Visit.takes old now l.fn.visitor l.visitor))
