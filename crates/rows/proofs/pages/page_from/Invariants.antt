-- The query has given the rows of the page so far, and the room is what they leave of the bytes.
use Rattle.std.proofs.Common.{◌≡◌, ◌-◌, ◌<◌, [], map, length, IsTrue}
use Rattle.sqlite.specs.State.{HasCleanDisk}
use Rattle.sqlite.specs.Held.{state}
use Rattle.rows.specs.Entries.{bytes_in, entry_schema, range_text, texts_of}
use Rattle.rows.proofs.PageLemmas.{range_params}
use Rattle.rows.proofs.Readings.{HasRead}
use Rattle.rows.proofs.pages.page_from.Given as goal

abbrev pub invariant-loop-i : goal.invariant-loop-i
invariant-loop-i g l =
    let old = l.fn.conn in
    let now = l.rows.conn.now in
    let entries = map texts_of l.page.items in
    (l.rows.conn.ghost_name ≡ l.initial.rows.conn.ghost_name)
    × (HasCleanDisk (state g.S.Store now) → HasCleanDisk (state g.S.Store old) × IsTrue (state g.S.Store old).is_open
    × (old.schema ≡ entry_schema → HasRead g.S.Store range_text (range_params l.fn.from l.fn.limit) old now entries))
    × (length entries ≡ l.i) × (l.room ≡ l.fn.max_bytes - bytes_in entries) × ((entries ≡ [] → ⊥) → 0 < l.room)
