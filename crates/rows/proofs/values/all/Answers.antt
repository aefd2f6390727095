-- The rows of the table are those that the loop read.
use Rattle.std.proofs.Common.{inl, inr, Err, ap, string_bytes, ◌≤◌, ◌<◌, length, map, take, rules, refl, sym, subst}
use Rattle.std.specs.List.{AllZip}
use Rattle.std.proofs.lemmas.Result.{err_from_is_err_and}
use Rattle.sqlite.specs.Held.{state}
use Rattle.rows.specs.Entries.{texts_of}
use Rattle.rows.specs.Values.{IsReadFrom}
use Rattle.rows.proofs.Each.{item_held}
use Rattle.rows.proofs.Errors.{json_error}
use Rattle.rows.proofs.Lists.{read_all, zip_more}
use Rattle.rows.proofs.values.all.Goals as goal

pub loop-row-preserved : goal.loop-row-preserved
loop-row-preserved g c =
    let seen = c.deref-row-items.result.now in
    let i = c.loop-row.row-index in
    let low : i < length seen = search rules in
    let key = rw c.as_str.ensures.value at c.in_ok-key.ensures.read in
    let value = rw c.as_str-in-loop-row.ensures.value at c.in_ok-value.ensures.read in
    let more = zip_more texts_of
    (λ entry read. IsReadFrom g.K.FromJson.means g.K.Serialize.tree g.K.Ranged.valid entry.0 read.0
    × IsReadFrom g.V.FromJson.means g.V.Serialize.tree g.V.Ranged.valid entry.1 read.1)
    seen i c.row-item.result c.loop-row.listed.items (c.in_ok-key.key, c.in_ok-value.value) low c.row-item.is c.loop-row.invariant
    (key, value) in
    rw c.in_ok-push.ensures.items more

pub returns-clause-rows : goal.returns-clause-rows
returns-clause-rows g c clean has =
    let seen = c.deref-row-items.result.now in
    let i = c.loop-row.row-index in
    let end : length seen ≤ i = search rules in
    let entries = map texts_of c.in_ok-rows.rows.items in
    let read = read_all texts_of c.in_ok-rows.rows.items seen i (map texts_of (take i seen)) c.deref-row-items.ensures.value end refl in (
      entries,
      c.in_ok-rows.ensures.rows clean has,
      subst (λ zs. AllZip (λ entry read. IsReadFrom g.K.FromJson.means g.K.Serialize.tree g.K.Ranged.valid entry.0 read.0
          × IsReadFrom g.V.FromJson.means g.V.Serialize.tree g.V.Ranged.valid entry.1 read.1) zs c.loop-row.listed.items)
          (sym read) c.loop-row.invariant,
    )

pub returns-in_err-key-clause-invalid : goal.returns-in_err-key-clause-invalid
returns-in_err-key-clause-invalid g c clean has wrong =
    let seen = c.deref-row-items.result.now in
    let i = c.loop-row.row-index in
    let low : i < length seen = search rules in
    let rows = c.in_ok-rows.rows.items in
    let item = c.row-item.result in
    let all = c.in_ok-rows.ensures.rows clean has in
    let held = item_held (state g.S.Store c.args.conn.now).now rows seen i item all c.deref-row-items.ensures.value low c.row-item.is in
    let p = err_from_is_err_and c.from_residual-in_err-key.result c.from_residual-in_err-key.ensures.1 in
    let known = json_error _ p.0 _ p.1 p.2 wrong in
    let none = rw c.as_str.ensures.value at (c.in_err-key.ensures.invalid (ap Err known)) in
    (string_bytes item.0, string_bytes item.1, held, inl none)

pub returns-in_err-value-clause-invalid : goal.returns-in_err-value-clause-invalid
returns-in_err-value-clause-invalid g c clean has wrong =
    let seen = c.deref-row-items.result.now in
    let i = c.loop-row.row-index in
    let low : i < length seen = search rules in
    let rows = c.in_ok-rows.rows.items in
    let item = c.row-item.result in
    let all = c.in_ok-rows.ensures.rows clean has in
    let held = item_held (state g.S.Store c.args.conn.now).now rows seen i item all c.deref-row-items.ensures.value low c.row-item.is in
    let p = err_from_is_err_and c.from_residual-in_err-value.result c.from_residual-in_err-value.ensures.1 in
    let known = json_error _ p.0 _ p.1 p.2 wrong in
    let none = rw c.as_str-in-loop-row.ensures.value at (c.in_err-value.ensures.invalid (ap Err known)) in
    (string_bytes item.0, string_bytes item.1, held, inr none)
