-- The body means a value, and its text was put.
use Rattle.std.proofs.Common.{sym, subst}
use Rattle.sqlite.specs.Held.{state}
use Rattle.store.specs.Answered.{codec, outcome, PutsAs, PutsValue, IsTextOf}
use Rattle.store.proofs.Steps.{goes_by, value_by}
use Rattle.store.proofs.entries.put_value.Goals as goal

pub returns-in-Ok : goal.returns-in-Ok
returns-in-Ok g c =
    let old = state g.S.Store c.args.conn.now in
    let new = state g.S.Store c.put_as.new.conn in
    let text = c.as_str.result.now in
    let of = codec g.V.FromJson.means g.V.Serialize.tree in
    let o = outcome old c.put_as.new.response new in
    let is = subst (λ t. IsTextOf of c.args.body.now t) (sym c.as_str.ensures.value) c.in-Ok.ensures.ok in
    goes_by old new (PutsAs o c.args.key.now text c.args.status)
    (PutsValue of o c.args.key.now c.args.body.now c.args.status)
    (value_by of o c.args.key.now c.args.body.now text c.args.status is) c.put_as.ensures
