-- An open connection sees a database that obeys its schema.
use Rattle.sqlite.specs.Held.{state}
use Rattle.rows.proofs.Mapped.{is_map}
use Rattle.rows.proofs.texts.is_store.Goals as goal

pub returns-clause-map : goal.returns-clause-map
returns-clause-map g c live store = is_map (state g.S.Store c.args.conn.now).now (c.schema.ensures.live live).0 store
