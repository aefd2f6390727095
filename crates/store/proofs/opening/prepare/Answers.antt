-- The table was made, or was there.
use Rattle.std.proofs.Common.{is_some, sym, ap, true≢false}
use Rattle.sqlite.specs.Held.{state}
use Rattle.store.proofs.MapLemmas.{kept_sees}
use Rattle.store.proofs.Steps.{unchanged_serving}
use Rattle.store.proofs.opening.prepare.Goals as goal

pub returns-clause-fresh : goal.returns-clause-fresh
returns-clause-fresh g c clean has outside =
    let made = c.in_ok-create.ensures.fresh clean has in
    let committed = c.in_ok-create.ensures.committed clean has outside in (
      (committed.0, λ live. (committed.1, made.0)),
      λ live key text. (λ h. absurd (made.1 key text h), λ is. absurd (true≢false (sym (ap is_some is)))),
    )

pub returns-clause-again : goal.returns-clause-again
returns-clause-again g c clean live m represents =
    let serving = represents.0 in
    let same = c.in_ok-create.ensures.again clean (serving.1 live).1.schema in (
      unchanged_serving _ _ serving same,
      kept_sees (state g.S.Store c.args.conn.now) (state g.S.Store c.create.new.conn) m represents.1 (λ _. (live, same.0.now_is)),
    )
