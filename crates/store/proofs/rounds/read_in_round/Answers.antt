-- A read changes nothing, and inside of a transaction the round stands if that goes on.
use Rattle.std.proofs.Common.{◌≡◌, true, false, Some, None, inl, rules, ◌∙◌}
use Rattle.sqlite.specs.Held.{state}
use Rattle.store.specs.Answered.{outcome, Reads}
use Rattle.store.specs.Maps.{ReadsMap}
use Rattle.store.proofs.MapLemmas.{reads_map}
use Rattle.store.proofs.RoundLemmas.{was_outside, was_inside, called}
use Rattle.store.proofs.rounds.read_in_round.Goals as goal

pub returns-then-not-begun : goal.returns-then-not-begun
returns-then-not-begun g c clean =
    let old = state g.S.Store c.args.conn.now in
    let new = state g.S.Store c.read.new.conn in
    let headers = c.args.headers.now in
    let key = c.args.key.now in
    let response = c.read.new.response in
    let outside : old.in_transaction ≡ false = search rules in
    let it = c.read.ensures clean in (
      it.0,
      λ begun m way.
          let (was, same) = was_outside begun m old way outside in
          let on = it.1 None was.0 in
          let read = reads_map old new m was.1 headers key response c.args.is_bare on.1 in
          (read.0, inl ((on.0, read.2), read.1.0 ∙ same), λ _. read.1),
    )

pub returns : goal.returns
returns g c clean =
    let old = state g.S.Store c.args.conn.now in
    let new = state g.S.Store c.read.new.conn in
    let headers = c.args.headers.now in
    let key = c.args.key.now in
    let response = c.read.new.response in
    let inside : old.in_transaction ≡ true = search rules in
    let it = c.read.ensures clean in (
      it.0,
      λ begun m way.
          let (base, s, is, sees) = was_inside begun m old way inside in
          called begun base new (Reads (outcome old response new) c.args.is_bare headers key)
          (λ after. ReadsMap (outcome m response after) c.args.is_bare headers key)
          c.is_in_transaction.result is
          (it.1 (Some base) s) (reads_map old new m sees headers key response c.args.is_bare) c.is_in_transaction.ensures.value,
    )
