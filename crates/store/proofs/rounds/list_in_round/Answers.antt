-- A list changes nothing, and inside of a transaction the round stands if that goes on.
use Rattle.std.proofs.Common.{◌≡◌, true, false, Some, None, inl, rules, ◌∙◌}
use Rattle.sqlite.specs.Held.{state}
use Rattle.store.specs.Answered.{outcome, AnsweredList}
use Rattle.store.specs.Maps.{AnsweredListMap}
use Rattle.store.proofs.MapLemmas.{answered_list, list_same}
use Rattle.store.proofs.RoundLemmas.{was_outside, was_inside, called}
use Rattle.store.proofs.rounds.list_in_round.Goals as goal

pub returns-then-not-begun-clause-ok : goal.returns-then-not-begun-clause-ok
returns-then-not-begun-clause-ok g c clean =
    let old = state g.S.Store c.args.conn.now in
    let new = state g.S.Store c.answer_list.new.conn in
    let request = c.args.request.now in
    let response = c.answer_list.new.response in
    let outside : old.in_transaction ≡ false = search rules in
    let it = c.in_ok-answer_list.ensures.ok clean in (
      it.0,
      λ begun m way.
          let (was, same) = was_outside begun m old way outside in
          let on = it.1 None was.0 in
          let lists = answered_list old new m was.1 request response on.1 in
          (lists.0, inl ((on.0, lists.2), list_same m lists.0 request response lists.1 ∙ same), λ _. lists.1),
    )

pub returns-clause-ok : goal.returns-clause-ok
returns-clause-ok g c clean =
    let old = state g.S.Store c.args.conn.now in
    let new = state g.S.Store c.answer_list.new.conn in
    let request = c.args.request.now in
    let response = c.answer_list.new.response in
    let inside : old.in_transaction ≡ true = search rules in
    let it = c.in_ok-answer_list.ensures.ok clean in (
      it.0,
      λ begun m way.
          let (base, s, is, sees) = was_inside begun m old way inside in
          called begun base new (AnsweredList request (outcome old response new))
          (λ after. AnsweredListMap request (outcome m response after))
          c.is_in_transaction.result is
          (it.1 (Some base) s) (answered_list old new m sees request response) c.is_in_transaction.ensures.value,
    )
