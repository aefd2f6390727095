-- The response needs no page if it is bare and the condition is known.
use Rattle.std.proofs.Common.{rules, ◌≡◌, true, sym, subst}
use Rattle.sqlite.specs.Held.{state}
use Rattle.store.specs.Answered.{outcome, ListsFrom, Goes}
use Rattle.store.proofs.Steps.{lists_any}
use Rattle.store.proofs.lists.list_from.Goals as goal

pub returns-in-Some : goal.returns-in-Some
returns-in-Some g c =
    let old = state g.S.Store c.args.conn.now in
    let new = state g.S.Store c.any_page.new.conn in
    let response = c.any_page.new.response in
    let headers = c.args.headers.now in
    let start = c.args.start.now in
    let bare : c.args.is_bare ≡ true = search rules in
    let known = rw c.in-Some.is at c.judge_any.ensures in
    subst (λ b. Goes old new (ListsFrom (outcome old response new) b headers start c.args.limit)) (sym bare)
    (lists_any old new headers start c.args.limit c.in-Some.condition response known c.any_page.ensures)
