-- The limit and the key are what the query asks for, and the entries from that key on are listed.
use Rattle.std.proofs.Common.{◌≡◌, inl, [], ℕ, List, Option, Some, option_map, string_bytes, ap, subst, ◌∙◌}
use Rattle.std.specs.Prelude.{unwrap_or}
use Rattle.sqlite.specs.Held.{state}
use Rattle.store.specs.Lists.{AsksFor, IsLimit, start_of}
use Rattle.store.specs.Answered.{outcome, ListsFrom, Lists}
use Rattle.store.proofs.Steps.{goes_by}
use Rattle.store.proofs.lists.list.Goals as goal

pub returns-in-Some : goal.returns-in-Some
returns-in-Some g c =
    let old = state g.S.Store c.args.conn.now in
    let new = state g.S.Store c.list_from.new.conn in
    let headers = c.args.headers.now in
    let query = c.args.query.now in
    let limit = c.in-Some.limit in
    let o = outcome old c.list_from.new.response new in
    let given : IsLimit (option_map string_bytes c.in-Ok.limit) limit = rw c.in-Some.is at c.limit_of.ensures in
    let asks : AsksFor query limit = subst (λ (text : Option (List ℕ)). IsLimit text limit) c.in-Ok.ensures given in
    let start : c.start_of.result.now ≡ start_of query =
    c.start_of.ensures ∙ ap (λ (text : Option (List ℕ)). unwrap_or text []) c.in-Ok-parameter.ensures in
    goes_by old new (ListsFrom o c.args.is_bare headers c.start_of.result.now limit) (Lists o c.args.is_bare headers query)
    (λ p. inl (limit, asks, subst (λ s. ListsFrom o c.args.is_bare headers s limit) start p))
    c.list_from.ensures
