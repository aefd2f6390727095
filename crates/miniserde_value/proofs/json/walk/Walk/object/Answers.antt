-- The walk has the entries of the map, which are in the order of their names (`ordered_opened`).
use Rattle.miniserde_value.proofs.Walks.{Opened, ordered_opened}
use Rattle.miniserde_value.proofs.json.walk.Walk.object.Goals as goal

pub returns-clause-ordered : goal.returns-clause-ordered
returns-clause-ordered c =
    let opened : Opened c.args.object.now c.inner.result.now c.iter.result = record {
      map = c.inner.ensures;
      entries = c.iter.ensures.rest;
      sorted = c.iter.ensures.ordered;
    } in
    λ o. ordered_opened c.args.object.now _ _ opened (c.in_ok-push_object.ensures.ordered o.1).0
