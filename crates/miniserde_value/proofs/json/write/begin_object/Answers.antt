-- The map of an object has its names in order.
use Rattle.miniserde_value.specs.Values.{object_content}
use Rattle.miniserde_value.specs.Tokens.{IsOrdered}
use Rattle.miniserde_value.specs.Walks.{NestedNamesRise}
use Rattle.miniserde_value.proofs.Walks.{Opened, ordered_opened}
use Rattle.miniserde_value.proofs.Written.{on_ok_of}
use Rattle.miniserde_value.proofs.json.write.begin_object.Goals as goal

pub returns-in-Ok-clause-ordered : goal.returns-in-Ok-clause-ordered
returns-in-Ok-clause-ordered c =
    let opened : Opened c.args.object.now c.inner.result.now c.iter.result = record {
      map = c.inner.ensures;
      entries = c.iter.ensures.rest;
      sorted = c.iter.ensures.ordered;
    } in
    let ordered : NestedNamesRise c.push_object.new.self
    → IsOrdered (object_content c.args.object.now) × NestedNamesRise c.args.frames.now =
    λ o. let r = c.in-Ok.ensures.ordered o in (ordered_opened c.args.object.now _ _ opened r.0, r.1) in
    on_ok_of _ ordered
