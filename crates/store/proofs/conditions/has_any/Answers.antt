-- After the loop the iterator has yielded all values of the name.
use Rattle.std.proofs.Common.{◌≡◌, List, map, rules, ap, ◌∙◌}
use Rattle.std.proofs.lemmas.Map.Iter.{iter_end}
use Rattle.http_header.specs.FieldValue.{FieldValue}
use Rattle.http_header.specs.HeaderMap.{get_all}
use Rattle.store.specs.Conditions.{has_any}
use Rattle.store.proofs.conditions.has_any.Goals as goal

pub returns : goal.returns
returns c =
    let values = get_all c.args.headers.now c.args.name in
    let all : map (λ v. v.now) c.loop-value.yielded ≡ values = (iter_end (λ v. v.now) values
    c.loop-value.yielded c.into_iter-value-iterator.result c.loop-value.value-iterator c.next.new.self c.next.result
    (search rules) c.loop-value.yielded_by c.in-None.is c.next.ensures.steps).0 in
    c.loop-value.invariant ∙ ap (λ (vs : List FieldValue). has_any (map (λ v. v.bytes) vs)) all
