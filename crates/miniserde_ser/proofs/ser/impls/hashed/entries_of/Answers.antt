-- A turn appends one name, one tree and one valid key (`map_more`, `all_more`). After the loop the iterator has
-- yielded all entries of the map, so `members_by` gives the members, and `distinct_names` says that the names are
-- distinct.
use Rattle.std.proofs.Common.{◌≡◌, ◌∷◌, [], rules, refl, sym, ap₂, ◌∙◌, map, string_bytes}
use Rattle.std.specs.Map.Iter.{deref_pair}
use Rattle.std.proofs.lemmas.List.{map-append}
use Rattle.std.proofs.lemmas.Map.Iter.{iter_end}
use Rattle.miniserde_ser.proofs.Names.{all_more, distinct_names, map_more, named_trees, members_by}
use Rattle.miniserde_ser.proofs.ser.impls.hashed.entries_of.Goals as goal

pub loop-key-preserved : goal.loop-key-preserved
loop-key-preserved g c =
    let done = map deref_pair c.loop-key.yielded in
    let inv = c.loop-key.invariant in
    let items = c.in_ok-push.ensures.items in
    rw (map-append deref_pair c.loop-key.yielded ((c.in-Some.key, c.in-Some.value) ∷ [])) (record {
      names = map_more (λ r. string_bytes r.0) (λ e. g.K.MapKey.text e.0) _ done items inv.names c.in_ok-name.ensures.text;
      trees = map_more (λ r. g.V.Serialize.tree r.1.now) (λ e. g.V.Serialize.tree e.1) _ done items inv.trees refl;
      valid = all_more (λ e. g.K.Ranged.valid e.0) done _ inv.valid c.name_of.ensures.valid;
    })

pub returns-clause-ok : goal.returns-clause-ok
returns-clause-ok g c =
    let e : map deref_pair c.loop-key.yielded ≡ c.args.table.now.entries = search (rules, iter_end) in
    let inv = c.loop-key.invariant in
    members_by string_bytes (λ v. g.V.Serialize.tree v.now) _ ∙ ap₂ named_trees (rw e at inv.names) (rw e at inv.trees)
    ∙ sym (members_by g.K.MapKey.text g.V.Serialize.tree _)

pub returns-clause-distinct : goal.returns-clause-distinct
returns-clause-distinct g c =
    let e : map deref_pair c.loop-key.yielded ≡ c.args.table.now.entries = search (rules, iter_end) in
    let inv = c.loop-key.invariant in
    let key = g.met.K.MapKey in
    rw (inv.names, e) (distinct_names g.K.PartialEq.eq g.K.Ranged.valid g.K.MapKey.content g.K.MapKey.code
    g.K.MapKey.read g.K.MapKey.text key.alike key.back c.args.table.now.entries (rw e at inv.valid)
    c.into_iter-key-iterator.ensures.into_iter_gives.4)
