-- The members of the sorted entries are the map's members in byte order of their names (`in_order_of`): the entries
-- have distinct names and are sorted, so `in_order_sorted` applies. By this equation the answers are clauses of
-- `write_entries`; the members in order rise (`rise_in_order`).
use Rattle.std.proofs.Common.{◌≡◌, ◌∙◌, rules, ap, string_bytes, IsSortedByKey}
use Rattle.miniserde_model.specs.Normal.{text_cmp}
use Rattle.miniserde_ser.specs.Trees.{members_of, in_order}
use Rattle.std.proofs.lemmas.Result.{on_ok_weaker}
use Rattle.miniserde_ser.proofs.Ordered.{in_order_sorted, rise_in_order}
use Rattle.miniserde_ser.proofs.ser.impls.hashed.HashMapSerialize.begin.Given as given
use Rattle.miniserde_ser.proofs.ser.impls.hashed.HashMapSerialize.begin.Goals as goal

abbrev Sorted : (g : given.Over) → goal.After-drop-entries-2 g → Type 0
Sorted g c = members_of string_bytes (λ v. g.V.Serialize.tree v.now) c.as_slice.result.now
    ≡ in_order (members_of g.K.MapKey.text g.V.Serialize.tree c.args.self.now.entries)

in_order_of : (g : given.Over) (c : goal.After-drop-entries-2 g) → Sorted g c
in_order_of g c =
    let entries = c.in-Ok.entries.items in
    let sorted : IsSortedByKey (λ r. string_bytes r.0) text_cmp c.sort_entries.new.entries.items = search rules in
    rw c.as_slice.ensures.value
    (in_order_sorted string_bytes (λ v. g.V.Serialize.tree v.now) entries _ c.in-Ok.ensures.distinct sorted
    c.sort_entries.ensures.permutation ∙ ap in_order c.in-Ok.ensures.ok)

pub returns-clause-ok : goal.returns-clause-ok
returns-clause-ok g c = rw (in_order_of g c) at c.write_entries.ensures.ok

pub returns-clause-in_range : goal.returns-clause-in_range
returns-clause-in_range g c = rw (in_order_of g c) at c.write_entries.ensures.in_range

pub returns-clause-normal : goal.returns-clause-normal
returns-clause-normal g c =
    on_ok_weaker c.write_entries.result (λ h. h (rise_in_order (members_of g.K.MapKey.text g.V.Serialize.tree c.args.self.now.entries)))
    (rw (in_order_of g c) at c.write_entries.ensures.normal)
