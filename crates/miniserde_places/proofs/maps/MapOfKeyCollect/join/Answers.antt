-- The entry that is put into the table is that of the child, under its key (`put-joined`).
use Rattle.std.proofs.Common.{rules, ◌≡◌, refl, [], Some}
use Rattle.std.specs.Prelude.{option_and_then}
use Rattle.std.proofs.lemmas.Result.{IfOk-weaker}
use Rattle.miniserde_read.specs.types.Maps.{map_content, with_entry}
use Rattle.miniserde_read.proofs.Inserts.{put-joined}
use Rattle.miniserde_places.proofs.maps.MapOfKeyCollect.join.Goals as goal

pub returns-in_ok-take-in-Some-clause-joined : goal.returns-in_ok-take-in-Some-clause-joined
returns-in_ok-take-in-Some-clause-joined g c =
    let code = g.M.Key.MapKey.code in
    let content = g.M.Key.MapKey.content in
    let value = g.P.Visitor.meaning.content in
    let es = g.M.Table.entries c.args.self.now.table in
    let fs = g.M.Table.entries c.put.new.self in
    let key = c.in-Some.key in
    let v = c.in_ok-take-in-Some.field-0 in
    let o = (g.P.Visitor.meaning.view c.in-Some.place).outcome [] in
    let child : c.args.self.now.child ≡ Some (key, c.in-Some.place) = search rules in
    rw child (IfOk-weaker c.put.result
    (λ _. map_content code content (λ v. v) fs ≡ with_entry code (map_content code content (λ v. v) es) (content key) v)
    (λ _. option_and_then (λ x. Some (with_entry code (map_content code content value es) (content key) x)) o
    ≡ Some (map_content code content value fs))
    (λ _ h. put-joined code content value es fs key v (Some key) o refl c.in_ok-take-in-Some.ensures.value.1 h) c.put.ensures.put)
