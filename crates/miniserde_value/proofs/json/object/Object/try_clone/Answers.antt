-- The builder opened an object and took its other tokens in order, so it has the tree of the object
-- (`object_copied`). Its value is there, is an object, and has that content.
use Rattle.std.proofs.Common.{sym, ap, ◌∙◌, Some, None, is_some, true≢false}
use Rattle.std.proofs.lemmas.Option.{same_Some}
use Rattle.miniserde_model.specs.Tree.{no_members}
use Rattle.miniserde_value.specs.Hole.{in_members}
use Rattle.miniserde_value.specs.OnlyContainers.{only_members}
use Rattle.miniserde_value.proofs.Copies.{object_copied}
use Rattle.miniserde_value.proofs.json.object.Object.try_clone.Goals as goal

pub unreachable-requires : goal.unreachable-requires
unreachable-requires c =
    let ordered = c.in_ok-object.ensures.ordered c.in_ok-add_all.ensures.ordered in
    let copied = object_copied (Some c.in-Some.value) c.args.self.now c.in-Some.ensures c.in_ok-add_all.ensures.built
    (c.in_ok-open_object.ensures ∙ ap (λ h. in_members no_members None h) c.new-builder.ensures) c.in_ok-object.ensures.left ordered in
    true≢false (sym (ap is_some (c.in-None-into_object.ensures ∙ ap only_members copied)))

pub unreachable-requires-in-None : goal.unreachable-requires-in-None
unreachable-requires-in-None c =
    let ordered = c.in_ok-object.ensures.ordered c.in_ok-add_all.ensures.ordered in
    let copied = object_copied None c.args.self.now c.in-None.ensures c.in_ok-add_all.ensures.built
    (c.in_ok-open_object.ensures ∙ ap (λ h. in_members no_members None h) c.new-builder.ensures) c.in_ok-object.ensures.left ordered in
    true≢false (sym (ap is_some copied))

pub returns-clause-ok : goal.returns-clause-ok
returns-clause-ok c =
    let ordered = c.in_ok-object.ensures.ordered c.in_ok-add_all.ensures.ordered in
    let copied = object_copied (Some c.in-Some.value) c.args.self.now c.in-Some.ensures c.in_ok-add_all.ensures.built
    (c.in_ok-open_object.ensures ∙ ap (λ h. in_members no_members None h) c.new-builder.ensures) c.in_ok-object.ensures.left ordered in
    same_Some _ _ (c.in-Some-into_object.ensures ∙ ap only_members copied)
