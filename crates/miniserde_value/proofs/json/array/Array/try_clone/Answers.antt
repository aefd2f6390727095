-- The builder opened an array and took its other tokens in order, so it has the tree of the array (`array_copied`).
-- Its value is there, is an array, and has that content.
use Rattle.std.proofs.Common.{[], sym, ap, ◌∙◌, Some, None, is_some, true≢false}
use Rattle.std.proofs.lemmas.Option.{same_Some}
use Rattle.miniserde_value.specs.Hole.{in_list}
use Rattle.miniserde_value.specs.OnlyContainers.{only_list}
use Rattle.miniserde_value.proofs.Copies.{array_copied}
use Rattle.miniserde_value.proofs.json.array.Array.try_clone.Goals as goal

pub unreachable-requires : goal.unreachable-requires
unreachable-requires c =
    let ordered = c.in_ok-array.ensures.ordered c.in_ok-add_all.ensures.ordered in
    let copied = array_copied (Some c.in-Some.value) c.args.self.now c.in-Some.ensures c.in_ok-add_all.ensures.built
    (c.in_ok-open_array.ensures ∙ ap (λ h. in_list [] h) c.new-builder.ensures) c.in_ok-array.ensures.left ordered in
    true≢false (sym (ap is_some (c.in-None-into_array.ensures ∙ ap only_list copied)))

pub unreachable-requires-in-None : goal.unreachable-requires-in-None
unreachable-requires-in-None c =
    let ordered = c.in_ok-array.ensures.ordered c.in_ok-add_all.ensures.ordered in
    let copied = array_copied None c.args.self.now c.in-None.ensures c.in_ok-add_all.ensures.built
    (c.in_ok-open_array.ensures ∙ ap (λ h. in_list [] h) c.new-builder.ensures) c.in_ok-array.ensures.left ordered in
    true≢false (sym (ap is_some copied))

pub returns-clause-ok : goal.returns-clause-ok
returns-clause-ok c =
    let ordered = c.in_ok-array.ensures.ordered c.in_ok-add_all.ensures.ordered in
    let copied = array_copied (Some c.in-Some.value) c.args.self.now c.in-Some.ensures c.in_ok-add_all.ensures.built
    (c.in_ok-open_array.ensures ∙ ap (λ h. in_list [] h) c.new-builder.ensures) c.in_ok-array.ensures.left ordered in
    same_Some _ _ (c.in-Some-into_array.ensures ∙ ap only_list copied)
