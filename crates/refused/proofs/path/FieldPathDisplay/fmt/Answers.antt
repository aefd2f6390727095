-- Each turn writes a dot and one more name (`one-name`).
use Rattle.std.proofs.Common.{rules, refl, ◌≡◌, ◌∷◌}
use Rattle.std.proofs.Output.{has_written_append, has_written_of_eq, has_written_styled_append, has_written_styled_of_eq}
use Rattle.refused.proofs.Text.{one-name}
use Rattle.refused.proofs.path.FieldPathDisplay.fmt.Goals as goal

pub loop-name-preserved : goal.loop-name-preserved
loop-name-preserved g c =
    let is : c.args.self.now.names.items ≡ c.in-Some.first.now ∷ c.in-Some.later.now = search rules in
    let more = one-name c.args.self.now.names.items c.in-Some.first.now c.in-Some.later.now is c.loop-name.name-index _
    c.loop-name-test.true in (
      λ plain. let so_far = c.loop-name.invariant.0 plain in
          let dot = c.in_ok-write_str.ensures.writes so_far.plain refl in
          has_written_of_eq _ _ _ _ _ more (has_written_append _ _ _ _ _ _ so_far
          (has_written_append _ _ _ _ _ _ dot (c.in_ok-write_name-2.ensures.writes dot.plain refl))),
      λ flush. let so_far = c.loop-name.invariant.1 flush in
          let dot = c.in_ok-write_str.ensures.styled so_far.flush refl in
          has_written_styled_of_eq _ _ _ _ _ more (has_written_styled_append _ _ _ _ _ _ so_far
          (has_written_styled_append _ _ _ _ _ _ dot (c.in_ok-write_name-2.ensures.styled dot.flush refl))),
    )
