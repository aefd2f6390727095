-- The word that `with_kind` returns adds the kind to the stack (`stack_opened`). A word of zeros that was pushed
-- before leaves the stack unchanged (`stack_grown`).
use Rattle.std.proofs.Common.{◌≡◌, ◌+◌, ◌/◌, ◌<◌, ◌∷◌, length, rules, refl, ap, ◌∙◌}
use Rattle.miniserde_text.specs.private.Stack.{stack_of}
use Rattle.miniserde_text.proofs.Stacks.{stack_opened, stack_grown}
use Rattle.miniserde_text.proofs.stack.Stack.push.Goals as goal
use Rattle.miniserde_text.proofs.stack.Stack.push.Goals.{then-place-len+in_ok-push, else-place-len}

pub returns-after-place-len-clause-ok : goal.returns-after-place-len-clause-ok
returns-after-place-len-clause-ok c =
    let next : c.in_ok-levels.levels ≡ c.self.inside.levels + 1 = search rules in
    let within : c.self.inside.levels / 64 < length c.if-place-len.self-inside.1.0.items = search rules in
    let stays : stack_of c.if-place-len.self-inside.1.0.items c.self.inside.levels
    ≡ stack_of c.self.inside.bits.items c.self.inside.levels = elim c.if-place-len.branch [
      | then-place-len+in_ok-push w ↦ rw (w.self-inside-is)
          (ap (λ z. stack_of z c.self.inside.levels) w.in_ok-push.ensures.items
          ∙ stack_grown c.self.inside.bits.items c.self.inside.levels)
      | else-place-len w ↦ rw (w.self-inside-is) refl
    ] in
    let opened = stack_opened c.if-place-len.self-inside.1.0.items c.self.inside.levels c.index.result.now within
    c.index.ensures c.with_kind.ensures in
    rw (c.in-Some.is, next) (opened ∙ ap (λ st. c.in-Some.kind ∷ st) (stays ∙ c.self.view_is))
