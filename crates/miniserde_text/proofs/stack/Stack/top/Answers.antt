-- The bit of the last level is the kind of the innermost container (`stack_top`). A bit that is not 1 is 0
-- (`bit_clear`).
use Rattle.std.proofs.Common.{◌≡◌, ◌+◌, ◌/◌, ◌^◌, Some, bit_and, rules, ap, sym, ◌∙◌}
use Rattle.miniserde_text.specs.private.Stack.{kind_by, innermost}
use Rattle.miniserde_text.proofs.Stacks.{stack_top, bit_clear}
use Rattle.miniserde_text.proofs.stack.Stack.top.Goals as goal

pub returns-then-word-level-eq1 : goal.returns-then-word-level-eq1
returns-then-word-level-eq1 c =
    let last : c.in_ok-level.level + 1 ≡ c.self.inside.levels = search rules in
    let top = stack_top c.self.inside.bits.items c.self.inside.levels c.in_ok-level.level c.index-word.result.now last
    c.self.inside.fits c.index-word.ensures in
    sym (ap (λ b. Some (kind_by b)) c.if-word-level-eq1.true) ∙ top ∙ ap innermost c.self.view_is

pub returns-else-word-level-eq1 : goal.returns-else-word-level-eq1
returns-else-word-level-eq1 c =
    let last : c.in_ok-level.level + 1 ≡ c.self.inside.levels = search rules in
    let top = stack_top c.self.inside.bits.items c.self.inside.levels c.in_ok-level.level c.index-word.result.now last
    c.self.inside.fits c.index-word.ensures in
    sym (ap (λ b. Some (kind_by b))
    (bit_clear (c.index-word.result.now / 2 ^ bit_and c.in_ok-level.level 63) c.if-word-level-eq1.false))
    ∙ top ∙ ap innermost c.self.view_is
