-- Each turn pushes the index i behind the indices below it (`numbers_more`).
use Rattle.std.proofs.Common.{◌≡◌, ◌++◌, ◌∷◌, [], ◌+◌, sym, ap, ◌∙◌, arith}
use Rattle.std.specs.List.{range_with_len}
use Rattle.miniserde_canonical.proofs.MemberLists.{numbers_more}
use Rattle.miniserde_canonical.proofs.members.fill.Goals as goal

pub loop-i-preserved : goal.loop-i-preserved
loop-i-preserved c =
    let same : 0 + c.loop-i.i ≡ c.loop-i.i = omega arith in
    c.in_ok-push.ensures.items ∙ ap (λ z. z ++ c.loop-i.i ∷ []) c.loop-i.invariant
    ∙ ap (λ z. range_with_len 0 c.loop-i.i ++ z ∷ []) (sym same) ∙ sym (numbers_more 0 c.loop-i.i)
