-- The field has a value by itself, and so has each later one, or the path is a later one's. Or the path is its own, or
-- leads into it.
use Rattle.std.proofs.Common.{rules, inl, inr}
use Rattle.refused.proofs.Objects.{weaker}
use Rattle.refused.proofs.inside.ProbeIntoProbes.probe.Goals as goal

pub returns-then-branch-clause-none : goal.returns-then-branch-clause-none
returns-then-branch-clause-none g c = λ e t j. (c.in_ok-has.ensures.yes (search rules) t j, c.probe.ensures.none e t j)

pub returns-then-branch-clause-some : goal.returns-then-branch-clause-some
returns-then-branch-clause-some g c =
    weaker c.probe.result _ _ (λ path later t j. inr (c.in_ok-has.ensures.yes (search rules) t j, later t j)) c.probe.ensures.some

pub returns-then-not-branch-clause-some : goal.returns-then-not-branch-clause-some
returns-then-not-branch-clause-some g c = λ t j.
    inl (inl ((c.in_ok-path_to.ensures.path, c.in_ok-has.ensures.no (search rules) t j), inl (c.in_ok-has-2.ensures.no (search rules) t j)))
