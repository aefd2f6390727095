-- Every tree means something that is ignored. An object that gives each field by itself gives a struct, and what a wrong
-- field's path leads to keeps each tree that has it from one (`by_fields`).
use Rattle.std.proofs.Common.{rules, inl, inr, refl, subst}
use Rattle.refused.specs.Agree.{AgreeAt}
use Rattle.refused.proofs.Objects.{leads-on-some, reads-some, weaker}
use Rattle.refused.specs.laws.Alone.{none-some}
use Rattle.refused.proofs.find.wrong_field.Goals as goal

pub returns-then-not-branch-clause-none : goal.returns-then-not-branch-clause-none
returns-then-not-branch-clause-none g c = λ _. inr (λ t j. none-some _ (c.in_ok-is_meant-2.ensures.no (search rules) t j) refl)

pub returns-then-not-branch-2-clause-some : goal.returns-then-not-branch-2-clause-some
returns-then-not-branch-2-clause-some g c =
    let y = c.in_ok-is_meant-2.ensures.meant (search rules) in (
      y.0,
      y.1,
      c.in_ok-is_meant.ensures.not_meant (search rules) y.0 y.1,
      inl (c.new.ensures, c.in_ok-is_meant-3.ensures.no (search rules) y.0 y.1),
    )

pub returns-then-not-branch-2-clause-alone : goal.returns-then-not-branch-2-clause-alone
returns-then-not-branch-2-clause-alone g c = λ t j. (
  λ _. c.in_ok-is_meant-3.ensures.no (search rules) t j,
  λ u a. subst (λ u. (v : g.row.S.Denot) → g.S.FromJson.means.reads u v → ⊥) (subst (λ p. AgreeAt p t u) c.new.ensures a)
      (c.in_ok-is_meant.ensures.not_meant (search rules) t j),
)

pub returns-clause-alone : goal.returns-clause-alone
returns-clause-alone g c = weaker c.probe.result _ _ (λ path wrong t j.
    let w = c.by_fields.ensures.wrong _ t (wrong t j) in
    (λ e. absurd (leads-on-some _ w.0 e), λ u a v r. w.1 u a (reads-some g.S.FromJson.means u v r))) c.probe.ensures.some

pub returns-clause-none : goal.returns-clause-none
returns-clause-none g c = λ e. inr (λ t j. none-some _ (c.in_ok-is_meant.ensures.no (search rules) t j)
    (c.by_fields.ensures.right t (c.in_ok-is_meant-3.ensures.yes (search rules) t j) (c.probe.ensures.none e t j)))
