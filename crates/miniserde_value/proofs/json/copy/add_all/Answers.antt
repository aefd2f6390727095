-- `add_all` builds all tokens that a walk has left, and their names are in order. The loop invariant is that the hole
-- after all tokens still left is the hole after all tokens; each turn takes one visit.
use Rattle.std.proofs.Common.{◌≡◌, [], ◌∷◌, refl, sym, ap, ◌∙◌, arith, rules}
use Rattle.miniserde_value.specs.Builders.{hole_in}
use Rattle.miniserde_value.specs.Tokens.{hole_after}
use Rattle.miniserde_value.specs.Walks.{token_of, left}
use Rattle.miniserde_value.proofs.Copies.{built_first}
use Rattle.miniserde_value.proofs.json.copy.add_all.Goals as goal

pub loop-walk-init : goal.loop-walk-init
loop-walk-init c = record { same = refl; ordered = λ h. h }

pub loop-walk-smaller : goal.loop-walk-smaller
loop-walk-smaller c =
    let e : left c.loop-walk.walk ≡ token_of c.in-Some.visit ∷ left c.next.new.self = rw c.in-Some.is at (c.in_ok-visit.ensures).left in
    rw e (omega arith)

pub loop-walk-preserved : goal.loop-walk-preserved
loop-walk-preserved c =
    let e : left c.loop-walk.walk ≡ token_of c.in-Some.visit ∷ left c.next.new.self = rw c.in-Some.is at (c.in_ok-visit.ensures).left in
    record {
      same = ap (λ h. hole_after h (left c.next.new.self)) (c.in_ok-add.ensures).built
          ∙ sym (built_first (hole_in c.loop-walk.builder) (token_of c.in-Some.visit) (left c.next.new.self))
          ∙ ap (hole_after (hole_in c.loop-walk.builder)) (sym e)
          ∙ c.loop-walk.invariant.same;
      ordered = λ h. c.loop-walk.invariant.ordered ((rw c.in-Some.is at (c.in_ok-visit.ensures).ordered) h);
    }

pub returns-clause-built : goal.returns-clause-built
returns-clause-built c =
    let e : left c.loop-walk.walk ≡ [] = search rules in
    ap (hole_after (hole_in c.loop-walk.builder)) (sym e) ∙ c.loop-walk.invariant.same

pub returns-clause-ordered : goal.returns-clause-ordered
returns-clause-ordered c = c.loop-walk.invariant.ordered (search rules)
