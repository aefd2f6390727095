-- Behind an element that is not the last, a comma and the text of the elements that are left are due
-- (`compact_children_later`).
use Rattle.std.proofs.Common.{arith, ap, ap₂, subst, sym, ◌∙◌}
use Rattle.std.proofs.lemmas.Bool.Decides.{nat_tests}
use Rattle.miniserde_model.specs.InRange.{AllInRange}
use Rattle.miniserde_model.specs.Tree.{tree}
use Rattle.miniserde_ser.specs.Trees.{trees_of}
use Rattle.miniserde_ser.proofs.Items.{compact_children_later}
use Rattle.miniserde_ser.proofs.NormalForms.{AreNormal}
use Rattle.miniserde_ser.proofs.ser.impls.sequences.write_each.Goals as goal

pub loop-item-preserved-in_ok-append_mark : goal.loop-item-preserved-in_ok-append_mark
loop-item-preserved-in_ok-append_mark g c =
    let f = g.T.Serialize.tree in
    let inv = c.loop-item.invariant in
    let split = c.in-Some.ensures.cases in
    record {
      text = rw (c.in_ok-append_mark.ensures.ok, c.in_ok-begin.ensures.ok)
          (compact_children_later f c.in-Some.later.now _ split.0
          (grind (arith, nat_tests, c.is_empty.ensures, c.if-not-is_empty.true)) inv.text);
      in_range = λ r. inv.in_range (subst (λ xs. AllInRange (trees_of f xs)) (sym split.0) (c.in_ok-begin.ensures.in_range, r));
      normal = λ a n.
          let kept = c.in_ok-begin.ensures.normal (sym (ap (λ s. s.normal) c.in_ok-append_mark.ensures.ok) ∙ n) in
          inv.normal (subst (λ xs. AreNormal (trees_of f xs)) (sym split.0) (ap₂ tree kept.1 a)) kept.0;
      first = λ b. ap (λ s. s.first) c.in_ok-append_mark.ensures.ok ∙ c.in_ok-begin.ensures.first (inv.first b);
      unrefused = ap (λ s. s.refused) c.in_ok-append_mark.ensures.ok ∙ c.in_ok-begin.ensures.unrefused;
    }
