-- What the leaf gives as the inner type, and what the check says of the value.
use Rattle.std.proofs.Common.{◌≡◌, refl, sym, subst, Some}
use Rattle.std.proofs.lemmas.Result.{err_from_is_err_and}
use Rattle.miniserde_read.specs.Events.{event_of, leaf_of, on_leaf}
use Rattle.miniserde_read.specs.Newtypes.{checked_of}
use Rattle.miniserde_read.proofs.Accepted.{not_true}
use Rattle.miniserde_places.proofs.Checks.{leaf-some, leaf-none, leaf-nothing}
use Rattle.miniserde_places.proofs.newtypes.checked_from_step.Goals as goal

pub returns-in-Some-clause-ok : goal.returns-in-Some-clause-ok
returns-in-Some-clause-ok g c =
    let n = g.N.Checked in
    let e = event_of c.args.event in
    let h = leaf-some g.N.Inner.Leaf.means n.means g.met.N.CheckedLeaf.same_leaf n.accepts (leaf_of e) c.in_ok-from_step.field-0
    c.in_ok-from_step.ensures.ok (c.in-Some.ensures.accepted.0 refl) in
    subst (λ x. on_leaf (checked_of n.accepts n.means.from_tree) e ≡ Some (n.means.content x))
    (sym c.in-Some.ensures.some) h

pub returns-in-None-clause-invalid : goal.returns-in-None-clause-invalid
returns-in-None-clause-invalid g c = λ _.
    let n = g.N.Checked in
    let refused = not_true (n.accepts (n.means.content c.in_ok-from_step.field-0))
    (λ h. let no = c.in-None.ensures.accepted.1 h in cc) in
    leaf-none g.N.Inner.Leaf.means n.means g.met.N.CheckedLeaf.same_leaf n.accepts (leaf_of (event_of c.args.event))
    c.in_ok-from_step.field-0 c.in_ok-from_step.ensures.ok refused

pub returns-in_err-from_step-clause-invalid : goal.returns-in_err-from_step-clause-invalid
returns-in_err-from_step-clause-invalid g c = λ e.
    let n = g.N.Checked in
    let w = err_from_is_err_and c.from_residual.result c.from_residual.ensures.1 in
    leaf-nothing g.N.Inner.Leaf.means n.means g.met.N.CheckedLeaf.same_leaf n.accepts (leaf_of (event_of c.args.event))
    (c.in_err-from_step.ensures.invalid (cc (w.1, w.2, e)))
