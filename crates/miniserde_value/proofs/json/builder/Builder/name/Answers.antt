-- Only the innermost object changes, by `with_name` (`object_changed`); the open containers still fit
-- (`fits_changed`).
use Rattle.std.proofs.Common.{Option, Some, List, ℕ, refl, ap, ap₂, ◌∙◌, arith}
use Rattle.miniserde_model.specs.Tree.{Members}
use Rattle.miniserde_value.specs.declared.json.builder.OpenContainer.TheVariants as container
use Rattle.miniserde_value.specs.Hole.{in_members, with_name}
use Rattle.miniserde_value.proofs.Lasts.{last_got}
use Rattle.miniserde_value.proofs.Containers.{fits_changed, object_changed}
use Rattle.miniserde_value.proofs.json.builder.Builder.name.Goals as goal

pub invariant_of-self : goal.invariant_of-self
invariant_of-self c =
    let some = c.in-Some.ensures.variant.0 refl in
    record { fits = fits_changed _ c.args.self.now.objects.items _ _ _ (omega arith) c.args.self.now.fits }

pub returns-in-Some-clause-ok : goal.returns-in-Some-clause-ok
returns-in-Some-clause-ok c =
    let some = c.in-Some.ensures.variant.0 refl in
    let top = last_got c.args.self.now.containers.items c.deref.result.now _ container.Object c.deref.ensures.value
    c.in-Some-Object.ensures.value c.in-Some-Object.field-0-is in
    object_changed (with_name c.args.name.now) _ c.args.self.now.objects.items _ c.args.self.now.containers.items
    (record { below = _; there = c.in-Some.ensures.value; is_last = omega arith; on_top = top })
    (λ h. ap₂ (λ (ms : Members) (k : Option (List ℕ)). in_members ms k h) c.name.ensures.members
    (c.name.ensures.name ∙ ap (λ (t : List ℕ). Some t) c.in_ok-name.ensures.ok))
