-- Only the innermost object changes, by the value that it takes (`object_changed`); the open containers still fit
-- (`fits_changed`).
use Rattle.std.proofs.Common.{refl, arith}
use Rattle.std.proofs.lemmas.Result.{on_ok_weaker}
use Rattle.miniserde_value.specs.declared.json.builder.OpenContainer.TheVariants as container
use Rattle.miniserde_value.specs.Hole.{with_tree}
use Rattle.miniserde_value.specs.Values.{content_of}
use Rattle.miniserde_value.proofs.Lasts.{last_got}
use Rattle.miniserde_value.proofs.Containers.{fits_changed, object_changed}
use Rattle.miniserde_value.proofs.json.builder.Builder.put.Goals as goal

pub invariant_of-self : goal.invariant_of-self
invariant_of-self c =
    let some = c.in-Some.ensures.variant.0 refl in
    record { fits = fits_changed _ c.args.self.now.objects.items _ _ _ (omega arith) c.args.self.now.fits }

pub returns-in-Some-Object : goal.returns-in-Some-Object
returns-in-Some-Object c =
    let some = c.in-Some.ensures.variant.0 refl in
    let top = last_got c.args.self.now.containers.items c.deref.result.now _ container.Object c.deref.ensures.value
    c.in-Some-Object.ensures.value c.in-Some-Object.field-0-is in
    on_ok_weaker c.put.result
    (object_changed (with_tree (content_of c.args.value)) _ c.args.self.now.objects.items _
    c.args.self.now.containers.items
    (record { below = _; there = c.in-Some.ensures.value; is_last = omega arith; on_top = top })) c.put.ensures
