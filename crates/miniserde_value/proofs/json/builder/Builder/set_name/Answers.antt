-- Only the innermost object changes, by `with_name` (`object_changed`); the open containers still fit
-- (`fits_changed`).
use Rattle.std.proofs.Common.{ap, ap₂, sym, refl, reverse, ◌∙◌, arith, Option, Some, List, ℕ, string_bytes, option_map}
use Rattle.miniserde_model.specs.Tree.{Members}
use Rattle.miniserde_value.specs.Builders.{hole_in}
use Rattle.miniserde_value.specs.Containers.{kind_around, with_next_name}
use Rattle.miniserde_value.specs.Hole.{in_members, with_name}
use Rattle.miniserde_value.proofs.Containers.{fits_changed, object_changed, object_on_top, object_is_open}
use Rattle.miniserde_value.proofs.json.builder.Builder.set_name.Goals as goal

pub invariant_of-self : goal.invariant_of-self
invariant_of-self c =
    let some = c.in-Some-last_mut.ensures.variant.0 refl in
    record { fits = fits_changed _ c.args.self.now.objects.items _ _ _ (omega arith) c.args.self.now.fits }

pub unreachable-requires : goal.unreachable-requires
unreachable-requires c =
    let inside = c.requires ∙ ap (λ z. Some (kind_around (option_map string_bytes z))) c.in-Some.is in
    let open_one = object_is_open _ _ c.args.self.now.objects.items c.args.self.now.containers.items
    c.args.self.now.fits inside in
    let some = c.in-None.ensures.variant.1 (omega (arith, open_one, c.args.self.now.objects.ok)) in
    cc

pub returns-in-Some-last_mut : goal.returns-in-Some-last_mut
returns-in-Some-last_mut c =
    let inside = c.requires ∙ ap (λ z. Some (kind_around (option_map string_bytes z))) c.in-Some.is in
    let some = c.in-Some-last_mut.ensures.variant.0 refl in
    let top = object_on_top _ _ (reverse c.args.self.now.containers.items) inside in
    object_changed (with_name (string_bytes c.in-Some.name)) _ c.args.self.now.objects.items _ c.args.self.now.containers.items
    (record { below = _; there = c.in-Some-last_mut.ensures.value; is_last = omega arith; on_top = top.1 })
    (λ h. ap₂ (λ (ms : Members) (k : Option (List ℕ)). in_members ms k h) c.name.ensures.members c.name.ensures.name)
    ∙ ap (λ z. with_next_name (option_map string_bytes z) (hole_in c.args.self.now)) (sym c.in-Some.is)
