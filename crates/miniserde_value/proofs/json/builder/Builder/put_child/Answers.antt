-- In an object only the innermost object changes, by the value that it takes (`object_changed`), and in an array the
-- values do (`item_put`); the open containers still fit (`fits_changed`, `fits_longer`).
use Rattle.std.proofs.Common.{Option, List, ℕ, ap, ap₂, sym, refl, reverse, ◌∙◌, arith, Some, string_bytes, option_map}
use Rattle.std.proofs.lemmas.Result.{on_ok_weaker}
use Rattle.miniserde_model.specs.Tree.{Members}
use Rattle.miniserde_value.specs.Builders.{hole_in}
use Rattle.miniserde_value.specs.Containers.{kind_around, with_next_name}
use Rattle.miniserde_value.specs.Hole.{in_members, with_tree, with_name}
use Rattle.miniserde_value.specs.Values.{content_of}
use Rattle.miniserde_value.proofs.Containers.{fits_changed, fits_longer, object_changed, object_on_top, object_is_open}
use Rattle.miniserde_value.proofs.Containers.{pending_last, item_put}
use Rattle.miniserde_value.proofs.json.builder.Builder.put_child.Goals as goal

pub invariant_of-self : goal.invariant_of-self
invariant_of-self c =
    let some = c.in-Some-last_mut.ensures.variant.0 refl in
    record { fits = fits_changed _ c.args.self.now.objects.items _ _ _ (omega arith) c.args.self.now.fits }

pub unreachable-requires : goal.unreachable-requires
unreachable-requires c =
    let inside = c.requires.inside ∙ ap (λ z. Some (kind_around (option_map string_bytes z))) c.in-Some.is in
    let open_one = object_is_open _ _ c.args.self.now.objects.items c.args.self.now.containers.items
    c.args.self.now.fits inside in
    let some = c.in-None-last_mut.ensures.variant.1 (omega (arith, open_one, c.args.self.now.objects.ok)) in
    cc

pub invariant_of-self-in-None : goal.invariant_of-self-in-None
invariant_of-self-in-None c =
    record {
      fits = fits_longer _ _ _ _ (omega (arith, c.push.ensures.len, c.push.new.self.ok, c.args.self.now.values.ok))
          c.args.self.now.fits;
    }

pub returns-in-Some-last_mut : goal.returns-in-Some-last_mut
returns-in-Some-last_mut c =
    let inside = c.requires.inside ∙ ap (λ z. Some (kind_around (option_map string_bytes z))) c.in-Some.is in
    let some = c.in-Some-last_mut.ensures.variant.0 refl in
    let top = object_on_top _ _ (reverse c.args.self.now.containers.items) inside in
    let last = c.in-Some-last_mut.ensures.value in
    let unnamed = sym (pending_last _ c.args.self.now.objects.items c.args.self.now.containers.items
    (record { below = _; there = last; is_last = omega arith; on_top = top.1 })) ∙ c.requires.unnamed in
    on_ok_weaker c.insert.result
    (λ e. object_changed (λ h. with_tree (content_of c.args.value) (with_name (string_bytes c.in-Some.name) h)) _
    c.args.self.now.objects.items _ c.args.self.now.containers.items
    (record { below = _; there = last; is_last = omega arith; on_top = top.1 })
    (λ h. ap₂ (λ (ms : Members) (k : Option (List ℕ)). in_members ms k h) e unnamed)
    ∙ ap (λ z. with_tree (content_of c.args.value) (with_next_name (option_map string_bytes z) (hole_in c.args.self.now)))
    (sym c.in-Some.is)) c.insert.ensures.ok

pub returns-in_ok-push-in-None : goal.returns-in_ok-push-in-None
returns-in_ok-push-in-None c =
    let inside = c.requires.inside ∙ ap (λ z. Some (kind_around (option_map string_bytes z))) c.in-None.is in
    item_put c.args.self.now.values.items c.args.value (reverse c.args.self.now.objects.items)
    (reverse c.args.self.now.containers.items) c.in_ok-push-in-None.ensures.items c.args.self.now.fits inside
    ∙ ap (λ z. with_tree (content_of c.args.value) (with_next_name (option_map string_bytes z) (hole_in c.args.self.now)))
    (sym c.in-None.is)
