-- `close` puts the innermost container, as a value, into the hole around it. By cases of the last mark: an array
-- takes the values after it (`closed_array`), an object is the last open one (`closed_object`).
use Rattle.std.proofs.Common.{rules, ◌≡◌, List, [], ◌∷◌, ◌++◌, map, length, reverse, ap, subst, ◌∙◌}
use Rattle.miniserde_value.specs.declared.json.builder.OpenContainer.{OpenContainer}
use Rattle.miniserde_value.specs.declared.json.builder.OpenContainer.TheVariants as container
use Rattle.miniserde_value.specs.Values.{content_of}
use Rattle.miniserde_value.specs.Containers.{Fits}
use Rattle.miniserde_value.proofs.Lasts.{reverse_added}
use Rattle.miniserde_value.proofs.Containers.{TakenFrom, fits_split}
use Rattle.miniserde_value.proofs.Builders.{closed_array, closed_object}
use Rattle.miniserde_value.proofs.json.builder.Builder.close.Goals as goal

pub invariant_of-self-in-Some-Array : goal.invariant_of-self-in-Some-Array
invariant_of-self-in-Some-Array c =
    let last : c.args.self.now.containers.items ≡ c.pop.new.self.items ++ container.Array c.in-Some-Array.from ∷ [] = search rules in
    let top = reverse_added c.pop.new.self.items _ _ last in
    let fits = subst (λ (ms : List OpenContainer). Fits (length c.args.self.now.values.items)
    (reverse c.args.self.now.objects.items) ms) top c.args.self.now.fits in
    let taken : TakenFrom c.take_from.result c.args.self.now.values c.take_from.new.values c.in-Some-Array.from =
    record { taken = c.take_from.ensures.items; unchanged = c.take_from.ensures.err } in
    record { fits = fits_split c.take_from.result _ (reverse c.pop.new.self.items) taken fits }

pub returns-in_ok-put-in-Some-Array-clause-ok : goal.returns-in_ok-put-in-Some-Array-clause-ok
returns-in_ok-put-in-Some-Array-clause-ok c =
    let last : c.args.self.now.containers.items ≡ c.pop.new.self.items ++ container.Array c.in-Some-Array.from ∷ [] = search rules in
    let top = reverse_added c.pop.new.self.items _ _ last in
    c.in_ok-put-in-Some-Array.ensures
    ∙ closed_array c.args.self.now.values.items (reverse c.args.self.now.objects.items) c.from_inner.result top
    c.in_ok-items-in-Some-Array.ensures.items (ap (λ v. v.items) c.from_inner.ensures ∙ c.in_ok-items-in-Some-Array.ensures.tail)

pub returns-in_ok-put-in-Some-clause-ok : goal.returns-in_ok-put-in-Some-clause-ok
returns-in_ok-put-in-Some-clause-ok c =
    let last : c.args.self.now.containers.items ≡ c.pop.new.self.items ++ container.Object ∷ [] = search rules in
    let innermost : c.args.self.now.objects.items ≡ c.pop-in-Some-Object.new.self.items ++ c.in-Some.field-0 ∷ [] = search rules in
    let containers = reverse_added c.pop.new.self.items _ _ last in
    let objects = reverse_added c.pop-in-Some-Object.new.self.items _ _ innermost in
    c.in_ok-put-in-Some.ensures ∙ closed_object (map content_of c.args.self.now.values.items)
    c.in-Some.field-0 containers objects
