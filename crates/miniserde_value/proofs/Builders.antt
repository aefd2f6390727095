-- A closed container is put into the hole around it, and a value put into an open object stands under its name. By
-- the equations of the builder's lists: an array takes the values after its mark, an object the last open object.
use Rattle.std.proofs.Common.{◌≡◌, ℕ, List, [], ◌∷◌, Option, Some, None, option_map, map, take, drop, String}
use Rattle.std.proofs.Common.{Global, string_bytes, refl, sym, ap, ap₂, ◌∙◌}
use Rattle.std.proofs.lemmas.List.{take-map, drop-map}
use Rattle.miniserde_model.specs.Normal.{put as put_member}
use Rattle.miniserde_model.specs.Tree.{Tree, list, tree, Members}
use Rattle.miniserde_ser.specs.Trees.{trees_of}
use Rattle.miniserde_value.specs.declared.json.value.Value.{Value}
use Rattle.miniserde_value.specs.declared.json.value.Value as Value
use Rattle.miniserde_value.specs.declared.json.array.Array.{Array}
use Rattle.miniserde_value.specs.declared.json.builder.OpenObject.{OpenObject}
use Rattle.miniserde_value.specs.declared.json.builder.OpenContainer.{OpenContainer}
use Rattle.miniserde_value.specs.declared.json.builder.OpenContainer.TheVariants as container
use Rattle.miniserde_value.specs.Hole.{Hole, in_members, with_tree, after_close}
use Rattle.miniserde_value.specs.Values.{content_of, array_items}
use Rattle.miniserde_value.specs.Containers.{made_members, with_open_object, hole_of}
use Rattle.miniserde_value.proofs.ContentTrees.{content_of_array, content_of_object}

-- ---- the innermost container is closed

listed_values : (vs : List Value) → trees_of content_of vs ≡ trees_of (λ t. t) (map content_of vs)
listed_values [] = refl
listed_values (v ∷ vs) = ap (tree (content_of v)) (listed_values vs)

-- if the innermost container is an array and a has its items, to put a into the hole around it is to close it
pub closed_array : {rest : List Value} {v : ℕ} {old new : List OpenContainer} (values : List Value)
    (os : List OpenObject) (a : Array) → old ≡ container.Array v ∷ new → rest ≡ take v values → array_items a ≡ drop v values
    → with_tree (content_of (Value.Array a)) (hole_of (map content_of rest) os new)
    ≡ after_close (hole_of (map content_of values) os old)
closed_array {v = v} {new = new} values os a e r i =
    ap₂ with_tree
    (content_of_array a ∙ ap (λ (l : List Value). list (trees_of content_of l)) i ∙ ap list (listed_values (drop v values))
    ∙ ap (λ (l : List Tree). list (trees_of (λ t. t) l)) (sym (drop-map content_of v values)))
    (ap (λ (l : List Value). hole_of (map content_of l) os new) r ∙ ap (λ (l : List Tree). hole_of l os new)
    (sym (take-map content_of v values)))
    ∙ ap (λ (ms : List OpenContainer). after_close (hole_of (map content_of values) os ms)) (sym e)

-- if the innermost container is the object o, to put its members into the hole around it closes it
pub closed_object : {os rest : List OpenObject} {old new : List OpenContainer} (vs : List Tree) (o : OpenObject)
    → old ≡ container.Object ∷ new → os ≡ o ∷ rest
    → with_tree (content_of (Value.Object o.members)) (hole_of vs rest new) ≡ after_close (hole_of vs os old)
closed_object {os = os} {rest = rest} {new = new} vs o e r =
    ap (λ (t : Tree). with_tree t (hole_of vs rest new)) (content_of_object o.members)
    ∙ ap (λ (qs : List OpenObject). after_close (hole_of vs qs (container.Object ∷ new))) (sym r)
    ∙ ap (λ (ms : List OpenContainer). after_close (hole_of vs os ms)) (sym e)

-- ---- a value stands under its name

-- to add v under the due name of an open object is to put v into its hole
pub member_put : {name : String Global} (old new : OpenObject) (v : Value) → old.name ≡ Some name → new.name ≡ None
    → made_members new ≡ put_member (string_bytes name) (content_of v) (made_members old) → (h : Hole)
    → with_open_object new h ≡ with_tree (content_of v) (with_open_object old h)
member_put old new v before after e h =
    ap₂ (λ (ms : Members) (k : Option (List ℕ)). in_members ms k h) e (ap (option_map string_bytes) after)
    ∙ ap (λ (k : Option (String Global)). with_tree (content_of v) (in_members (made_members old) (option_map string_bytes k) h))
    (sym before)
