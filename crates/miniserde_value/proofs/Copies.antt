-- What is built of all that a walk meets.
use Rattle.std.proofs.Common.{◌≡◌, List, [], ◌∷◌, Option, Some, None, option_map, refl, ap, ◌∙◌}
use Rattle.miniserde_model.specs.Tree.{Tree, no_members}
use Rattle.miniserde_model.specs.Tokens.{Token, leaf, array, object, name, tokens}
use Rattle.miniserde_value.specs.declared.json.value.Value.{Value}
use Rattle.miniserde_value.specs.declared.json.array.Array.{Array}
use Rattle.miniserde_value.specs.declared.json.object.Object.{Object}
use Rattle.miniserde_value.specs.Values.{content_of, array_content, object_content}
use Rattle.miniserde_value.specs.Hole.{Hole, outside, in_list, in_members, complete_tree}
use Rattle.miniserde_value.specs.Tokens.{hole_after, IsOrdered}
use Rattle.miniserde_value.proofs.Built.{built_tokens}
use Rattle.miniserde_value.proofs.RetainedTrees.{kept_ordered}

-- the first token is built first
pub built_first : (h : Hole) (f : Token) (fs : List Token) → hole_after h (f ∷ fs) ≡ hole_after (hole_after h (f ∷ [])) fs
built_first h (leaf t) fs = refl
built_first h (name n) fs = refl
built_first h _ fs = refl

-- the tokens of a tree in order give the tree
whole_tokens : (t : Tree) → IsOrdered t → complete_tree (hole_after (outside []) (tokens t [])) ≡ Some t
whole_tokens t o = ap complete_tree (built_tokens (outside []) t []) ∙ ap (λ (u : Tree). Some u) (kept_ordered t o)

-- a builder that opens and then adds all that a walk over an array or an object meets has its tree
pub array_copied : (r : Option Value) (a : Array) {opened filled : Hole} {fs : List Token}
    → option_map content_of r ≡ complete_tree filled → filled ≡ hole_after opened fs → opened ≡ in_list [] (outside [])
    → array ∷ fs ≡ tokens (array_content a) [] → IsOrdered (array_content a)
    → option_map content_of r ≡ Some (array_content a)
array_copied r a {fs = fs} whole_is filled_is opened_is fs_is o =
    whole_is ∙ ap complete_tree filled_is ∙ ap (λ h. complete_tree (hole_after h fs)) opened_is
    ∙ ap (λ gs. complete_tree (hole_after (outside []) gs)) fs_is ∙ whole_tokens (array_content a) o

-- a builder that opens an object and takes the other tokens of an ordered object gives its tree
pub object_copied : (r : Option Value) (m : Object) {opened filled : Hole} {fs : List Token}
    → option_map content_of r ≡ complete_tree filled → filled ≡ hole_after opened fs → opened ≡ in_members no_members None (outside [])
    → object ∷ fs ≡ tokens (object_content m) [] → IsOrdered (object_content m)
    → option_map content_of r ≡ Some (object_content m)
object_copied r m {fs = fs} whole_is filled_is opened_is fs_is o =
    whole_is ∙ ap complete_tree filled_is ∙ ap (λ h. complete_tree (hole_after h fs)) opened_is
    ∙ ap (λ gs. complete_tree (hole_after (outside []) gs)) fs_is ∙ whole_tokens (object_content m) o
