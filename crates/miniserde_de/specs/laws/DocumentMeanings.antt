-- The meanings of arrays, objects and documents that one place reads from events.
use Rattle.std.proofs.Common.{◌≡◌, Bool, true, false, List, [], ◌∷◌, Option, Some, option_map, refl, ap, ◌∙◌}
use Rattle.miniserde_model.specs.Tree.{Tree, list, members}
use Rattle.miniserde_model.specs.Step.{Step, seq, map, events}
use Rattle.miniserde_model.specs.Normal.{norm}
use Rattle.miniserde_value.specs.Retained.{retained_tree}
use Rattle.miniserde_value.specs.Hole.{outside}
use Rattle.miniserde_value.specs.OnlyContainers.{only_list, only_members}
use Rattle.miniserde_value.specs.Meanings.{json_array_meaning, json_object_meaning, document_meaning}
use Rattle.miniserde_value.specs.declared.json.array.Array.{Array}
use Rattle.miniserde_value.specs.declared.json.object.Object.{Object}
use Rattle.miniserde_value.specs.declared.json.document.Document.{Document}
use Rattle.miniserde_value.specs.laws.Outcomes.{outcome-whole}
use Rattle.miniserde_value.proofs.RetainedTrees.{norm_kept}
use Rattle.miniserde_de.specs.DocumentMeanings.{DocumentMeaning, accepted_outcome, document_outcome}

-- whether the event opens an array
abbrev pub is_seq : Step → Bool
is_seq seq = true
is_seq _ = false

-- whether the event opens an object
abbrev pub is_map : Step → Bool
is_map map = true
is_map _ = false

pub list-whole : (t : Tree) → only_list (document_outcome is_seq true (outside []) (events t)) ≡ only_list (Some (retained_tree t))
list-whole (list ts) = ap only_list (outcome-whole (list ts))
list-whole _ = refl

pub members-whole : (t : Tree) → only_members (document_outcome is_map true (outside []) (events t)) ≡ only_members (Some (retained_tree t))
members-whole (members ms) = ap only_members (outcome-whole (members ms))
members-whole _ = refl

any_first : (es : List Step) (o : Option Tree) → accepted_outcome (λ e. true) es o ≡ o
any_first [] o = refl
any_first (e ∷ es) o = refl

pub document-whole : (t : Tree) → option_map norm (document_outcome (λ e. true) true (outside []) (events t)) ≡ Some (norm t)
document-whole t = ap (option_map norm) (any_first (events t) _ ∙ outcome-whole t) ∙ ap (λ (z : Tree). Some z) (norm_kept t)

-- the meaning of an `Array`: its first event opens an array, and its content is the retained tree, which is a list
abbrev pub lists : DocumentMeaning Array
lists = record { by_trees = json_array_meaning; begins = is_seq; only = only_list; none = refl; events_agree = list-whole }

-- the meaning of an `Object`: its first event opens an object, and its content is the retained tree, which is an
-- object
abbrev pub objects : DocumentMeaning Object
objects = record { by_trees = json_object_meaning; begins = is_map; only = only_members; none = refl; events_agree = members-whole }

-- the meaning of a `Document`: any event may be its first one, and its content is the normal form of the retained
-- tree
abbrev pub documents : DocumentMeaning Document
documents = record { by_trees = document_meaning; begins = λ e. true; only = option_map norm; none = refl; events_agree = document-whole }
