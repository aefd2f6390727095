-- The meanings of documents: which trees mean which of their values.
use Rattle.std.specs.Prelude.{◌≡◌, true, Some, string_bytes}
use Rattle.miniserde_model.specs.Tree.{Tree}
use Rattle.miniserde_model.specs.Distinct.{names_distinct}
use Rattle.miniserde_model.specs.Normal.{norm}
use Rattle.miniserde_read.specs.Meaning.{Meaning, meaning_with}
use Rattle.miniserde_ser.specs.Trees.{trees_of, members_of}
use Rattle.miniserde_value.specs.declared.json.number.Number.{Number}
use Rattle.miniserde_value.specs.declared.json.value.Value.{Value}
use Rattle.miniserde_value.specs.declared.json.array.Array.{Array}
use Rattle.miniserde_value.specs.declared.json.object.Object.{Object}
use Rattle.miniserde_value.specs.declared.json.unique.Unique.{Unique}
use Rattle.miniserde_value.specs.declared.json.document.Document.{Document}
use Rattle.miniserde_value.specs.Retained.{retained_tree, retained_if}
use Rattle.miniserde_value.specs.OnlyContainers.{only_list, only_members}
use Rattle.miniserde_value.specs.Numbers.{number_leaf, if_number, ReadsNumber}
use Rattle.miniserde_value.specs.Values.{content_of, tree_of, ReadsValue, array_items, object_entries, array_content, object_content}
use Rattle.miniserde_value.specs.laws.Numbers.{number-given}
use Rattle.miniserde_value.specs.laws.Documents.{document-given}
use Rattle.miniserde_value.specs.laws.Outcomes.{reads-agree, list-agrees, members-agree}
use Rattle.miniserde_value.specs.laws.Unique.{once-agrees}

-- the meaning of a `Number`: the leaf of a number means that number
abbrev pub number_meaning : Meaning Number
number_meaning = meaning_with number_leaf if_number ReadsNumber number-given

-- the meaning of a `Value`: every tree means the values whose content is the retained tree
abbrev pub value_meaning : Meaning Value
value_meaning = meaning_with content_of (λ t. Some (retained_tree t)) ReadsValue (λ t v. reads-agree t (content_of v))

-- the meaning of an `Array`: a list means the arrays whose content is the retained tree
abbrev pub json_array_meaning : Meaning Array
json_array_meaning =
    meaning_with array_content (λ t. only_list (Some (retained_tree t))) (λ t a. array_content a ≡ retained_tree t)
    (λ t a. list-agrees t (trees_of content_of (array_items a)))

-- the meaning of an `Object`: the tree of an object means those whose content is the retained tree
abbrev pub json_object_meaning : Meaning Object
json_object_meaning =
    meaning_with object_content (λ t. only_members (Some (retained_tree t))) (λ t o. object_content o ≡ retained_tree t)
    (λ t o. members-agree t (members_of string_bytes content_of (object_entries o)))

-- the tree has no duplicate names, and means the value inside u
abbrev pub ReadsUnique : Tree → Unique → Type 0
ReadsUnique t u = (names_distinct t ≡ true) × ReadsValue t u.value

-- the meaning of a `Unique`: a tree without duplicate names means those whose content is the retained tree
abbrev pub unique_meaning : Meaning Unique
unique_meaning = meaning_with (λ u. content_of u.value) (retained_if true) ReadsUnique (λ t u. once-agrees t (content_of u.value))

-- the meaning of a `Document`: every tree means the documents that are written as its normal form
abbrev pub document_meaning : Meaning Document
document_meaning =
    meaning_with (λ d. tree_of d.value) (λ t. Some (norm t)) (λ t d. tree_of d.value ≡ norm t)
    (λ t d. document-given (norm t) (tree_of d.value))
