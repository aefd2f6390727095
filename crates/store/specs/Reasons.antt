-- Why a body means no value, and what a client is told (RFC 9457).
use Rattle.std.specs.Prelude.{◌≡◌, ℕ, List, [], ◌∷◌, ◌++◌, Option, Some, None, map, codes}
use Rattle.miniserde.specs.Tree.{Tree, nonneg, str, members, Members, no_members, member}
use Rattle.miniserde.specs.Value.{IsJson}
use Rattle.miniserde.specs.Compact.{compact}
use Rattle.miniserde.specs.Meaning.{Meaning}
use Rattle.miniserde.specs.Objects.{Name}
use Rattle.refused.specs.Agree.{IsWrongAt}
use Rattle.refused.specs.Text.{path_text}
use Rattle.refused.specs.Wrong.{object_gives}
use Rattle.refused.specs.declared.path.FieldPath.{FieldPath}
use Rattle.store.specs.declared.reason.Reason.{Reason}
use Rattle.store.specs.declared.reason.Reason.TheVariants.{NoJson, Field, NoValue}

-- the names of a path
abbrev pub path_names : FieldPath → List Name
path_names path = map (λ s. s.now) path.names.items

-- The reason is true of the body. No JSON: the body spells no tree. A field: the body spells a tree, and no tree that agrees
-- with it at the path means a value; the path is empty only if the tree is no object. No value: the body spells a tree, which
-- means none.
abbrev pub IsReason : {V : Type 0} → Meaning V → List ℕ → Reason → Type 0
IsReason means body NoJson = (t : Tree) → IsJson body t → ⊥
IsReason means body (Field path) =
    (t : Tree) × IsJson body t × (path_names path ≡ [] → object_gives t ≡ None) × IsWrongAt means.reads (path_names path) t
IsReason {V} means body NoValue = (t : Tree) × IsJson body t × ((v : V) → means.reads t v → ⊥)

-- the text of the path to a field; the empty path is the body's
abbrev pub field_of : List Name → Option (List ℕ)
field_of [] = None
field_of (name ∷ names) = Some (path_text (name ∷ names))

-- the sentence of a wrong field, by the text of its path
abbrev pub field_detail : Option (List ℕ) → List ℕ
field_detail None = codes "the body is not an object"
field_detail (Some field) = codes "the field " ++ field ++ codes " is wrong"

-- the member of a field, if there is one
abbrev pub field_member : Option (List ℕ) → Members
field_member None = no_members
field_member (Some field) = member (codes "field") (str field) no_members

-- the problem details of a sentence, and of a field if one is wrong
abbrev pub problem : List ℕ → Option (List ℕ) → Tree
problem detail field =
    members (member (codes "title") (str (codes "Bad Request")) (member (codes "status") (nonneg 400)
    (member (codes "detail") (str detail) (field_member field))))

-- the problem details of a reason
abbrev pub problem_of : Reason → Tree
problem_of NoJson = problem (codes "the body is not valid JSON") None
problem_of (Field path) = problem (field_detail (field_of (path_names path))) (field_of (path_names path))
problem_of NoValue = problem (codes "the body does not match the expected type") None

-- the text of the problem details of a reason
abbrev pub problem_text : Reason → List ℕ
problem_text reason = compact (problem_of reason)
