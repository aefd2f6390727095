-- Which fields of a struct have a value in a tree, each by itself, and which paths lead to one that has none.
use Rattle.std.specs.Prelude.{◌≡◌, ◌⊎◌, ◌&&◌, Bool, true, false, not, List, [], ◌∷◌, ◌++◌, Option, Some, None, IsSome, refl, codes}
use Rattle.std.proofs.Common.{subst, sym}
use Rattle.miniserde.specs.Tree.{Tree, null, str, members, Members, no_members, member}
use Rattle.miniserde.specs.Meaning.{Meaning}
use Rattle.miniserde.specs.Words.{string_of}
use Rattle.miniserde.specs.Objects.{Name, object_of}
use Rattle.miniserde.specs.Options.{option_of}
use Rattle.miniserde.specs.Fields.{FieldReads, FieldRule, field_rule, fields_content, value_rule}
use Rattle.miniserde.specs.FieldsMeaning.{field_and, no_fields}
use Rattle.miniserde.specs.Marks.{is_among}
use Rattle.miniserde.specs.Structs.{are_distinct}
use Rattle.miniserde_record.specs.laws.Left.{left}

-- the first name alone, if there is one
abbrev pub first_alone : List Name → List Name
first_alone [] = []
first_alone (n ∷ ns) = n ∷ []

-- the first name, or the empty one if there is none
abbrev pub name_or_empty : List Name → Name
name_or_empty [] = []
name_or_empty (n ∷ ns) = n

-- the names without the first
abbrev pub later_names : List Name → List Name
later_names [] = []
later_names (n ∷ ns) = ns

-- whether no two of the names are equal, and none is one of those before
abbrev pub are_apart : List Name → List Name → Bool
are_apart before [] = true
are_apart before (n ∷ ns) = not (is_among before n) && are_apart (before ++ n ∷ []) ns

-- the content that a tree gives of a struct that has one field, whose name is listed, if it gives any
abbrev pub alone : {C : Type 0} → FieldRule C → List Name → Tree → Option (C × Unit {0})
alone rule names = object_of (fields_content rule (λ _ _ _. Some (tt {0})) names (None, tt {0}))

-- What content members give a field if any number of them may have its name: `absent` is the content of a missing
-- field, and `of` returns that of a member's tree.
abbrev pub any_number : {C : Type 0} → Option C → (Tree → Option C) → FieldRule C
any_number absent of = record { once = false; absent = absent; of = of }

-- whether what stands at a place of a document gives a content of the type, as the function tells of a tree
abbrev pub Gives : Type 1
Gives = (C : Type 0) → (Tree → Option C) → Tree → Type 0

-- the document itself gives a content
abbrev pub document_gives : Gives
document_gives C of t = IsSome (of t)

-- what stands in the field of the first name gives a content
abbrev pub field_gives : Gives → List Name → Gives
field_gives gives names C of t = gives (C × Unit {0}) (alone (any_number None of) (first_alone names)) t

-- what stands in the field of the first name gives a content, or it is missing or null
abbrev pub optional_gives : Gives → List Name → Gives
optional_gives gives names C of t = gives (Option C × Unit {0}) (alone (any_number (Some None) (option_of of)) (first_alone names)) t

-- what any object gives
abbrev pub object_gives : Tree → Option (Unit {0})
object_gives = object_of (λ _. Some (tt {0}))

-- the content that the members of an object give of fields, without the members of the names `before`
abbrev pub fields_of : {S D : Type 0} → (List Name → S → Members → Option D) → S → List Name → List Name → Tree → Option D
fields_of from_members empty before names = object_of (λ ms. from_members names empty (left before ms))

-- a field of a struct at a place of documents
pub record FieldAt (C : Type 0) : Type 1 where
  -- whether the place gives a content
  pub gives : Gives
  -- the path to the place
  pub here : List Name
  -- the name of the field, and those of the later ones
  pub names : List Name
  -- what content members give the field
  pub rule : FieldRule C

-- the path leads to the field, which has no value there
abbrev pub FieldIsWrong : {C : Type 0} → FieldAt C → List Name → Tree → Type 0
FieldIsWrong {C} field path t = (path ≡ field.here ++ name_or_empty field.names ∷ [])
    × (field.gives (C × Unit {0}) (alone field.rule (first_alone field.names)) t → ⊥)

-- what stands at the place is no object, or has a value of each field by itself
abbrev pub IsNoMore : Gives → (Gives → Tree → Type 0) → Tree → Type 0
IsNoMore gives right t = (gives (Unit {0}) object_gives t → ⊥) ⊎ right gives t

-- a struct that stands in a field
pub record StructWithin : Type 1 where
  -- whether what stands in the field gives a content
  pub gives : Gives
  -- the path leads from a place to a field of the struct that is wrong
  pub wrong : Gives → List Name → List Name → Tree → Type 0
  -- what stands at a place has a value of each field of the struct by itself
  pub right : Gives → Tree → Type 0

-- The path leads to the field, which has no value, though it is no object or each field within it has a value by itself
-- (`right`). Or what stands in the field gives any object, and the path leads to a field within it that is wrong
-- (`wrong`).
abbrev pub IsWrongWithin : {C : Type 0} → FieldAt C → StructWithin → List Name → Tree → Type 0
IsWrongWithin field within path t =
    (FieldIsWrong field path t × IsNoMore within.gives within.right t)
    ⊎ (within.gives (Unit {0}) object_gives t × within.wrong within.gives (field.here ++ name_or_empty field.names ∷ []) path t)

-- the path is empty and the tree is no object, or the path leads to a field of it that is wrong
abbrev pub StructIsWrong : (List Name → Tree → Type 0) → List Name → Tree → Type 0
StructIsWrong fields path t = ((path ≡ []) × (object_gives t ≡ None)) ⊎ fields path t

-- the first name alone has no duplicate
pub first_apart : (ns : List Name) → are_distinct (first_alone ns) ≡ true
first_apart [] = refl
first_apart (n ∷ ns) = refl

-- a field of the type T
pub record FieldOf (T : Type 0) : Type 1 where
  -- whether a second member of the field's name is an error
  pub once : Bool
  -- the tree that stands for a missing member, if there is one
  pub given : Option Tree
  -- the meaning of the field's type
  pub means : Meaning T
  -- the value of a missing field without such a tree, if it has one
  pub absent : Option T

-- If members mean a value of a field (`FieldReads`), the field has one by itself. So they mean none of a field that is
-- wrong.
pub read_alone : {T : Type 0} (field : FieldOf T) (n : Name) (ms : Members) (v : T)
    → FieldReads false (value_rule field.once field.given field.means field.absent) n ms v
    → IsSome (alone (field_rule field.once field.given field.means field.absent) (n ∷ []) (members ms))
read_alone field n ms v h =
    let all = field_and field.once field.given field.means field.absent no_fields in
    let e = (all.reads_agrees [] (n ∷ []) ms (v, tt {0})).0 (h, tt {0}) in
    subst (λ o. IsSome o) (sym e) refl

-- Worked cases: of a required text `a`, an object with a text `a` gives this text, whatever else it has; one whose
-- first of two members `a` is null gives none, and neither does one without the name.
pub other_names : alone (any_number None string_of) (codes "a" ∷ [])
    (members (member (codes "b") null (member (codes "a") (str (codes "x")) no_members))) ≡ Some (codes "x", tt {0})
other_names = refl

pub each_counts : alone (any_number None string_of) (codes "a" ∷ [])
    (members (member (codes "a") null (member (codes "a") (str (codes "x")) no_members))) ≡ None
each_counts = refl

pub no_member : alone (any_number None string_of) (codes "a" ∷ []) (members no_members) ≡ None
no_member = refl
