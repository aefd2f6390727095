-- The hole of a builder, by its values, its open objects and its open containers.
use Rattle.std.specs.Prelude.{ℕ, ◌≤◌, List, [], ◌∷◌, Option, Some, None, option_map, string_bytes, reverse, take, drop, length, ⊤}
use Rattle.miniserde_model.specs.Tree.{Tree, Members, no_members}
use Rattle.miniserde_model.specs.declared.kind.Kind.{Kind}
use Rattle.miniserde_model.specs.declared.kind.Kind.TheVariants as kind
use Rattle.miniserde_value.specs.declared.json.value.Value.{Value}
use Rattle.miniserde_value.specs.declared.json.builder.OpenObject.{OpenObject}
use Rattle.miniserde_value.specs.declared.json.builder.OpenContainer.{OpenContainer}
use Rattle.miniserde_value.specs.declared.json.builder.OpenContainer.TheVariants as container
use Rattle.miniserde_value.specs.Hole.{Hole, outside, in_list, in_members, with_name}
use Rattle.miniserde_value.specs.Values.{object_members}

-- the members of the open object so far
abbrev pub made_members : OpenObject → Members
made_members o = object_members o.members

-- the name of the open object's next value, if it has come
abbrev pub next_name : OpenObject → Option (List ℕ)
next_name o = option_map string_bytes o.name

-- the hole of the open object o inside the hole h
abbrev pub with_open_object : OpenObject → Hole → Hole
with_open_object o h = in_members (made_members o) (next_name o) h

-- the members so far of the first of the open objects, or no members if there is no object
abbrev pub first_members : List OpenObject → Members
first_members [] = no_members
first_members (o ∷ os) = made_members o

-- the name of the next value of the first of the open objects, if it has come
abbrev pub first_next_name : List OpenObject → Option (List ℕ)
first_next_name [] = None
first_next_name (o ∷ os) = next_name o

-- the open objects without the first, if there is one
abbrev pub outer_objects : List OpenObject → List OpenObject
outer_objects [] = []
outer_objects (o ∷ os) = os

-- The hole of the values vs in the order in which they came, the open objects os and the open containers ms, both
-- innermost first. An array has the values from its index on. Those before the index are in the arrays around it, or
-- are complete values outside of all containers. The objects among ms are those of os, in the same order; an object
-- beyond the last of os has no members.
abbrev pub hole_of : List Tree → List OpenObject → List OpenContainer → Hole
hole_of vs os [] = outside vs
hole_of vs os (container.Array v ∷ ms) = in_list (drop v vs) (hole_of (take v vs) os ms)
hole_of vs os (container.Object ∷ ms) = in_members (first_members os) (first_next_name os) (hole_of vs (outer_objects os) ms)

-- n values and the open objects os fit the open containers, innermost first: each array's index is
-- at most that of the next array inside it, or at most n if there is none, and os has an entry for
-- each object among the containers
abbrev pub Fits : ℕ → List OpenObject → List OpenContainer → Type 0
Fits n os [] = ⊤
Fits n os (container.Array v ∷ ms) = (v ≤ n) × Fits v os ms
Fits n os (container.Object ∷ ms) = (1 ≤ length os) × Fits n (outer_objects os) ms

-- the values vs, the open objects os and the open containers ms of a builder, outermost first, fit
-- each other
abbrev pub ContainersFit : List Value → List OpenObject → List OpenContainer → Type 0
ContainersFit vs os ms = Fits (length vs) (reverse os) (reverse ms)

-- the kind of the innermost open container, if one is open
abbrev pub innermost_kind : Hole → Option Kind
innermost_kind (outside ts) = None
innermost_kind (in_list ts h) = Some kind.Seq
innermost_kind (in_members ms n h) = Some kind.Map

-- the kind of a container whose next child has this name, if it has one
abbrev pub kind_around : Option (List ℕ) → Kind
kind_around None = kind.Seq
kind_around (Some n) = kind.Map

-- the name of the next value of the innermost open container, if it has come
abbrev pub pending : Hole → Option (List ℕ)
pending (outside ts) = None
pending (in_list ts h) = None
pending (in_members ms n h) = n

-- the hole with the name, if there is one, for the next value
abbrev pub with_next_name : Option (List ℕ) → Hole → Hole
with_next_name None h = h
with_next_name (Some n) h = with_name n h
