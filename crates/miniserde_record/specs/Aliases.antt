-- Aliases: other names by which the fields of a struct are read. A list of pairs has each alias
-- with the name of its field.
use Rattle.std.specs.Prelude.{◌&&◌, Bool, true, List, [], ◌∷◌, map, bytes_eq, if◌then◌else◌}
use Rattle.miniserde_model.specs.Tree.{Members, no_members, member}
use Rattle.miniserde_read.specs.types.Objects.{Name}

-- the aliases that a constant lists, each with the name of its field
abbrev pub aliases_of : record { now : List (record { now : Name } × record { now : Name }) } → List (Name × Name)
aliases_of ps = map (λ p. (p.0.now, p.1.now)) ps.now

-- by a list of aliases, the name of the field that has the alias k, or k itself if it is no alias;
-- if an alias is a duplicate, the first one counts
abbrev pub field_name_of : List (Name × Name) → Name → Name
field_name_of [] k = k
field_name_of (p ∷ ps) k = if bytes_eq k p.0 then p.1 else field_name_of ps k

-- by the aliases ps, the members with each alias replaced by the name of its field
abbrev pub with_field_names : List (Name × Name) → Members → Members
with_field_names ps no_members = no_members
with_field_names ps (member k t ms) = member (field_name_of ps k) t (with_field_names ps ms)

-- whether, by the aliases ps, none of the names is an alias of another name
abbrev pub are_unaliased : List (Name × Name) → List Name → Bool
are_unaliased ps [] = true
are_unaliased ps (n ∷ ns) = bytes_eq (field_name_of ps n) n && are_unaliased ps ns
