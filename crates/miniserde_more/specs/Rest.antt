-- The members of a struct's object that no field takes, and the entries of a map that are written as such members.
use Rattle.std.specs.Prelude.{◌&&◌, Bool, true, false, List, [], ◌∷◌, ◌++◌, Option, Some, None, option_map, if◌then◌else◌, codes, ◌≡◌, refl}
use Rattle.miniserde_model.specs.Normal.{norm}
use Rattle.miniserde_model.specs.Tree.{Tree, null, truth, members, Members, no_members, member}
use Rattle.miniserde_read.specs.Lookups.{last_in}
use Rattle.miniserde_read.specs.types.Objects.{Name, MemberStep}
use Rattle.miniserde_read.specs.types.Maps.{KeyMeaning, key_meaning, MapContent, map_content, map_member}
use Rattle.miniserde_ser.specs.Trees.{members_of}
use Rattle.miniserde_record.specs.Marks.{is_among}
use Rattle.miniserde_record.specs.Structs.{with_names}

-- the members whose name is none of the names, in order
abbrev pub others : List Name → Members → Members
others ns no_members = no_members
others ns (member k t ms) = if is_among ns k then others ns ms else member k t (others ns ms)

-- the entries whose key has none of the names, in order; `text` returns the name of a key
abbrev pub kept : {K V : Type 0} → (K → Name) → List Name → List (K × V) → List (K × V)
kept text ns [] = []
kept text ns (e ∷ es) = if is_among ns (text e.0) then kept text ns es else e ∷ kept text ns es

-- the members ms, and behind them the members ns
abbrev pub members_then : Members → Members → Members
members_then no_members ns = ns
members_then (member k t ms) ns = member k t (members_then ms ns)

-- keys that are names: each name is read as the key of that text
abbrev pub name_keys : {K : Type 0} → (K → Name) → KeyMeaning K
name_keys text = key_meaning Some (λ k. k) text

-- what counts of a map beside fields of the names ns: the entries of other names; `content` returns the content of a value
abbrev pub rest_content : {K V C : Type 0} → (K → Name) → List Name → (V → C) → List (K × V) → MapContent C
rest_content text ns content es = map_content (λ k. k) text content (kept text ns es)

-- the content m of a map with one more member, unless its name is one of the names ns; `of` returns the content of its tree
abbrev pub rest_member : {C : Type 0} → List Name → (Tree → Option C) → MemberStep (MapContent C) Tree
rest_member ns of m k t = if is_among ns k then Some m else map_member Some (λ k. k) of m k t

-- the entries of a map that may not be there yet
abbrev pub entries_so_far : {K V M : Type 0} → (M → List (K × V)) → Option M → List (K × V)
entries_so_far entries None = []
entries_so_far entries (Some m) = entries m

-- Worked cases: of `{"a":null,"b":true}`, beside a field `a` the member `b` is left, and of a map with both names the entry `b`.
abbrev a_and_b : Members
a_and_b = member (codes "a") null (member (codes "b") (truth true) no_members)

pub b_is_left : others (codes "a" ∷ []) a_and_b ≡ member (codes "b") (truth true) no_members
b_is_left = refl

pub b_is_kept : kept (λ k. k) (codes "a" ∷ []) ((codes "a", false) ∷ (codes "b", true) ∷ []) ≡ (codes "b", true) ∷ []
b_is_kept = refl

-- the names of the aliases, by a list of aliases, each with the name of its field
abbrev pub alias_names : List (Name × Name) → List Name
alias_names [] = []
alias_names (p ∷ ps) = p.0 ∷ alias_names ps

-- whether, by a list of aliases, each is an alias of one of the names
abbrev pub are_of_names : List (Name × Name) → List Name → Bool
are_of_names [] ns = true
are_of_names (p ∷ ps) ns = is_among ns p.1 && are_of_names ps ns

-- The members that are written of the struct w: its fields' members, with their names and the trees that `trees` returns for
-- the fields' values, and behind them the map's members, except those of the names and of the further names, as aliases.
-- `values` returns the map and the fields' values, `entries` the map's entries, `text` the name of a key and f the tree of a
-- value.
abbrev pub rest_members : {K U M V W : Type 0} → (K → Name) → List Name → List Name → (U → Tree) → (M → List (K × U))
    → (V → List (Option Tree)) → (W → M × V) → W → Members
rest_members text names further f entries trees values w =
    members_then (with_names names (trees (values w).1)) (members_of text f (kept text (further ++ names) (entries (values w).0)))

-- the tree of the struct: the object of these members
abbrev pub rest_tree : {K U M V W : Type 0} → (K → Name) → List Name → List Name → (U → Tree) → (M → List (K × U))
    → (V → List (Option Tree)) → (W → M × V) → W → Tree
rest_tree text names further f entries trees values w = members (rest_members text names further f entries trees values w)

-- at each name that is none of the names, the tree u has the normal form of what t has there
abbrev pub KeepsOthers : List Name → Tree → Tree → Type 0
KeepsOthers names t u = (q : Name) → is_among names q ≡ false → last_in q u ≡ option_map norm (last_in q t)
