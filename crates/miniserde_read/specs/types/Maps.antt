-- The maps that trees mean: objects whose names are read as keys (RFC 8259, section 4).
-- A `Key` is the content of a key. `read` returns the content of the key that a name is read as, and `code` the part of
-- a content that `Eq` compares.
use Rattle.std.specs.Prelude.{List, [], ◌∷◌, Option, Some, None, option_and_then, option_map, IsSome, bytes_eq, ◌≡◌}
use Rattle.std.specs.Prelude.{⊤, if◌then◌else◌, true, false, codes, refl}
use Rattle.miniserde_model.specs.Tree.{Tree, members, Members, no_members, member, null, truth}
use Rattle.miniserde_keys.specs.Keys.{Key}
use Rattle.miniserde_read.specs.types.Objects.{Name, MemberStep, object_of, after_members}
use Rattle.miniserde_read.specs.types.Words.{boolean_of}

-- how the keys K of a map are read and compared; `content` returns the content of a key
pub record KeyMeaning (K : Type 0) : Type 0 where
  pub read : Name → Option Key
  pub code : Key → Key
  pub content : K → Key

-- the meaning of keys that has these parts
abbrev pub key_meaning : {K : Type 0} → (Name → Option Key) → (Key → Key) → (K → Key) → KeyMeaning K
key_meaning read code content = record { read = read; code = code; content = content }

-- ---- what a map's tree means

-- the key, if there is one and its code is q
abbrev pub key_at : (Key → Key) → Key → Option Key → Option Key
key_at code q None = None
key_at code q (Some c) = if bytes_eq (code c) q then Some c else None

-- the result of `first_and_last_at` with one more member in front: the first argument is that member's key, or `None`
-- if the key has another code; t is its tree, and o the result for the other members
abbrev pub first_and_last : Option Key → Tree → Option (Key × Tree) → Option (Key × Tree)
first_and_last None t o = o
first_and_last (Some c) t None = Some (c, t)
first_and_last (Some c) t (Some p) = Some (c, p.1)

-- of the members whose keys have the code q, the first one's key and the last one's tree
abbrev pub first_and_last_at : (Name → Option Key) → (Key → Key) → Key → Members → Option (Key × Tree)
first_and_last_at read code q no_members = None
first_and_last_at read code q (member k t ms) = first_and_last (key_at code q (read k)) t (first_and_last_at read code q ms)

-- each member's name is read as a key, and for its tree `of` returns a content
abbrev pub AllAccepted : {C : Type 0} → (Name → Option Key) → (Tree → Option C) → Members → Type 0
AllAccepted read of no_members = ⊤
AllAccepted read of (member k t ms) = IsSome (read k) × (IsSome (of t) × AllAccepted read of ms)

-- the first entry whose key has the code q, if there is one; `code_of` returns the code of a key's content
abbrev pub entry_at : {K V : Type 0} → (K → Key) → Key → List (K × V) → Option (K × V)
entry_at code_of q [] = None
entry_at code_of q (e ∷ es) = if bytes_eq (code_of e.0) q then Some e else entry_at code_of q es

-- There is an entry exactly if there is a pair of a key's content and a tree; then the entry's key has that content,
-- and the tree means the entry's value by R.
abbrev pub EntryFits : {K V : Type 0} → (K → Key) → (Tree → V → Type 0) → Option (Key × Tree) → Option (K × V) → Type 0
EntryFits content R None None = ⊤
EntryFits content R None (Some e) = ⊥
EntryFits content R (Some p) None = ⊥
EntryFits content R (Some p) (Some e) = (content e.0 ≡ p.0) × R p.1 e.1

-- The tree is an object, of which each member is accepted (`AllAccepted`), with keys by m. At each code q, es has an
-- entry exactly if the object has a member whose key has that code. The entry then has the key of the first such
-- member, and the tree of the last one means its value by R.
abbrev pub MapReads : {K V C : Type 0} → KeyMeaning K → (Tree → Option C) → (Tree → V → Type 0) → Tree → List (K × V)
    → Type 0
MapReads m of R (members ms) es =
    AllAccepted m.read of ms × ((q : Key)
    → EntryFits m.content R (first_and_last_at m.read m.code q ms) (entry_at (λ k. m.code (m.content k)) q es))
MapReads m of R _ es = ⊥

-- ---- maps, member by member

-- the content of a map: for each code, the key and the value's content, if there is an entry
abbrev pub MapContent : Type 0 → Type 0
MapContent C = Key → Option (Key × C)

-- the content of the empty map
abbrev pub no_entries : {C : Type 0} → MapContent C
no_entries q = None

-- the key of the entry, if there is one, and else the key c
abbrev pub present_key_or : {C : Type 0} → Option (Key × C) → Key → Key
present_key_or None c = c
present_key_or (Some e) c = e.0

-- the content m of a map with the value d at the code of the key c; a key that is there with that code stays
abbrev pub with_entry : {C : Type 0} → (Key → Key) → MapContent C → Key → C → MapContent C
with_entry code m c d q = if bytes_eq (code c) q then Some (present_key_or (m q) c, d) else m q

-- the content of a map with the entries es; `content` returns the content of a key, and `value` that of a value
abbrev pub map_content : {K V C : Type 0} → (Key → Key) → (K → Key) → (V → C) → List (K × V) → MapContent C
map_content code content value es q = option_map (λ e. (content e.0, value e.1)) (entry_at (λ k. code (content k)) q es)

-- the content m of a map with one more member, if `read` returns a key for its name k and f a
-- content for its value x, which is a tree or the events of one
abbrev pub map_member : {C X : Type 0} → (Name → Option Key) → (Key → Key) → (X → Option C) → MemberStep (MapContent C) X
map_member read code f m k x = option_and_then (λ c. option_map (with_entry code m c) (f x)) (read k)

-- the content of the map that an object means, by `read` and `code`, and by `of` for the trees of its members
abbrev pub map_of : {C : Type 0} → (Name → Option Key) → (Key → Key) → (Tree → Option C) → Tree → Option (MapContent C)
map_of read code of = object_of (after_members (map_member read code of) no_entries)

-- Worked cases: the map of `{"a":true,"a":false}` has false at "a", and `{"a":null}` is no map of booleans.
pub last_value : option_map (λ m. m (codes "a"))
    (map_of Some (λ k. k) boolean_of
    (members (member (codes "a") (truth true) (member (codes "a") (truth false) no_members))))
    ≡ Some (Some (codes "a", false))
last_value = refl

pub no_boolean : map_of Some (λ k. k) boolean_of (members (member (codes "a") null no_members)) ≡ None
no_boolean = refl
