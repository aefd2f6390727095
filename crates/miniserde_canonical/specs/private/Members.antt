-- The members of an open object: their names, where they begin and end in a text, and their order by name.
use Rattle.std.specs.Prelude.{◌≡◌, ◌<◌, ◌+◌, ◌-◌, ℕ, Bool, false, List, [], ◌∷◌, drop, length, bytes_eq, get_or, if◌then◌else◌}
use Rattle.std.specs.declared.cmp.Ordering.TheVariants.{Less}
use Rattle.miniserde_model.specs.Tree.{Tree, Members, no_members, member}
use Rattle.miniserde_model.specs.Normal.{text_cmp}
use Rattle.miniserde_model.specs.Tokens.{comma_before}
use Rattle.miniserde_canonical.specs.declared.spread.Point.{Point}
use Rattle.miniserde_canonical.specs.declared.member.Member.{Member}
use Rattle.miniserde_canonical.specs.private.MemberNames.{name_of}

-- the name of the first of the members, or the empty text if there is none
abbrev pub first_name : List Member → List ℕ
first_name [] = []
first_name (m ∷ ms) = name_of m.name

-- the name of the member at the index i, or the empty text if there is none
abbrev pub name_in : List Member → ℕ → List ℕ
name_in ms i = first_name (drop i ms)

-- the name of each member is below the name of the next one, by their bytes; d is what `get_or` returns out of range,
-- which no k reaches
abbrev pub NamesRise : List Member → Type 0
NamesRise ms = (k : ℕ) (d : Member) → k + 1 < length ms
    → text_cmp (name_of (get_or ms k d).name) (name_of (get_or ms (k + 1) d).name) ≡ Less

-- ---- where a member begins and ends

-- the point at which the first of the members begins, or `end` if there is none
abbrev pub begin_of : List Member → Point → Point
begin_of [] end = end
begin_of (m ∷ ms) end = m.point

-- the point before the comma of the first of the members, or `end` if there is none
abbrev pub before_comma : List Member → Point → Point
before_comma [] end = end
before_comma (m ∷ ms) end = record { bytes = m.point.bytes - length (comma_before m.first); splices = m.point.splices }

-- the point at which the first of the members ends: before the next one's comma, or at `end`
abbrev pub end_of : List Member → Point → Point
end_of [] end = end
end_of (m ∷ ms) end = before_comma ms end

-- ---- members by name

-- the list xs as members: n returns the name of each, and r its tree
abbrev pub named_members : {X : Type 0} → (X → List ℕ) → (X → Tree) → List X → Members
named_members n r [] = no_members
named_members n r (x ∷ xs) = member (n x) (r x) (named_members n r xs)

-- the members at the indices in `order`, in that order: each has its name in ms, and the tree that r returns for its
-- index
abbrev pub members_at : List Member → (ℕ → Tree) → List ℕ → Members
members_at ms r order = named_members (name_in ms) r order

-- whether the first of the members has the name n
abbrev pub begins_with_name : List ℕ → Members → Bool
begins_with_name n no_members = false
begins_with_name n (member m t ms) = bytes_eq n m

-- the members without each one whose name the next one has too
abbrev pub without_repeats : Members → Members
without_repeats no_members = no_members
without_repeats (member n t ms) = if begins_with_name n ms then without_repeats ms else member n t (without_repeats ms)
