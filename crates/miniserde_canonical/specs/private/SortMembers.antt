-- How the members of an object that closes are put in order, in the text and in the groups. A text with splices holds
-- its bytes with the text of its group put in at each splice (`Holds`).
use Rattle.std.specs.Prelude.{◌≡◌, ◌≤◌, ◌+◌, ℕ, Bool, true, List, [], ◌∷◌, ◌++◌, length, take, drop, ⊤}
use Rattle.miniserde_model.specs.Tree.{Tree, str}
use Rattle.miniserde_model.specs.Normal.{norm_members}
use Rattle.miniserde_model.specs.Tokens.{comma_before}
use Rattle.miniserde_canonical.specs.declared.spread.Point.{Point}
use Rattle.miniserde_canonical.specs.declared.spread.Splice.{Splice}
use Rattle.miniserde_canonical.specs.declared.spread.SplicedText.{SplicedText}
use Rattle.miniserde_canonical.specs.declared.member.Member.{Member}
use Rattle.miniserde_canonical.specs.private.SplicedTexts.{Holds, text_begin, TextFrom, text_from, FilledPart, AllBefore, SplicesInOrder}
use Rattle.miniserde_canonical.specs.private.MemberNames.{name_of}
use Rattle.miniserde_canonical.specs.private.Members.{begin_of, members_at, without_repeats}
use Rattle.miniserde_canonical.specs.private.States.{MemberEntry, text_before, entry_members, joined_texts, count, once_each}

-- The member n, which stands for the entry e, splits a text at the comma before it, or where it begins if it is the
-- first of its object. B holds of the part before that point, and K of the part from the member on.
pub record Seam (B K : TextFrom → Type 0) (n : Member) (e : MemberEntry) (text : TextFrom) : Type 0 where
  pub before : List ℕ
  pub behind : List ℕ
  pub splices_before : List Splice
  pub splices_behind : List Splice
  pub bytes : text.bytes ≡ before ++ (comma_before e.first ++ behind)
  pub splices : text.splices ≡ splices_before ++ splices_behind
  pub name : name_of n.name ≡ e.name
  pub first : n.first ≡ e.first
  pub begins : n.point.bytes ≡ text.from.bytes + length (before ++ comma_before e.first)
  pub begins_splices : n.point.splices ≡ text.from.splices + length splices_before
  pub is_before : B (text_from text.from before splices_before)
  pub is_behind : K (text_from n.point behind splices_behind)

-- over the groups, the part `text` holds the text before each of the entries es, for which the members ns stand, and
-- then the text `last`
abbrev pub Chain : List Member → List MemberEntry → SplicedText → TextFrom → List ℕ → Type 0
Chain [] [] groups text last = FilledPart groups text last
Chain (n ∷ ns) (e ∷ es) groups text last =
    Seam (λ part. FilledPart groups part e.earlier_text) (λ part. Chain ns es groups part last) n e text
Chain _ _ groups text last = ⊥

-- ---- the members of one object, at the end of a text

-- the text `out` ends with the member n, which stands for the entry e, and those after it; K holds of the part from n on
pub record EndsWithMembersFrom (K : TextFrom → Type 0) (n : Member) (e : MemberEntry) (out : SplicedText) : Type 0 where
  pub before : List ℕ
  pub behind : List ℕ
  pub splices_before : List Splice
  pub splices_behind : List Splice
  pub bytes : out.bytes.items ≡ before ++ behind
  pub splices : out.splices.items ≡ splices_before ++ splices_behind
  pub begins : n.point.bytes ≡ length before
  pub begins_splices : n.point.splices ≡ length splices_before
  pub name : name_of n.name ≡ e.name
  pub is_behind : K (text_from n.point behind splices_behind)

-- over the groups, the text `out` ends with the texts of the entries es, for which the members ns stand, the last one's
-- being `last`; without members it is any text
abbrev pub EndsWithMembers : List Member → List MemberEntry → SplicedText → SplicedText → List ℕ → Type 0
EndsWithMembers [] [] groups out last = ⊤
EndsWithMembers (n ∷ ns) (e ∷ es) groups out last = EndsWithMembersFrom (λ part. Chain ns es groups part last) n e out
EndsWithMembers _ _ groups out last = ⊥

-- the first entry's own text, from its name to before the next comma: the next entry has it as the text before it, and
-- of the last one it is `last`; empty without entries
abbrev pub text_at : List MemberEntry → List ℕ → List ℕ
text_at [] last = []
text_at (e ∷ es) last = text_before es last

-- The tree `str x`, where x is the own text of the entry at the index i, or empty if there is no such entry; `last` is
-- that of the last entry. `members_at` takes a tree for each index: by this one each member has its own text in the
-- place of its tree, and keeps it when members are sorted and duplicates are dropped.
abbrev pub own_text_tree : List MemberEntry → List ℕ → ℕ → Tree
own_text_tree es last i = str (text_at (drop i es) last)

-- ---- what calls do to the groups and the text

-- the point is the end of the text
pub record IsEnd (p : Point) (text : SplicedText) : Type 0 where
  pub bytes : p.bytes ≡ length text.bytes.items
  pub splices : p.splices ≡ length text.splices.items

-- groups' are `groups` with bytes and splices appended that hold the text x over the groups `base`
pub record Appends (base groups groups' : SplicedText) (x : List ℕ) : Type 0 where
  pub bytes : List ℕ
  pub splices : List Splice
  pub bytes_gained : groups'.bytes.items ≡ groups.bytes.items ++ bytes
  pub splices_gained : groups'.splices.items ≡ groups.splices.items ++ splices
  pub text : Holds base.bytes.items base.splices.items (length groups.bytes.items) bytes splices x

-- groups' are `groups` with bytes and splices appended that hold the text x over the groups `base`; if the splices of
-- `out` are all for groups before an index, so are the appended ones
pub record Gains (base out groups groups' : SplicedText) (x : List ℕ) : Type 0 where
  pub appends : Appends base groups groups' x
  pub all_before : (n : ℕ) → AllBefore n out.splices.items → AllBefore n appends.splices

-- the text of a draft, and its groups
pub record Texts : Type 0 where
  pub out : SplicedText
  pub groups : SplicedText

-- the text `out` with the groups
abbrev pub texts : SplicedText → SplicedText → Texts
texts out groups = record { out = out; groups = groups }

-- from the groups of `old` to groups', the text of the member of ns at the index i in the old text is appended, with a
-- comma before it unless f is true
abbrev pub PutsMember : List Member → ℕ → Bool → Texts → SplicedText → Type 0
PutsMember ns i f old groups' = (es : List MemberEntry) (last : List ℕ) (base : SplicedText)
    → EndsWithMembers ns es base old.out last
    → Gains base old.out old.groups groups' (comma_before f ++ text_at (drop i es) last)

-- from the groups of `old` to groups', the texts of the members of ns at the indices in `order` are appended, without
-- those whose name the next one has, and with commas between; n is how many these are
abbrev pub PutsMembers : List Member → List ℕ → Texts → SplicedText → ℕ → Type 0
PutsMembers ns order old groups' n = (es : List MemberEntry) (last : List ℕ) (base : SplicedText)
    → EndsWithMembers ns es base old.out last → Gains base old.out old.groups groups'
    (joined_texts true (without_repeats (members_at ns (own_text_tree es last) order)))
    × (n ≡ count (without_repeats (members_at ns (own_text_tree es last) order)))

-- The text of `new` is that of `old` cut off at the point, with `bytes` and `splices` appended, which hold the text x
-- over the new groups. These are the old groups with more appended. If the splices of the old text were in order over
-- the old groups, those of the new text are over the new ones (`stay_in_order`).
pub record PutAt (point : Point) (old new : Texts) (x : List ℕ) : Type 0 where
  pub bytes : List ℕ
  pub splices : List Splice
  pub bytes_gained : List ℕ
  pub splices_gained : List Splice
  pub is_bytes : new.out.bytes.items ≡ take point.bytes old.out.bytes.items ++ bytes
  pub is_splices : new.out.splices.items ≡ take point.splices old.out.splices.items ++ splices
  pub groups_bytes : new.groups.bytes.items ≡ old.groups.bytes.items ++ bytes_gained
  pub groups_splices : new.groups.splices.items ≡ old.groups.splices.items ++ splices_gained
  pub text : Holds new.groups.bytes.items new.groups.splices.items point.bytes bytes splices x
  pub stay_in_order : SplicesInOrder old.groups.splices.items old.out.splices.items
      → SplicesInOrder new.groups.splices.items new.out.splices.items

-- the text of `new` is that of `old` up to `point`, and then holds the text that the old groups have from the point
-- `from` on, the end of `base`
abbrev pub PutsBack : Point → Point → Texts → Texts → Type 0
PutsBack point from old new = (base : SplicedText) (x : List ℕ) → (a : Appends base base old.groups x) → IsEnd from base
    → point.bytes ≤ length old.out.bytes.items
    → (AllBefore (length base.splices.items) old.out.splices.items → AllBefore (length base.splices.items) a.splices)
    → PutAt point (texts old.out base) new x

-- the text of `new` is that of `old`, which ends with the text of the members ns, with that text in normal form; b says
-- whether no two of their names are equal
abbrev pub SortsMembers : List Member → Texts → Texts → Bool → Type 0
SortsMembers ns old new b = (es : List MemberEntry) (last : List ℕ) → EndsWithMembers ns es old.groups old.out last
    → PutAt (begin_of ns text_begin) old new
    (joined_texts true (norm_members (entry_members es last))) × (b ≡ once_each (entry_members es last))
