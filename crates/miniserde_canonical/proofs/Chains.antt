-- The text of a draft, cut before each member, is a chain of the members' texts, and each step of a draft keeps the
-- chain. By induction over the members: the seam before a member has its comma, its point and its name.
use Rattle.std.proofs.Common.{◌≡◌, ◌+◌, ℕ, zero, suc, List, [], ◌∷◌, ◌++◌, length, take, drop, refl, sym, ap, subst, ◌∙◌}
use Rattle.std.proofs.Common.{append_assoc, append-nil, arith, length-append}
use Rattle.miniserde_model.specs.Tokens.{comma_before}
use Rattle.miniserde_canonical.specs.declared.spread.Point.{Point}
use Rattle.miniserde_canonical.specs.declared.spread.Splice.{Splice}
use Rattle.miniserde_canonical.specs.declared.spread.SplicedText.{SplicedText}
use Rattle.miniserde_canonical.specs.declared.member.Member.{Member}
use Rattle.miniserde_canonical.specs.private.SplicedTexts.{Holds, none, TextFrom, text_from, FilledPart}
use Rattle.miniserde_canonical.specs.private.MemberNames.{name_of}
use Rattle.miniserde_canonical.specs.private.States.{MemberEntry, entries_text}
use Rattle.miniserde_canonical.specs.private.SortMembers.{Seam, Chain}
use Rattle.miniserde_canonical.proofs.SplicedTexts.{holds_append, holds_behind, holds_more}

-- the point at the end of a part
abbrev pub part_end : TextFrom → Point
part_end text = record { bytes = text.from.bytes + length text.bytes; splices = text.from.splices + length text.splices }

-- the part with more bytes and splices behind it
abbrev pub longer : TextFrom → List ℕ → List Splice → TextFrom
longer text cs ks = text_from text.from (text.bytes ++ cs) (text.splices ++ ks)

-- a part that begins at a seam ends where the whole ends
seam_end : {B K : TextFrom → Type 0} (n : Member) (e : MemberEntry) (text : TextFrom) (s : Seam B K n e text)
    → (text.from.bytes + length text.bytes ≡ n.point.bytes + length s.behind)
    × (text.from.splices + length text.splices ≡ n.point.splices + length s.splices_behind)
seam_end n e text s = (
  omega (
    arith,
    s.begins,
    ap length s.bytes,
    length-append s.before (comma_before e.first ++ s.behind),
    length-append (comma_before e.first) s.behind,
    length-append s.before (comma_before e.first),
  ),
  omega (arith, s.begins_splices, ap length s.splices, length-append s.splices_before s.splices_behind),
)

-- the same seam, of whose parts other things hold
seam_as : {B C K L : TextFrom → Type 0} (n : Member) (e : MemberEntry) (text : TextFrom) (s : Seam B K n e text)
    → C (text_from text.from s.before s.splices_before) → L (text_from n.point s.behind s.splices_behind) → Seam C L n e text
seam_as n e text s b c = record {
  before = s.before;
  behind = s.behind;
  splices_before = s.splices_before;
  splices_behind = s.splices_behind;
  bytes = s.bytes;
  splices = s.splices;
  name = s.name;
  first = s.first;
  begins = s.begins;
  begins_splices = s.begins_splices;
  is_before = b;
  is_behind = c;
}

-- more behind a seam
seam_more : {B K L : TextFrom → Type 0} (n : Member) (e : MemberEntry) (text : TextFrom) (cs : List ℕ) (ks : List Splice)
    (s : Seam B K n e text) → L (longer (text_from n.point s.behind s.splices_behind) cs ks) → Seam B L n e (longer text cs ks)
seam_more n e text cs ks s c = record {
  before = s.before;
  behind = s.behind ++ cs;
  splices_before = s.splices_before;
  splices_behind = s.splices_behind ++ ks;
  bytes = ap (λ z. z ++ cs) s.bytes ∙ rejoin s.before (comma_before e.first) s.behind cs;
  splices = ap (λ z. z ++ ks) s.splices ∙ append_assoc s.splices_before s.splices_behind ks;
  name = s.name;
  first = s.first;
  begins = s.begins;
  begins_splices = s.begins_splices;
  is_before = s.is_before;
  is_behind = c;
}
  where
    rejoin : (b x c y : List ℕ) → (b ++ (x ++ c)) ++ y ≡ b ++ (x ++ (c ++ y))
    rejoin b x c y = simp append_assoc refl

-- a chain has as many members as entries
pub chain_lengths : (ns : List Member) (es : List MemberEntry) (groups : SplicedText) (text : TextFrom) (last : List ℕ)
    → Chain ns es groups text last → length ns ≡ length es
chain_lengths [] [] groups text last h = refl
chain_lengths (n ∷ ns) (e ∷ es) groups text last h =
    ap suc (chain_lengths ns es groups (text_from n.point h.behind h.splices_behind) last h.is_behind)
chain_lengths [] (e ∷ es) groups text last h = absurd h
chain_lengths (n ∷ ns) [] groups text last h = absurd h

-- more text behind the last member
pub chain_add : (ns : List Member) (es : List MemberEntry) (groups : SplicedText) (text : TextFrom) (last : List ℕ)
    {cs : List ℕ} {ks : List Splice} {y : List ℕ} → Chain ns es groups text last → FilledPart groups (text_from (part_end text) cs ks) y
    → Chain ns es groups (longer text cs ks) (last ++ y)
chain_add [] [] groups text last {cs = cs} {ks = ks} {y = y} h u = holds_append (text.from.bytes + length text.bytes) cs ks y h refl u
chain_add (n ∷ ns) (e ∷ es) groups text last {cs = cs} {ks = ks} {y = y} h u =
    seam_more n e text cs ks h
    (chain_add ns es groups (text_from n.point h.behind h.splices_behind) last h.is_behind
    (subst (λ z. Holds groups.bytes.items groups.splices.items z cs ks y) (seam_end n e text h).0 u))
chain_add [] (e ∷ es) groups text last h u = absurd h
chain_add (n ∷ ns) [] groups text last h u = absurd h

-- groups' are the groups, with more of them or not
pub record GroupsStay (groups groups' : SplicedText) : Type 0 where
  pub more : List ℕ
  pub inner : List Splice
  pub bytes : groups'.bytes.items ≡ groups.bytes.items ++ more
  pub splices : groups'.splices.items ≡ groups.splices.items ++ inner

-- groups with equal bytes and splices
pub groups_same : {groups groups' : SplicedText} → groups'.bytes.items ≡ groups.bytes.items
    → groups'.splices.items ≡ groups.splices.items → GroupsStay groups groups'
groups_same {groups = groups} e f = record {
  more = [];
  inner = [];
  bytes = e ∙ sym (append-nil groups.bytes.items);
  splices = f ∙ sym (append-nil groups.splices.items);
}

part_stays : {groups groups' : SplicedText} (text : TextFrom) (x : List ℕ) → GroupsStay groups groups' → FilledPart groups text x
    → FilledPart groups' text x
part_stays {groups = groups} {groups' = groups'} text x g h =
    subst (λ z. Holds z groups'.splices.items text.from.bytes text.bytes text.splices x) (sym g.bytes)
    (subst (λ z. Holds (groups.bytes.items ++ g.more) z text.from.bytes text.bytes text.splices x) (sym g.splices)
    (holds_more g.more g.inner h))

-- a chain over the groups is one over more groups
pub chain_stays : (ns : List Member) (es : List MemberEntry) {groups groups' : SplicedText} (text : TextFrom) (last : List ℕ)
    → GroupsStay groups groups' → Chain ns es groups text last → Chain ns es groups' text last
chain_stays [] [] text last g h = part_stays text last g h
chain_stays (n ∷ ns) (e ∷ es) text last g h =
    seam_as n e text h (part_stays (text_from text.from h.before h.splices_before) e.earlier_text g h.is_before)
    (chain_stays ns es (text_from n.point h.behind h.splices_behind) last g h.is_behind)
chain_stays [] (e ∷ es) text last g h = absurd h
chain_stays (n ∷ ns) [] text last g h = absurd h

-- the member n stands for the entry e, and begins after the part and a comma
pub record BeginsBehind (n : Member) (e : MemberEntry) (text : TextFrom) : Type 0 where
  pub name : name_of n.name ≡ e.name
  pub first : n.first ≡ e.first
  pub bytes : n.point.bytes ≡ text.from.bytes + length (text.bytes ++ comma_before e.first)
  pub splices : n.point.splices ≡ text.from.splices + length text.splices

-- one more member
pub chain_begin : (ns : List Member) (es : List MemberEntry) (groups : SplicedText) (text : TextFrom) {n : Member}
    {e : MemberEntry} → Chain ns es groups text e.earlier_text → BeginsBehind n e text
    → Chain (ns ++ n ∷ []) (es ++ e ∷ []) groups (text_from text.from (text.bytes ++ comma_before e.first) text.splices) []
chain_begin [] [] groups text {e = e} h b = record {
  before = text.bytes;
  behind = [];
  splices_before = text.splices;
  splices_behind = [];
  bytes = ap (λ z. text.bytes ++ z) (sym (append-nil (comma_before e.first)));
  splices = sym (append-nil text.splices);
  name = b.name;
  first = b.first;
  begins = b.bytes;
  begins_splices = b.splices;
  is_before = h;
  is_behind = none;
}
chain_begin (m ∷ ns) (f ∷ es) groups text {n = n} {e = e} h b =
    let x = comma_before e.first in
    let far = seam_end m f text h in
    let here : n.point.bytes ≡ m.point.bytes + length (h.behind ++ x) =
    omega (arith, b.bytes, far.0, length-append text.bytes x, length-append h.behind x) in
    let rest = chain_begin ns es groups (text_from m.point h.behind h.splices_behind) {n = n} {e = e} h.is_behind
    (record { name = b.name; first = b.first; bytes = here; splices = omega (arith, b.splices, far.1) }) in
    subst (λ z. Chain (m ∷ (ns ++ n ∷ [])) (f ∷ (es ++ e ∷ [])) groups (text_from text.from (text.bytes ++ x) z) [])
    (append-nil text.splices)
    (seam_more m f text x [] h
    (subst (λ z. Chain (ns ++ n ∷ []) (es ++ e ∷ []) groups (text_from m.point (h.behind ++ x) z) [])
    (sym (append-nil h.splices_behind)) rest))
chain_begin [] (f ∷ es) groups text h b = absurd h
chain_begin (m ∷ ns) [] groups text h b = absurd h

-- the text of all
pub chain_whole : (ns : List Member) (es : List MemberEntry) (groups : SplicedText) (text : TextFrom) (last : List ℕ)
    → Chain ns es groups text last → FilledPart groups text (entries_text es last)
chain_whole [] [] groups text last h = h
chain_whole (n ∷ ns) (e ∷ es) groups text last h =
    let ms = groups.bytes.items in
    let gs = groups.splices.items in
    let at = text.from.bytes in
    let x = comma_before e.first in
    let rest = chain_whole ns es groups (text_from n.point h.behind h.splices_behind) last h.is_behind in
    let to = at + length h.before in
    let far : n.point.bytes ≡ to + length x = omega (arith, h.begins, length-append h.before x) in
    let behind : Holds ms gs to (x ++ h.behind) h.splices_behind (x ++ entries_text es last) =
    holds_behind to n.point.bytes x far rest in
    let all : Holds ms gs at (h.before ++ (x ++ h.behind)) (h.splices_before ++ h.splices_behind)
    (e.earlier_text ++ (x ++ entries_text es last)) =
    holds_append to (x ++ h.behind) h.splices_behind (x ++ entries_text es last) h.is_before refl behind in
    subst (λ z. Holds ms gs at z text.splices (e.earlier_text ++ (x ++ entries_text es last))) (sym h.bytes)
    (subst (λ z. Holds ms gs at (h.before ++ (x ++ h.behind)) z (e.earlier_text ++ (x ++ entries_text es last)))
    (sym h.splices) all)
chain_whole [] (e ∷ es) groups text last h = absurd h
chain_whole (n ∷ ns) [] groups text last h = absurd h

-- a chain of the members before the index f alone, the last of which has the text of the others behind its own
pub chain_merge : (f : ℕ) (ns : List Member) (es : List MemberEntry) (groups : SplicedText) (text : TextFrom) (last : List ℕ)
    → Chain ns es groups text last → Chain (take f ns) (take f es) groups text (entries_text (drop f es) last)
chain_merge zero ns es groups text last h = chain_whole ns es groups text last h
chain_merge (suc f) [] [] groups text last h = h
chain_merge (suc f) (n ∷ ns) (e ∷ es) groups text last h =
    seam_as n e text h h.is_before
    (chain_merge f ns es groups (text_from n.point h.behind h.splices_behind) last h.is_behind)
chain_merge (suc f) [] (e ∷ es) groups text last h = absurd h
chain_merge (suc f) (n ∷ ns) [] groups text last h = absurd h

-- the member n of ns and the entry e of es are the ones at the index f
pub record BothAt (f : ℕ) (ns : List Member) (es : List MemberEntry) (n : Member) (e : MemberEntry) : Type 0 where
  pub members_behind : List Member
  pub entries_behind : List MemberEntry
  pub members : drop f ns ≡ n ∷ members_behind
  pub entries : drop f es ≡ e ∷ entries_behind

-- a chain is cut before the member n, which stands for the entry e
pub chain_cut : {f : ℕ} {ns : List Member} {es : List MemberEntry} {n : Member} {e : MemberEntry} (groups : SplicedText)
    (text : TextFrom) (last : List ℕ) (b : BothAt f ns es n e) → Chain ns es groups text last
    → Seam (λ part. Chain (take f ns) (take f es) groups part e.earlier_text)
    (λ part. Chain b.members_behind b.entries_behind groups part last) n e text
chain_cut {f = zero} {es = es} {n = n} groups text last b h =
    subst (λ z. Chain (n ∷ b.members_behind) z groups text last) b.entries (subst (λ z. Chain z es groups text last) b.members h)
chain_cut {f = suc f} {ns = m ∷ ns} {es = d ∷ es} {e = e} groups text last b h =
    let r = chain_cut {f = f} {ns = ns} {es = es} {e = e} groups (text_from m.point h.behind h.splices_behind) last
    (record {
      members_behind = b.members_behind;
      entries_behind = b.entries_behind;
      members = b.members;
      entries = b.entries;
    })
    h.is_behind in
    let x = comma_before d.first in
    let y = comma_before e.first in
    let front = h.before ++ (x ++ r.before) in
    record {
      before = front;
      behind = r.behind;
      splices_before = h.splices_before ++ r.splices_before;
      splices_behind = r.splices_behind;
      bytes = h.bytes ∙ ap (λ z. h.before ++ (x ++ z)) r.bytes ∙ rejoin h.before x r.before (y ++ r.behind);
      splices = h.splices ∙ ap (λ z. h.splices_before ++ z) r.splices
          ∙ sym (append_assoc h.splices_before r.splices_before r.splices_behind);
      name = r.name;
      first = r.first;
      begins = omega (
        arith,
        r.begins,
        h.begins,
        length-append h.before x,
        length-append r.before y,
        length-append front y,
        length-append h.before (x ++ r.before),
        length-append x r.before,
      );
      begins_splices = omega (arith, r.begins_splices, h.begins_splices, length-append h.splices_before r.splices_before);
      is_before = record {
        before = h.before;
        behind = r.before;
        splices_before = h.splices_before;
        splices_behind = r.splices_before;
        bytes = refl;
        splices = refl;
        name = h.name;
        first = h.first;
        begins = h.begins;
        begins_splices = h.begins_splices;
        is_before = h.is_before;
        is_behind = r.is_before;
      };
      is_behind = r.is_behind;
    }
  where
    rejoin : (a x b y : List ℕ) → a ++ (x ++ (b ++ y)) ≡ (a ++ (x ++ b)) ++ y
    rejoin a x b y = simp append_assoc refl
chain_cut {f = suc f} {ns = []} groups text last b h = absurd (omega (arith, ap length b.members))
chain_cut {f = suc f} {ns = m ∷ ns} {es = []} groups text last b h = absurd h
