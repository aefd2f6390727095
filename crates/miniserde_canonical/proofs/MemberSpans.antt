-- The span of each member of an object holds its text. By recursion over the index: `own_tail` removes the first
-- member until `own_first` reads the span of the member asked for.
use Rattle.std.proofs.Common.{◌≡◌, ◌≤◌, ◌-◌, ◌+◌, ℕ, zero, suc, List, [], ◌∷◌, ◌++◌, length, drop, refl, sym, ap}
use Rattle.std.proofs.Common.{◌∙◌, append_assoc, arith, length-append}
use Rattle.std.proofs.lemmas.List.{drop_all}
use Rattle.miniserde_model.specs.Tokens.{comma_before}
use Rattle.miniserde_canonical.specs.declared.spread.Point.{Point}
use Rattle.miniserde_canonical.specs.declared.spread.SplicedText.{SplicedText}
use Rattle.miniserde_canonical.specs.declared.member.Member.{Member}
use Rattle.miniserde_canonical.specs.private.SplicedTexts.{part_between, Holds, none, text_begin, TextFrom, text_from}
use Rattle.miniserde_canonical.specs.private.Members.{begin_of, before_comma, end_of}
use Rattle.miniserde_canonical.specs.private.States.{MemberEntry, text_before}
use Rattle.miniserde_canonical.specs.private.SortMembers.{Seam, Chain, EndsWithMembersFrom, EndsWithMembers, IsEnd, text_at}
use Rattle.miniserde_canonical.proofs.SplicedTexts.{between_end, between_mid, between_none}
use Rattle.miniserde_canonical.proofs.MemberLists.{Agree}

-- over the groups, the text `out` holds x from a point to another
abbrev pub HoldsBetween : SplicedText → SplicedText → Point → Point → List ℕ → Type 0
HoldsBetween groups out a b x =
    ((a.bytes ≤ b.bytes) × (b.bytes ≤ length out.bytes.items) × (a.splices ≤ b.splices) × (b.splices ≤ length out.splices.items))
    × Holds groups.bytes.items groups.splices.items a.bytes (part_between a.bytes b.bytes out.bytes.items)
    (part_between a.splices b.splices out.splices.items) x

own_first : {n : Member} (ns : List Member) {e : MemberEntry} (es : List MemberEntry) (groups : SplicedText) {out : SplicedText}
    (last : List ℕ) (end : Point) → IsEnd end out → EndsWithMembers (n ∷ ns) (e ∷ es) groups out last
    → HoldsBetween groups out n.point (before_comma ns end) (text_before es last)
own_first {n = n} [] {e = e} [] groups {out = out} last end i o =
    let long = ap length o.bytes ∙ length-append o.before o.behind in
    let many = ap length o.splices ∙ length-append o.splices_before o.splices_behind in
    let bytes = between_end n.point.bytes end.bytes o.before o.bytes o.begins i.bytes in
    let splices = between_end n.point.splices end.splices o.splices_before o.splices o.begins_splices i.splices in (
      (
        omega (arith, i.bytes, o.begins, long),
        omega (arith, i.bytes),
        omega (arith, i.splices, o.begins_splices, many),
        omega (arith, i.splices),
      ),
      rw (bytes, splices) o.is_behind,
    )
own_first {n = n} (m ∷ ns) {e = e} (f ∷ es) groups {out = out} last end i o =
    let bs = out.bytes.items in
    let hs = out.splices.items in
    let r = o.is_behind in
    let text : bs ≡ o.before ++ (r.before ++ (comma_before f.first ++ r.behind)) = o.bytes ∙ ap (λ z. o.before ++ z) r.bytes in
    let splices : hs ≡ o.splices_before ++ (r.splices_before ++ r.splices_behind) = o.splices ∙ ap (λ z. o.splices_before ++ z) r.splices in
    let comma : length (comma_before m.first) ≡ length (comma_before f.first) = ap (λ z. length (comma_before z)) r.first in
    let wide : m.point.bytes - length (comma_before m.first) ≡ n.point.bytes + length r.before =
    omega (arith, r.begins, length-append r.before (comma_before f.first), comma) in
    let long = ap length text ∙ length-append o.before (r.before ++ (comma_before f.first ++ r.behind)) in
    let more = length-append r.before (comma_before f.first ++ r.behind) in
    let many = ap length splices ∙ length-append o.splices_before (r.splices_before ++ r.splices_behind) in
    let own = between_mid n.point.bytes (m.point.bytes - length (comma_before m.first)) o.before _ text o.begins wide in
    let own_splices = between_mid n.point.splices m.point.splices o.splices_before _ splices o.begins_splices r.begins_splices in (
      (
        omega (arith, wide),
        omega (arith, wide, o.begins, long, more),
        omega (arith, r.begins_splices),
        omega (arith, r.begins_splices, o.begins_splices, many, length-append r.splices_before r.splices_behind),
      ),
      rw (own, own_splices) r.is_before,
    )
own_first [] (f ∷ es) groups last end i o = absurd o.is_behind
own_first (m ∷ ns) [] groups last end i o = absurd o.is_behind

own_tail : {n : Member} (ns : List Member) {e : MemberEntry} (es : List MemberEntry) (groups : SplicedText) {out : SplicedText}
    (last : List ℕ) → EndsWithMembers (n ∷ ns) (e ∷ es) groups out last → EndsWithMembers ns es groups out last
own_tail [] [] groups last o = tt
own_tail (m ∷ ns) (f ∷ es) groups last o =
    let r = o.is_behind in
    let before = o.before ++ (r.before ++ comma_before f.first) in
    let joined = sym (append_assoc o.splices_before r.splices_before r.splices_behind) in
    record {
      before = before;
      behind = r.behind;
      splices_before = o.splices_before ++ r.splices_before;
      splices_behind = r.splices_behind;
      bytes = o.bytes ∙ ap (λ z. o.before ++ z) r.bytes ∙ rejoin o.before r.before (comma_before f.first) r.behind;
      splices = o.splices ∙ ap (λ z. o.splices_before ++ z) r.splices ∙ joined;
      begins = omega (arith, r.begins, o.begins, length-append o.before (r.before ++ comma_before f.first));
      begins_splices = omega (arith, r.begins_splices, o.begins_splices, length-append o.splices_before r.splices_before);
      name = r.name;
      is_behind = r.is_behind;
    }
  where
    rejoin : (a b x c : List ℕ) → a ++ (b ++ (x ++ c)) ≡ (a ++ (b ++ x)) ++ c
    rejoin a b x c = simp append_assoc refl
own_tail [] (f ∷ es) groups last o = absurd o.is_behind
own_tail (m ∷ ns) [] groups last o = absurd o.is_behind

own_none : (ns : List Member) (es : List MemberEntry) (groups : SplicedText) {out : SplicedText} (last : List ℕ) {end : Point}
    → IsEnd end out → ns ≡ [] → es ≡ [] → HoldsBetween groups out (begin_of ns end) (end_of ns end) (text_at es last)
own_none [] [] groups {out = out} last {end = end} i e f =
    let bytes = between_none end.bytes end.bytes out.bytes.items (omega arith) in
    let splices = between_none end.splices end.splices out.splices.items (omega arith) in
    ((omega arith, omega (arith, i.bytes), omega arith, omega (arith, i.splices)), rw (bytes, splices) none)
own_none (n ∷ ns) es groups last i e f = absurd (omega (arith, ap length e))
own_none [] (x ∷ es) groups last i e f = absurd (omega (arith, ap length f))

-- the span of the member at the index i holds the text of the entry at i
pub own_span : (i : ℕ) (ns : List Member) (es : List MemberEntry) (groups : SplicedText) {out : SplicedText} (last : List ℕ)
    {end : Point} → IsEnd end out → EndsWithMembers ns es groups out last
    → HoldsBetween groups out (begin_of (drop i ns) end) (end_of (drop i ns) end) (text_at (drop i es) last)
own_span i [] [] groups last p o =
    own_none (drop i []) (drop i []) groups last p (drop_all {X = Member} i [] (omega arith))
    (drop_all {X = MemberEntry} i [] (omega arith))
own_span zero (n ∷ ns) (e ∷ es) groups last {end = end} p o = own_first ns es groups last end p o
own_span (suc i) (n ∷ ns) (e ∷ es) groups last p o = own_span i ns es groups last p (own_tail ns es groups last o)
own_span i [] (e ∷ es) groups last p o = absurd o
own_span i (n ∷ ns) [] groups last p o = absurd o

-- ---- names

-- the members of a chain agree with its entries
pub chain_agrees : (ns : List Member) (es : List MemberEntry) (groups : SplicedText) (text : TextFrom) (last : List ℕ)
    → Chain ns es groups text last → Agree ns es
chain_agrees [] [] groups text last h = tt
chain_agrees (n ∷ ns) (e ∷ es) groups text last h =
    (h.name, chain_agrees ns es groups (text_from n.point h.behind h.splices_behind) last h.is_behind)
chain_agrees [] (e ∷ es) groups text last h = absurd h
chain_agrees (n ∷ ns) [] groups text last h = absurd h

-- the members with whose texts a text ends agree with their entries
pub own_agrees : (ns : List Member) (es : List MemberEntry) (groups out : SplicedText) (last : List ℕ)
    → EndsWithMembers ns es groups out last → Agree ns es
own_agrees [] [] groups out last o = tt
own_agrees (n ∷ ns) (e ∷ es) groups out last o =
    (o.name, chain_agrees ns es groups (text_from n.point o.behind o.splices_behind) last o.is_behind)
own_agrees [] (e ∷ es) groups out last o = absurd o
own_agrees (n ∷ ns) [] groups out last o = absurd o

-- what is cut off a chain begins with a member
pub cut_own : {B K : TextFrom → Type 0} (n : Member) (e : MemberEntry) (out : SplicedText)
    → Seam B K n e (text_from text_begin out.bytes.items out.splices.items) → EndsWithMembersFrom K n e out
cut_own n e out c =
    record {
      before = c.before ++ comma_before e.first;
      behind = c.behind;
      splices_before = c.splices_before;
      splices_behind = c.splices_behind;
      bytes = c.bytes ∙ sym (append_assoc c.before (comma_before e.first) c.behind);
      splices = c.splices;
      begins = omega (arith, c.begins);
      begins_splices = omega (arith, c.begins_splices);
      name = c.name;
      is_behind = c.is_behind;
    }
