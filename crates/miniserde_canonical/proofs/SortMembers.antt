-- `sort_members` puts the members of an object in the order of their names, each name once. `put_members` has the
-- members put so far as its invariant (`PutsSoFar`), and `put_back` has two cases: a short text or a splice.
use Rattle.std.proofs.Common.{◌≡◌, ◌≤◌, ◌<◌, ◌+◌, ℕ, suc, Bool, true, false, nat_eq, List, [], ◌∷◌, ◌++◌, map}
use Rattle.std.proofs.Common.{length, take, drop, get_or, refl, sym, ap, ap₂, subst, ◌∙◌, append_assoc, append-nil}
use Rattle.std.proofs.Common.{arith, length-append}
use Rattle.std.proofs.Math.Seq.{take-append_seam}
use Rattle.std.proofs.lemmas.Bool.Decides.{nat_tests}
use Rattle.miniserde_model.specs.Tree.{Tree}
use Rattle.miniserde_model.specs.Normal.{norm_members}
use Rattle.miniserde_model.specs.Tokens.{comma_before}
use Rattle.miniserde_canonical.specs.declared.spread.Point.{Point}
use Rattle.miniserde_canonical.specs.declared.spread.Span.{Span}
use Rattle.miniserde_canonical.specs.declared.spread.Splice.{Splice}
use Rattle.miniserde_canonical.specs.declared.spread.SplicedText.{SplicedText}
use Rattle.miniserde_canonical.specs.declared.member.Member.{Member}
use Rattle.miniserde_canonical.specs.private.SplicedTexts.{Within, bytes_in, splices_in, shifted_splice, Holds, none, text_begin}
use Rattle.miniserde_canonical.specs.private.SplicedTexts.{Ordered, AllBefore}
use Rattle.miniserde_canonical.specs.private.Members.{name_in, begin_of, end_of, members_at, begins_with_name, without_repeats}
use Rattle.miniserde_canonical.specs.private.States.{MemberEntry, entry_members, joined_texts, count}
use Rattle.miniserde_canonical.specs.private.SortMembers.{EndsWithMembers, text_at, own_text_tree, IsEnd, Gains, PutsMember}
use Rattle.miniserde_canonical.specs.private.SortMembers.{PutsMembers, Texts, texts, PutAt, PutsBack, SortsMembers}
use Rattle.miniserde_canonical.proofs.SplicedTexts.{between_end, between_none, holds_plain, plain_text, holds_append}
use Rattle.miniserde_canonical.proofs.SplicedTexts.{holds_behind, holds_moved, group_holds, splice_holds, all_more}
use Rattle.miniserde_canonical.proofs.SplicedTexts.{all_append, all_take, all_between, all_moved, ordered_gains}
use Rattle.miniserde_canonical.proofs.MemberLists.{kept_skip, kept_take, InNameOrder, kept_normal, ended_count}
use Rattle.miniserde_canonical.proofs.MemberSpans.{HoldsBetween, own_span, own_agrees}

-- ---- one member

-- from `old` to `new` the span p of `text` is appended
pub record AppendsSpan (text : SplicedText) (p : Span) (old new : SplicedText) : Type 0 where
  pub bytes : Within p text.bytes.items text.splices.items
      → new.bytes.items ≡ old.bytes.items ++ bytes_in p text.bytes.items
  pub splices : Within p text.bytes.items text.splices.items → new.splices.items ≡ old.splices.items
      ++ map (shifted_splice p.from.bytes (length old.bytes.items)) (splices_in p text.splices.items)

-- p is the span of the member of ns at the index i, in the text `out`
pub record IsSpanOf (p : Span) (ns : List Member) (i : ℕ) (out : SplicedText) : Type 0 where
  pub end : Point
  pub is_end : IsEnd end out
  pub from : p.from ≡ begin_of (drop i ns) end
  pub to : p.to ≡ end_of (drop i ns) end

-- if a comma (unless f is true) and the span of the member at i are appended, the groups gain that member
pub gains_member : {groups mid groups' out : SplicedText} {ns : List Member} {i : ℕ} {p : Span} (f : Bool)
    → mid.bytes.items ≡ groups.bytes.items ++ comma_before f → mid.splices.items ≡ groups.splices.items
    → IsSpanOf p ns i out → AppendsSpan out p mid groups' → PutsMember ns i f (texts out groups) groups'
gains_member {groups = groups} {mid = mid} {out = out} {ns = ns} {i = i} {p = p} f e g o a = λ es last base own.
    let ms = base.bytes.items in
    let gs = base.splices.items in
    let hs = out.splices.items in
    let x = text_at (drop i es) last in
    let s : HoldsBetween base out p.from p.to x =
    subst (λ z. HoldsBetween base out z p.to x) (sym o.from)
    (subst (λ z. HoldsBetween base out (begin_of (drop i ns) o.end) z x) (sym o.to)
    (own_span i ns es base last o.is_end own)) in
    let to = length mid.bytes.items in
    let far : to ≡ length groups.bytes.items + length (comma_before f) = ap length e ∙ length-append groups.bytes.items (comma_before f) in
    let inner = map (shifted_splice p.from.bytes to) (splices_in p hs) in
    record {
      appends = record {
        bytes = comma_before f ++ bytes_in p out.bytes.items;
        splices = inner;
        bytes_gained = a.bytes s.0 ∙ ap (λ z. z ++ bytes_in p out.bytes.items) e ∙ append_assoc groups.bytes.items
            (comma_before f) (bytes_in p out.bytes.items);
        splices_gained = a.splices s.0 ∙ ap (λ z. z ++ inner) g;
        text = holds_behind (length groups.bytes.items) to (comma_before f) far
            (holds_moved p.from.bytes to to (omega arith) (omega arith) s.1);
      };
      all_before = λ n h. all_moved n p.from.bytes to (splices_in p hs) (all_between n p.from.splices p.to.splices hs h);
    }

gains_none : (base out groups : SplicedText) → Gains base out groups groups []
gains_none base out groups =
    record {
      appends = record {
        bytes = [];
        splices = [];
        bytes_gained = sym (append-nil groups.bytes.items);
        splices_gained =
            sym (append-nil groups.splices.items);
        text = none;
      };
      all_before = λ n h. tt;
    }

gains_append : {base out a b c : SplicedText} {x y : List ℕ} → Gains base out a b x → Gains base out b c y
    → Gains base out a c (x ++ y)
gains_append {a = a} {b = b} {y = y} g h =
    let p = g.appends in
    let q = h.appends in
    record {
      appends = record {
        bytes = p.bytes ++ q.bytes;
        splices = p.splices ++ q.splices;
        bytes_gained = q.bytes_gained ∙ ap (λ z. z ++ q.bytes) p.bytes_gained ∙ append_assoc a.bytes.items p.bytes q.bytes;
        splices_gained = q.splices_gained ∙ ap (λ z. z ++ q.splices) p.splices_gained
            ∙ append_assoc a.splices.items p.splices q.splices;
        text = holds_append (length b.bytes.items) q.bytes q.splices y p.text
            (ap length p.bytes_gained ∙ length-append a.bytes.items p.bytes) q.text;
      };
      all_before = λ n i. all_append n p.splices q.splices (g.all_before n i) (h.all_before n i);
    }

-- ---- all members

-- behind k members of the order, of which some were put
pub record PutsSoFar (ns : List Member) (order : List ℕ) (out groups groups' : SplicedText) (k n : ℕ) : Type 0 where
  pub so_far : (es : List MemberEntry) (last : List ℕ) (base : SplicedText) → EndsWithMembers ns es base out last
      → (x : List ℕ) × Gains base out groups groups' x
      × (x ++ joined_texts (nat_eq n 0) (without_repeats (members_at ns (own_text_tree es last) (drop k order)))
      ≡ joined_texts true (without_repeats (members_at ns (own_text_tree es last) order)))
      × (n + count (without_repeats (members_at ns (own_text_tree es last) (drop k order)))
      ≡ count (without_repeats (members_at ns (own_text_tree es last) order)))

-- before the first member of the order nothing is put, and the groups are as they were
pub put_members_begins : (ns : List Member) (order : List ℕ) (out groups : SplicedText) → PutsSoFar ns order out groups groups 0 0
put_members_begins ns order out groups = record { so_far = λ es last base own. ([], gains_none base out groups, refl, omega arith) }

-- a member whose name the next one in the order has is not put
pub put_members_skips : {ns : List Member} {order : List ℕ} {out groups groups' : SplicedText} {k n : ℕ} (d : ℕ)
    → k < length order → ((r : ℕ → Tree)
    → begins_with_name (name_in ns (get_or order k d)) (members_at ns r (drop (k + 1) order)) ≡ true)
    → PutsSoFar ns order out groups groups' k n → PutsSoFar ns order out groups groups' (k + 1) n
put_members_skips {ns = ns} {order = order} {k = k} {n = n} d l h g = record {
  so_far = λ es last base own.
      let r = own_text_tree es last in
      let t = g.so_far es last base own in
      let same : without_repeats (members_at ns r (drop k order)) ≡ without_repeats
      (members_at ns r (drop (k + 1) order)) = kept_skip ns r order k d l (h r) in
      (t.0, t.1, ap (λ z. t.0 ++ joined_texts (nat_eq n 0) z) (sym same) ∙ t.2, ap (λ z. n + count z) (sym same) ∙ t.3);
}

-- a member whose name the next one in the order does not have is put, and n counts it
pub put_members_takes : {ns : List Member} {order : List ℕ} {out groups mid groups' : SplicedText} {k n : ℕ} (d : ℕ)
    → k < length order → ((r : ℕ → Tree)
    → begins_with_name (name_in ns (get_or order k d)) (members_at ns r (drop (k + 1) order)) ≡ false)
    → PutsMember ns (get_or order k d) (nat_eq n 0) (texts out mid) groups' → PutsSoFar ns order out groups mid k n
    → PutsSoFar ns order out groups groups' (k + 1) (n + 1)
put_members_takes {ns = ns} {order = order} {k = k} {n = n} d l h p g = record {
  so_far = λ es last base own.
      let r = own_text_tree es last in
      let i = get_or order k d in
      let t = g.so_far es last base own in
      let y = text_at (drop i es) last in
      let rest = without_repeats (members_at ns r (drop (k + 1) order)) in
      let same = kept_take ns r order k d l (h r) in
      let more : nat_eq (n + 1) 0 ≡ false = go n in
      let text : t.0 ++ (comma_before (nat_eq n 0) ++ (y ++ joined_texts false rest)) ≡ joined_texts true
      (without_repeats (members_at ns r order)) = ap (λ z. t.0 ++ joined_texts (nat_eq n 0) z) (sym same) ∙ t.2 in
      let number : n + suc (count rest) ≡ count (without_repeats (members_at ns r order)) = ap (λ z. n + count z) (sym same) ∙ t.3 in (
        t.0 ++ (comma_before (nat_eq n 0) ++ y),
        gains_append t.1 (p es last base own),
        ap (λ z. (t.0 ++ (comma_before (nat_eq n 0) ++ y)) ++ joined_texts z rest) more
            ∙ rejoin t.0 (comma_before (nat_eq n 0)) y (joined_texts false rest) ∙ text,
        omega (arith, number),
      );
}
  where
    go : (n : ℕ) → nat_eq (n + 1) 0 ≡ false
    go n = grind (arith, nat_tests)

    rejoin : (a x y z : List ℕ) → (a ++ (x ++ y)) ++ z ≡ a ++ (x ++ (y ++ z))
    rejoin a x y z = simp append_assoc refl

-- at the end of the order, the groups have the members without repeats, and n is their number
pub put_members_ends : {ns : List Member} {order : List ℕ} {out groups groups' : SplicedText} {k n : ℕ} → drop k order ≡ []
    → PutsSoFar ns order out groups groups' k n → PutsMembers ns order (texts out groups) groups' n
put_members_ends {ns = ns} {order = order} {out = out} {groups = groups} {groups' = groups'} {n = n} e g = λ es last base own.
    let t = g.so_far es last base own in
    let r = own_text_tree es last in
    let text : t.0 ≡ joined_texts true (without_repeats (members_at ns r order)) =
    sym (ap (λ z. t.0 ++ joined_texts (nat_eq n 0) (without_repeats (members_at ns r z))) e ∙ append-nil t.0)
    ∙ t.2 in (
      subst (λ z. Gains base out groups groups' z) text t.1,
      omega (arith, t.3, ap (λ z. count (without_repeats (members_at ns r z))) e),
    )

-- ---- the text comes back, or a splice stays

no_length : (h : List Splice) → length h ≡ 0 → h ≡ []
no_length [] e = refl
no_length (p ∷ h) e = absurd (omega (arith, e))

-- text' is `text` cut off at the point
pub record CutAt (point : Point) (text text' : SplicedText) : Type 0 where
  pub bytes : text'.bytes.items ≡ take point.bytes text.bytes.items
  pub splices : text'.splices.items ≡ take point.splices text.splices.items

-- a text without splices, moved from the groups to the end of `out` cut at `point`, is put back
pub back_short : {point from to : Point} {out mid out' groups groups' : SplicedText} → CutAt point out mid → IsEnd to groups
    → to.splices ≡ from.splices → AppendsSpan groups (record { from = from; to = to }) mid out' → CutAt from groups groups'
    → PutsBack point from (texts out groups) (texts out' groups')
back_short {point = point} {from = from} {to = to} {out = out} {mid = mid} {out' = out'} {groups = groups} {groups' = groups'}
    cut end none_there moved cut' = λ base x held start l a.
    let p : Span = record { from = from; to = to } in
    let ms = base.bytes.items in
    let gs = base.splices.items in
    let b = held.bytes in
    let h = held.splices in
    let bytes = held.bytes_gained in
    let splices = held.splices_gained in
    let long = ap length bytes ∙ length-append ms b in
    let many = ap length splices ∙ length-append gs h in
    let v : Within p groups.bytes.items groups.splices.items = (
      omega (arith, start.bytes, end.bytes, long),
      omega (arith, end.bytes),
      omega (arith, start.splices, end.splices, many),
      omega (arith, end.splices),
    ) in
    let empty : h ≡ [] = no_length h (omega (arith, start.splices, end.splices, many, none_there)) in
    let same : x ≡ b = plain_text (subst (λ z. Holds ms gs (length ms) b z x) empty held.text) in
    let is : bytes_in p groups.bytes.items ≡ b =
    between_end from.bytes to.bytes ms bytes start.bytes end.bytes in
    let no_splice : splices_in p groups.splices.items ≡ [] =
    between_none from.splices to.splices groups.splices.items (omega (arith, none_there)) in
    let out_splices : out'.splices.items ≡ take point.splices out.splices.items ++ [] =
    moved.splices v ∙ ap₂ (λ (y z : List Splice). y ++ map (shifted_splice p.from.bytes (length mid.bytes.items)) z)
    cut.splices no_splice in
    let groups_bytes : groups'.bytes.items ≡ ms = cut'.bytes ∙ ap₂ take start.bytes bytes ∙ take-append_seam ms b in
    let groups_splices : groups'.splices.items ≡ gs = cut'.splices ∙ ap₂ take start.splices splices ∙ take-append_seam gs h in
    record {
      bytes = b;
      splices = [];
      bytes_gained = [];
      splices_gained = [];
      is_bytes = moved.bytes v ∙ ap₂ (λ (y z : List ℕ). y ++ z) cut.bytes is;
      is_splices = out_splices;
      groups_bytes = groups_bytes ∙ sym (append-nil ms);
      groups_splices = groups_splices ∙ sym (append-nil gs);
      text = subst (λ z. Holds groups'.bytes.items groups'.splices.items point.bytes b [] z) (sym same)
          (holds_plain groups'.bytes.items groups'.splices.items point.bytes b);
      stay_in_order = λ g. (
        subst (λ z. Ordered 0 z) (sym groups_splices) g.0,
        subst (λ z. AllBefore (length z) out'.splices.items) (sym groups_splices)
            (subst (λ z. AllBefore (length gs) z) (sym (out_splices ∙ append-nil _))
            (all_take (length gs) point.splices out.splices.items g.1)),
      );
    }

-- a splice for the text that the groups have from `from` on, after `out` cut at `point`, puts it back
pub back_splice : {point to : Point} {out mid groups : SplicedText} (from : Point) (out' : SplicedText) → CutAt point out mid
    → IsEnd to groups → out'.bytes.items ≡ mid.bytes.items
    → out'.splices.items ≡ mid.splices.items ++ record { at = point.bytes; group = record { from = from; to = to } } ∷ []
    → PutsBack point from (texts out groups) (texts out' groups)
back_splice {point = point} {to = to} {out = out} {mid = mid} {groups = groups} from out' cut end ob oh = λ base x held start l a.
    let p : Span = record { from = from; to = to } in
    let splice : Splice = record { at = point.bytes; group = p } in
    let ms = base.bytes.items in
    let gs = base.splices.items in
    let b = held.bytes in
    let h = held.splices in
    let bytes = held.bytes_gained in
    let splices = held.splices_gained in
    let out_splices : out'.splices.items ≡ take point.splices out.splices.items ++ splice ∷ [] =
    oh ∙ ap (λ (y : List Splice). y ++ splice ∷ []) cut.splices in
    let many = ap length splices ∙ length-append gs h in
    record {
      bytes = [];
      splices = splice ∷ [];
      bytes_gained = b;
      splices_gained = h;
      is_bytes = ob ∙ cut.bytes ∙ sym (append-nil _);
      is_splices = out_splices;
      groups_bytes = bytes;
      groups_splices = splices;
      text = splice_holds groups point.bytes splice x refl (group_holds p start end held);
      stay_in_order = λ g. (
        subst (λ z. Ordered 0 z) (sym splices) (ordered_gains gs h g.0 (a g.1)),
        subst (λ z. AllBefore (length groups.splices.items) z) (sym out_splices)
            (all_append (length groups.splices.items) (take point.splices out.splices.items) (splice ∷ [])
            (all_more (length gs) (length groups.splices.items) _ (omega (arith, many))
            (all_take (length gs) point.splices out.splices.items g.1)) (omega (arith, end.splices), tt)),
      );
    }

-- ---- an object

first_point : (ns : List Member) (d : Member) → 0 < length ns → (get_or ns 0 d).point ≡ begin_of ns text_begin
first_point [] d l = absurd (omega (arith, l))
first_point (n ∷ ns) d l = refl

own_within : (ns : List Member) (es : List MemberEntry) (groups out : SplicedText) (last : List ℕ)
    → EndsWithMembers ns es groups out last
    → (begin_of ns text_begin).bytes ≤ length out.bytes.items
own_within [] [] groups out last o = omega arith
own_within (n ∷ ns) (e ∷ es) groups out last o = omega (arith, o.begins, ap length o.bytes, length-append o.before o.behind)
own_within [] (e ∷ es) groups out last o = absurd o
own_within (n ∷ ns) [] groups out last o = absurd o

-- From `old` to `new` the members ns, of which there is at least one, were put in the order of their names behind the
-- groups, and from there put back; n of them were put.
pub record PutsInNameOrder (ns : List Member) (old new : Texts) (n : ℕ) : Type 0 where
  pub order : List ℕ
  pub from : Point
  pub otherwise : Member
  pub groups : SplicedText
  pub some : 0 < length ns
  pub in_order : InNameOrder ns order
  pub is_end : IsEnd from old.groups
  pub puts : PutsMembers ns order old groups n
  pub back : PutsBack (get_or ns 0 otherwise).point from (texts old.out groups) new

-- members put in the order of their names, and then put back, are the members in normal form
pub settled : {ns : List Member} {old new : Texts} {n : ℕ} → PutsInNameOrder ns old new n → SortsMembers ns old new (nat_eq n (length ns))
settled {ns = ns} {old = old} {new = new} p = λ es last own.
    let order = p.order in
    let agree = own_agrees ns es old.groups old.out last own in
    let t = p.puts es last old.groups own in
    let r = own_text_tree es last in
    let sorted : without_repeats (members_at ns r order) ≡ norm_members (entry_members es last) =
    kept_normal ns es last order agree p.in_order in
    let gains = t.0 in
    let point = (get_or ns 0 p.otherwise).point in
    let here : point ≡ begin_of ns text_begin = first_point ns p.otherwise p.some in
    let within : point.bytes ≤ length old.out.bytes.items =
    subst (λ z. z.bytes ≤ length old.out.bytes.items) (sym here) (own_within ns es old.groups old.out last own) in
    let back = p.back old.groups (joined_texts true (without_repeats (members_at ns r order))) gains.appends p.is_end within
    (gains.all_before (length old.groups.splices.items)) in (
      subst (λ z. PutAt (begin_of ns text_begin) old new (joined_texts true z)) sorted
          (subst (λ z. PutAt z old new (joined_texts true (without_repeats (members_at ns r order)))) here back),
      ap₂ nat_eq (t.1 ∙ ap count sorted) (sym (ended_count ns es last agree)),
    )
