-- If a draft holds a state, the draft after a step holds the next state. Each lemma has the changed fields as
-- equations, and carries the chain of the members over by a lemma of `Chains.antt`.
use Rattle.std.proofs.Common.{◌≡◌, ◌≤◌, ◌<◌, ◌-◌, ◌+◌, ℕ, zero, suc, Bool, true, ◌&&◌, List, [], ◌∷◌, ◌++◌, length}
use Rattle.std.proofs.Common.{take, drop, refl, sym, ap, ap₂, subst, ◌∙◌, append_assoc, append-nil, arith}
use Rattle.std.proofs.Common.{length-append}
use Rattle.std.proofs.Math.Seq.{take-append_seam}
use Rattle.std.proofs.lemmas.List.{length-drop, drop_all, take_all}
use Rattle.miniserde_model.specs.Ascii.{begin_object, name_separator}
use Rattle.miniserde_model.specs.Compact.{string_text}
use Rattle.miniserde_model.specs.Normal.{norm_members, Rise}
use Rattle.miniserde_model.specs.Tokens.{name, object, comma_before}
use Rattle.miniserde_canonical.specs.declared.spread.SplicedText.{SplicedText}
use Rattle.miniserde_canonical.specs.declared.member.Member.{Member}
use Rattle.miniserde_canonical.specs.declared.draft.Draft.{Draft}
use Rattle.miniserde_canonical.specs.private.SplicedTexts.{none, SplicesInOrder, text_begin, TextFrom, text_from, FilledText, FilledPart}
use Rattle.miniserde_canonical.specs.private.Members.{NamesRise}
use Rattle.miniserde_canonical.specs.private.States.{MemberEntry, State, initial_state, entry_members}
use Rattle.miniserde_canonical.specs.private.States.{joined_texts, entries_text, once_each, AddsBytes, Sorted}
use Rattle.miniserde_canonical.specs.private.States.{Arranged, Closes, TokenStep}
use Rattle.miniserde_canonical.specs.private.SortMembers.{Chain, EndsWithMembers, texts, SortsMembers}
use Rattle.miniserde_canonical.specs.private.Drafts.{Wrote, Holding, Represents, ChangesOnlyText}
use Rattle.miniserde_canonical.proofs.SplicedTexts.{holds_plain, holds_behind}
use Rattle.miniserde_canonical.proofs.Chains.{BeginsBehind, chain_lengths, chain_add, GroupsStay, groups_same}
use Rattle.miniserde_canonical.proofs.Chains.{chain_stays, chain_begin, chain_merge, BothAt, chain_cut}
use Rattle.miniserde_canonical.proofs.MemberSpans.{chain_agrees, cut_own}
use Rattle.miniserde_canonical.proofs.InputRuns.{wrote_on}
use Rattle.miniserde_canonical.proofs.MemberLists.{Agree, rise_all}

-- the draft has no text, no groups, no members and no open objects, and found no duplicate name
pub record EmptyDraft (d : Draft) : Type 0 where
  pub bytes : d.out.bytes.items ≡ []
  pub splices : d.out.splices.items ≡ []
  pub groups : d.groups.bytes.items ≡ []
  pub groups_splices : d.groups.splices.items ≡ []
  pub members : d.members.items ≡ []
  pub opened : d.opened.items ≡ []
  pub distinct : d.is_distinct ≡ true

-- a draft without text, groups, members and open objects, with all input left, represents `initial_state`
pub draft_starts : {d : Draft} (input : List ℕ) → d.input.now ≡ input → d.left ≡ length input → EmptyDraft d
    → Represents d input initial_state
draft_starts {d = d} input i l e = record {
  bytes = [];
  wrote = record { front = []; run = []; input = i; left = l; text = append-nil d.out.bytes.items ∙ e.bytes };
  holding = record {
    chain = subst (λ z. Chain z [] d.groups (text_from text_begin [] d.out.splices.items) []) (sym e.members)
        (subst (λ z. FilledPart d.groups (text_from text_begin [] z) []) (sym e.splices) none);
    good = subst (λ z. SplicesInOrder z d.out.splices.items) (sym e.groups_splices)
        (subst (λ z. SplicesInOrder [] z) (sym e.splices) (tt, tt));
    opened = e.opened;
    distinct = e.distinct;
  };
}

-- if only the text and the run of a draft change, it holds the same state
pub keep_holding : {d d' : Draft} {bs : List ℕ} {s : State} → ChangesOnlyText d d' → Holding d bs s → Holding d' bs s
keep_holding {d = d} {d' = d'} k h = record {
  chain = rw (k.members, k.splices) (chain_stays _ _ _ _ (groups_same k.groups k.groups_splices) h.chain);
  good = subst (λ z. SplicesInOrder z d'.out.splices.items) (sym k.groups_splices)
      (subst (λ z. SplicesInOrder d.groups.splices.items z) (sym k.splices) h.good);
  opened = k.opened ∙ h.opened;
  distinct = k.distinct ∙ h.distinct;
}

-- ---- text

-- bytes behind the last member
chain_plain : (ns : List Member) (es : List MemberEntry) (groups : SplicedText) (text : TextFrom) (last x : List ℕ)
    → Chain ns es groups text last → Chain ns es groups (text_from text.from (text.bytes ++ x) text.splices) (last ++ x)
chain_plain ns es groups text last x c =
    subst (λ z. Chain ns es groups (text_from text.from (text.bytes ++ x) z) (last ++ x)) (append-nil text.splices)
    (chain_add ns es groups text last c
    (holds_plain groups.bytes.items groups.splices.items (text.from.bytes + length text.bytes) x))

-- if a draft holds s, and s' is s with the bytes x appended, it holds s' with x after its bytes
pub holding_added : {d : Draft} {bs : List ℕ} {s s' : State} (x : List ℕ) → AddsBytes x s s' → Holding d bs s → Holding d (bs ++ x) s'
holding_added {d = d} {bs = bs} {s = s} x a r = record {
  chain = rw (a.1, a.0) (chain_plain d.members.items s.entries d.groups (text_from text_begin bs d.out.splices.items) s.last x r.chain);
  good = r.good;
  opened = r.opened ∙ sym a.2;
  distinct = r.distinct ∙ sym a.3;
}

-- From d to d' the splices, the groups and `is_distinct` stay; of the members and the open objects it says nothing.
pub record KeepsGroups (d d' : Draft) : Type 0 where
  pub splices : d'.out.splices.items ≡ d.out.splices.items
  pub groups : d'.groups.bytes.items ≡ d.groups.bytes.items
  pub groups_splices : d'.groups.splices.items ≡ d.groups.splices.items
  pub distinct : d'.is_distinct ≡ d.is_distinct

still_good : {d d' : Draft} → KeepsGroups d d' → SplicesInOrder d.groups.splices.items d.out.splices.items
    → SplicesInOrder d'.groups.splices.items d'.out.splices.items
still_good {d = d} {d' = d'} k g = subst (λ z. SplicesInOrder z d'.out.splices.items) (sym k.groups_splices)
    (subst (λ z. SplicesInOrder d.groups.splices.items z) (sym k.splices) g)

-- a draft has as many members as its state has entries
as_many_entries : {d : Draft} {bs : List ℕ} {s : State} → Holding d bs s → length d.members.items ≡ length s.entries
as_many_entries {d = d} {bs = bs} {s = s} r =
    chain_lengths d.members.items s.entries d.groups (text_from text_begin bs d.out.splices.items) s.last r.chain

-- with `{` after its bytes and its number of members in `opened`, a draft holds the state with one more object
pub holding_opened : {d d' : Draft} {bs : List ℕ} {s s' : State} → KeepsGroups d d' → d'.members.items ≡ d.members.items
    → d'.opened.items ≡ d.opened.items ++ length d.members.items ∷ [] → TokenStep object s s' → Holding d bs s
    → Holding d' (bs ++ begin_object ∷ []) s'
holding_opened {d = d} {d' = d'} {bs = bs} {s = s} {s' = s'} k m o a r = record {
  chain = rw (m, k.splices, a.1, a.0) (chain_stays _ _ _ _ (groups_same k.groups k.groups_splices)
      (chain_plain d.members.items s.entries d.groups (text_from text_begin bs d.out.splices.items) s.last (begin_object ∷ []) r.chain));
  good = still_good k r.good;
  opened = o ∙ ap₂ (λ (x : List ℕ) (y : ℕ). x ++ y ∷ []) r.opened (as_many_entries r) ∙ sym a.2;
  distinct = k.distinct ∙ r.distinct ∙ sym a.3;
}

-- from d to d' the member n is added behind the others; the splices, the groups, the open objects and `is_distinct` stay
pub record AddsMember (d d' : Draft) (n : Member) : Type 0 where
  pub keeps : KeepsGroups d d'
  pub members : d'.members.items ≡ d.members.items ++ n ∷ []
  pub opened : d'.opened.items ≡ d.opened.items

-- a member begins, and its name and a colon are put behind its begin
pub holding_begun : {d d' : Draft} {bs : List ℕ} {s s' : State} (n : Member) (x : List ℕ) → AddsMember d d' n
    → BeginsBehind n (record { earlier_text = s.last; first = s.first; name = x })
    (text_from text_begin bs d.out.splices.items)
    → TokenStep (name x) s s' → Holding d bs s
    → Holding d' ((bs ++ comma_before s.first) ++ (string_text x ++ name_separator ∷ [])) s'
holding_begun {d = d} {d' = d'} {bs = bs} {s = s} {s' = s'} n name_text m begins a r =
    let k = m.keeps in
    let ns = d.members.items ++ n ∷ [] in
    let y : MemberEntry = record { earlier_text = s.last; first = s.first; name = name_text } in
    let x = string_text name_text ++ name_separator ∷ [] in
    let cs = bs ++ comma_before s.first in
    let begun : Chain ns (s.entries ++ y ∷ []) d.groups (text_from text_begin cs d.out.splices.items) [] =
    chain_begin d.members.items s.entries d.groups (text_from text_begin bs d.out.splices.items) r.chain begins in
    record {
      chain = rw (m.members, k.splices, a.0, a.1) (chain_stays _ _ _ _ (groups_same k.groups k.groups_splices)
          (chain_plain ns (s.entries ++ y ∷ []) d.groups (text_from text_begin cs d.out.splices.items) [] x begun));
      good = still_good k r.good;
      opened = m.opened ∙ r.opened ∙ sym a.2;
      distinct = k.distinct ∙ r.distinct ∙ sym a.3;
    }

-- ---- the end of an object

snoc_same : (xs ys : List ℕ) (x y : ℕ) → xs ++ x ∷ [] ≡ ys ++ y ∷ [] → (xs ≡ ys) × (x ≡ y)
snoc_same [] [] x y e = (refl, cc)
snoc_same [] (b ∷ ys) x y e = absurd (omega (arith, ap length e, length-append ys (y ∷ [])))
snoc_same (a ∷ xs) [] x y e = absurd (omega (arith, ap length e, length-append xs (x ∷ [])))
snoc_same (a ∷ xs) (b ∷ ys) x y e =
    let rest : xs ++ x ∷ [] ≡ ys ++ y ∷ [] = cc in
    let first : a ≡ b = cc in
    let r = snoc_same xs ys x y rest in
    (ap₂ (λ (p : ℕ) (q : List ℕ). p ∷ q) first r.0, r.1)

-- m is s after its innermost object closed, if m has the outer objects and entries, and the others are arranged
pub closes : (s m : State) (f : ℕ) → s.opened ≡ m.opened ++ f ∷ [] → m.entries ≡ take f s.entries
    → Arranged (drop f s.entries) s m → Closes s m
closes s m f e n a = λ os g h l.
    let r = snoc_same m.opened os f g (sym e ∙ h) in
    (r.0, n ∙ ap (λ z. take z s.entries) r.1, subst (λ z. Arranged (drop z s.entries) s m) r.1 a)

-- the members behind a point agree with their entries
own_part : (f : ℕ) (ns : List Member) (es : List MemberEntry) → Agree ns es → Agree (drop f ns) (drop f es)
own_part f [] [] a = subst (λ z. Agree z (drop f [])) (sym (drop_all {X = Member} f [] (omega arith)))
    (subst (λ z. Agree [] z) (sym (drop_all {X = MemberEntry} f [] (omega arith))) tt)
own_part zero (n ∷ ns) (e ∷ es) a = a
own_part (suc f) (n ∷ ns) (e ∷ es) a = own_part f ns es a.1
own_part f [] (e ∷ es) a = absurd a
own_part f (n ∷ ns) [] a = absurd a

-- if the names of a draft's members rise from the index f on, those of its state's entries do
pub rises_behind : {d : Draft} {bs : List ℕ} {s : State} (f : ℕ) (ns : List Member) → ns ≡ drop f d.members.items
    → NamesRise ns → Holding d bs s → Rise (entry_members (drop f s.entries) s.last)
rises_behind {d = d} {bs = bs} {s = s} f ns e h r =
    rise_all (drop f d.members.items) (drop f s.entries) s.last
    (own_part f d.members.items s.entries
    (chain_agrees d.members.items s.entries d.groups (text_from text_begin bs d.out.splices.items) s.last r.chain))
    (subst NamesRise e h)

-- the names rise
pub holding_same : {d d' : Draft} {bs : List ℕ} {s : State} (f : ℕ) → KeepsGroups d d'
    → d'.members.items ≡ take f d.members.items → Holding d bs s
    → Holding d' bs (record {
      entries = take f s.entries;
      last = entries_text (drop f s.entries) s.last;
      opened =
          d'.opened.items;
      first = s.first;
      distinct = s.distinct;
    })
holding_same {d = d} {d' = d'} {bs = bs} {s = s} f k m r =
    let text = text_from text_begin bs d.out.splices.items in
    let c : Chain (take f d.members.items) (take f s.entries) d.groups text (entries_text (drop f s.entries) s.last) =
    chain_merge f d.members.items s.entries d.groups text s.last r.chain in
    record {
      chain = rw (m, k.splices) (chain_stays _ _ _ _ (groups_same k.groups k.groups_splices) c);
      good = still_good k r.good;
      opened = refl;
      distinct = k.distinct ∙ r.distinct;
    }

-- the members were put in order
pub record PutInOrder (d d' : Draft) (s : State) (f : ℕ) : Type 0 where
  pub state : State
  pub holding : Holding d' d'.out.bytes.items state
  pub opened : state.opened ≡ d'.opened.items
  pub entries : state.entries ≡ take f s.entries
  pub sorted : Sorted (drop f s.entries) s state

-- From d to d' the members ns, which are those of d from the index f on, were sorted and removed.
pub record SortedFrom (d d' : Draft) (f : ℕ) (ns : List Member) : Type 0 where
  pub all : ns ≡ drop f d.members.items
  pub is_distinct : Bool
  pub sorts : SortsMembers ns (texts d.out d.groups) (texts d'.out d'.groups) is_distinct
  pub members : d'.members.items ≡ take f d.members.items
  pub distinct : d'.is_distinct ≡ (d.is_distinct && is_distinct)

ordered_at : {d d' : Draft} {s : State} {f : ℕ} {n : Member} {ns : List Member} (e : MemberEntry) (es : List MemberEntry)
    → SortedFrom d d' f (n ∷ ns) → Holding d d.out.bytes.items s
    → drop f s.entries ≡ e ∷ es → PutInOrder d d' s f
ordered_at {d = d} {d' = d'} {s = s} {f = f} {n = n} {ns = ns} e es o h is =
    let ms = take f d.members.items in
    let before = take f s.entries in
    let text = text_from text_begin d.out.bytes.items d.out.splices.items in
    let at : BothAt f d.members.items s.entries n e = record {
      members_behind = ns;
      entries_behind = es;
      members = sym o.all;
      entries = is;
    } in
    let c = chain_cut d.groups text s.last at h.chain in
    let own : EndsWithMembers (n ∷ ns) (e ∷ es) d.groups d.out s.last = cut_own n e d.out c in
    let r = o.sorts (e ∷ es) s.last own in
    let p = r.0 in
    let x = joined_texts true (norm_members (entry_members (e ∷ es) s.last)) in
    let here : n.point.bytes ≡ length (c.before ++ comma_before e.first) = omega (arith, c.begins) in
    let front : take n.point.bytes d.out.bytes.items ≡ c.before ++ comma_before e.first =
    ap₂ take here (c.bytes ∙ sym (append_assoc c.before (comma_before e.first) c.behind)) ∙ take-append_seam
    (c.before ++ comma_before e.first) c.behind in
    let splices_front : take n.point.splices d.out.splices.items ≡ c.splices_before =
    let at : n.point.splices ≡ length c.splices_before = omega (arith, c.begins_splices) in
    ap₂ take at c.splices ∙ take-append_seam c.splices_before c.splices_behind in
    let far : n.point.bytes ≡ (0 + length c.before) + length (comma_before e.first) =
    omega (arith, here, length-append c.before (comma_before e.first)) in
    let stay : GroupsStay d.groups d'.groups = record {
      more = p.bytes_gained;
      inner = p.splices_gained;
      bytes = p.groups_bytes;
      splices = p.groups_splices;
    } in
    let kept = text_from text_begin c.before c.splices_before in
    let new = chain_add ms before d'.groups kept e.earlier_text
    (chain_stays ms before kept e.earlier_text stay c.is_before)
    (holds_behind (0 + length c.before) n.point.bytes (comma_before e.first) far p.text) in
    let out_bytes : d'.out.bytes.items ≡ c.before ++ (comma_before e.first ++ p.bytes) =
    p.is_bytes ∙ ap (λ z. z ++ p.bytes) front ∙ append_assoc c.before (comma_before e.first) p.bytes in
    let out_splices : d'.out.splices.items ≡ c.splices_before ++ p.splices = p.is_splices ∙ ap (λ z. z ++ p.splices) splices_front in
    record {
      state = record {
        entries = take f s.entries;
        last = e.earlier_text ++ (comma_before e.first ++ x);
        opened =
            d'.opened.items;
        first = s.first;
        distinct = s.distinct && once_each (entry_members (e ∷ es) s.last);
      };
      holding = record {
        chain = rw (o.members, out_bytes, out_splices) new;
        good = p.stay_in_order h.good;
        opened = refl;
        distinct = o.distinct ∙ ap₂ (λ (y z : Bool). y && z) h.distinct r.1;
      };
      opened = refl;
      entries = refl;
      sorted = rw is (refl, refl);
    }

-- a draft whose members from the index f on were sorted and removed holds a state with these entries sorted
pub holding_sorted : {d d' : Draft} {s : State} {f : ℕ} {ns : List Member} → 0 < length ns → SortedFrom d d' f ns
    → Holding d d.out.bytes.items s → PutInOrder d d' s f
holding_sorted {d = d} {d' = d'} {s = s} {f = f} {ns = ns} some o r = go ns (drop f s.entries) refl some o
  where
    go : (ns : List Member) (es : List MemberEntry) → drop f s.entries ≡ es → 0 < length ns → SortedFrom d d' f ns
        → PutInOrder d d' s f
    go [] es h some o = absurd (omega (arith, some))
    go (n ∷ ns) [] h some o =
        absurd (omega (arith, ap length o.all, length-drop f d.members.items, ap length h, length-drop f s.entries, as_many_entries r))
    go (n ∷ ns) (x ∷ es) h some o = ordered_at x es o r h

-- ---- calls

-- no object is open in the state s that has its members among the entries
abbrev pub NoneToClose : State → Type 0
NoneToClose s = (os : List ℕ) (f : ℕ) → s.opened ≡ os ++ f ∷ [] → f ≤ length s.entries → ⊥

-- if a draft has fewer members than come before its innermost object, its state has too few entries, too
pub too_few : {d : Draft} {bs : List ℕ} {s : State} (os : List ℕ) (before : ℕ) → Holding d bs s
    → d.opened.items ≡ os ++ before ∷ [] → length d.members.items < before → NoneToClose s
too_few {d = d} {bs = bs} {s = s} os before r e l = λ ps f h i.
    let same = snoc_same os ps before f (sym e ∙ r.opened ∙ h) in
    omega (arith, l, i, same.1, as_many_entries r)

-- if ys is xs, the elements of ys from the index f to the end are those of xs from f on
pub behind : (xs ys : List Member) (f : ℕ) → ys ≡ xs → take (length ys - f) (drop f ys) ≡ drop f xs
behind xs ys f e = take_all (length ys - f) (drop f ys) (omega (arith, length-drop f ys)) ∙ ap (drop f) e

-- if a draft d represents s, d' differs from d in the text and the run alone, and the bytes of d' are those of d and x, then
-- d' represents s with x appended
pub rewritten : {d d' : Draft} {rest rest' : List ℕ} {s s' : State} (x : List ℕ) → AddsBytes x s s' → (r : Represents d rest s)
    → ChangesOnlyText d d' → Wrote d' rest' (r.bytes ++ x) → Represents d' rest' s'
rewritten x a r k w = record { bytes = r.bytes ++ x; wrote = w; holding = holding_added x a (keep_holding k r.holding) }

-- if the next part of the input is what the state gains, the draft stays as it is: the part joins what was read and not
-- yet copied
pub stays : {d : Draft} {rest : List ℕ} {s s' : State} (part rest' : List ℕ) → AddsBytes part s s' → Represents d rest s
    → rest ≡ part ++ rest' → Represents d rest' s'
stays part rest' a r e = record {
  bytes = r.bytes ++ part;
  wrote = wrote_on part rest' r.wrote e;
  holding = holding_added part a r.holding;
}

-- ---- the end of a text

-- if the state has no entries, the draft's bytes and splices hold the `last` of the state
pub holds_whole : (d : Draft) (s : State) → Holding d d.out.bytes.items s → s.entries ≡ [] → FilledText d.groups d.out s.last
holds_whole d s r e = go d.members.items s.entries e r.chain
  where
    go : (ns : List Member) (es : List MemberEntry) → es ≡ []
        → Chain ns es d.groups (text_from text_begin d.out.bytes.items d.out.splices.items) s.last
        → FilledText d.groups d.out s.last
    go [] [] e c = c
    go (n ∷ ns) [] e c = absurd c
    go ns (x ∷ es) e c = absurd (omega (arith, ap length e))

-- if s and t have equal `last` and `distinct`, a state that is t with members sorted is s with them sorted
pub sorted_like : (es : List MemberEntry) (s t m : State) → t.last ≡ s.last → t.distinct ≡ s.distinct → Sorted es t m → Sorted es s m
sorted_like [] s t m h k p = absurd p
sorted_like (e ∷ es) s t m h k p = (
  p.0 ∙ ap (λ z. e.earlier_text ++ (comma_before e.first ++ joined_texts true (norm_members (entry_members (e ∷ es) z)))) h,
  p.1 ∙ ap₂ (λ (x : Bool) (y : List ℕ). x && once_each (entry_members (e ∷ es) y)) k h,
)
