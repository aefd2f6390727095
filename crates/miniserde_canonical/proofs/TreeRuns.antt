-- A run over the tokens of a tree makes the compact text of its normal form. By recursion over the tree: a leaf adds
-- its text, and the end of an object arranges the texts of its members by name.
use Rattle.std.proofs.Common.{◌≡◌, ◌≤◌, ℕ, suc, Bool, true, false, ◌&&◌, nat_eq, List, [], ◌∷◌, ◌++◌, length, take}
use Rattle.std.proofs.Common.{drop, refl, sym, ap, ap₂, subst, ◌∙◌, append_assoc, append-nil, arith, Ordering, Less}
use Rattle.std.proofs.Common.{Equal, Greater, inl, inr, length-append}
use Rattle.std.proofs.Math.Bool.{and-true, and_assoc}
use Rattle.std.proofs.Math.Seq.{take-append_seam, drop-append_seam}
use Rattle.std.proofs.lemmas.Bool.{eq-eqb}
use Rattle.std.specs.Ordering.{match_ordering}
use Rattle.miniserde_model.specs.Ascii.{begin_array, end_array, begin_object, end_object, name_separator, value_separator}
use Rattle.miniserde_model.specs.Tree.{Tree, str, list, members, Trees, no_trees}
use Rattle.miniserde_model.specs.Tree.{tree, Members, no_members, member}
use Rattle.miniserde_model.specs.Compact.{compact, compact_children, compact_more, compact_members, compact_more_members, string_text}
use Rattle.miniserde_model.specs.Distinct.{names_distinct, names_distinct_in_children, names_distinct_in_members}
use Rattle.miniserde_model.specs.Normal.{norm, norm_children, norm_members, with_if_absent, text_cmp, BeginsAbove, Rise}
use Rattle.miniserde_model.specs.Tokens.{Token, leaf, name, array_end, object, object_end, comma_before}
use Rattle.miniserde_model.specs.Tokens.{tokens, child_tokens, member_tokens}
use Rattle.miniserde_canonical.specs.private.States.{MemberEntry, State, initial_state, text_before}
use Rattle.miniserde_canonical.specs.private.States.{entry_members, joined_texts, entries_text, count}
use Rattle.miniserde_canonical.specs.private.States.{AddsBytes, Sorted, Arranged, Closes, TokenStep, TokenSteps}
use Rattle.miniserde_model.proofs.Lookups.{first_of_all}
use Rattle.miniserde_canonical.proofs.Repeats.{nested_names_distinct, distinct_counted}

-- ---- runs

-- a run over ks and a run over ls from its end are a run over `ks ++ ls`
pub steps_append : (ks ls : List Token) (s m s' : State) → TokenSteps ks s m → TokenSteps ls m s' → TokenSteps (ks ++ ls) s s'
steps_append [] ls s m s' r p = subst (λ z. TokenSteps ls z s') (sym r) p
steps_append (k ∷ ks) ls s m s' r p = (r.0, r.1, steps_append ks ls r.0 m s' r.2 p)

-- ---- what a run adds

-- from s to s' the text x is added; d says whether no object that was closed had duplicate names
record Grows (s s' : State) (x : List ℕ) (d : Bool) : Type 0 where
  pub last : s'.last ≡ s.last ++ x
  pub entries : s'.entries ≡ s.entries
  pub opened : s'.opened ≡ s.opened
  pub distinct : s'.distinct ≡ (s.distinct && d)

grows_none : (s : State) → Grows s s [] true
grows_none s = record { last = sym (append-nil s.last); entries = refl; opened = refl; distinct = sym (and-true s.distinct) }

-- the bytes x of one token are added
grows_by : {s s' : State} {x : List ℕ} → AddsBytes x s s' → Grows s s' x true
grows_by {s = s} a = record { last = a.0; entries = a.1; opened = a.2; distinct = a.3 ∙ sym (and-true s.distinct) }

grows_append : {s m s' : State} {x y : List ℕ} {d e : Bool} → Grows s m x d → Grows m s' y e → Grows s s' (x ++ y) (d && e)
grows_append {s = s} {x = x} {y = y} {d = d} {e = e} p q = record {
  last = q.last ∙ ap (λ z. z ++ y) p.last ∙ append_assoc s.last x y;
  entries = q.entries ∙ p.entries;
  opened = q.opened ∙ p.opened;
  distinct = q.distinct ∙ ap (λ z. z && e) p.distinct ∙ and_assoc s.distinct d e;
}

grows_as : {s s' : State} {x y : List ℕ} {d e : Bool} → x ≡ y → d ≡ e → Grows s s' x d → Grows s s' y e
grows_as {s = s} {s' = s'} {x = x} {e = e} f g p = subst (λ z. Grows s s' z e) f (subst (λ z. Grows s s' x z) g p)

-- from s to s' one whole value is added, whose text is x (`Grows`), and so no container was just opened
abbrev Whole : State → State → List ℕ → Bool → Type 0
Whole s s' x d = Grows s s' x d × (s'.first ≡ false)

-- ---- members

-- the members ms with their trees in normal form, still in the order of the text
abbrev mapped : Members → Members
mapped no_members = no_members
mapped (member n t ms) = member n (norm t) (mapped ms)

-- the text of one member: its name, a colon and the compact text of its tree
abbrev row : List ℕ → Tree → List ℕ
row n t = string_text n ++ name_separator ∷ compact t

-- the members ms, each with its own text (`row`) as a string in the place of its tree, as `entry_members` has them
abbrev rows_of : Members → Members
rows_of no_members = no_members
rows_of (member n t ms) = member n (str (row n t)) (rows_of ms)

-- a run over the members ms that begins with the text l and the flag f adds the entries es, and ends with the text `last`
abbrev Lays : List MemberEntry → Members → List ℕ → Bool → List ℕ → Type 0
Lays [] no_members l f last = last ≡ l
Lays (e ∷ es) (member n t ms) l f last = (e.earlier_text ≡ l) × (e.first ≡ f) × (e.name ≡ n) × Lays es ms (row n (norm t)) false last
Lays _ _ l f last = ⊥

-- From s to s' the members ms of an open object are added: their entries and texts, and whether the names in each value
-- are distinct. The object's own names count when it closes.
record Lines (s s' : State) (ms : Members) : Type 0 where
  pub added : List MemberEntry
  pub entries : s'.entries ≡ s.entries ++ added
  pub opened : s'.opened ≡ s.opened
  pub distinct : s'.distinct ≡ (s.distinct && nested_names_distinct ms)
  pub lays : Lays added ms s.last s.first s'.last

lines_none : (s : State) → Lines s s no_members
lines_none s = record {
  added = [];
  entries = sym (append-nil s.entries);
  opened = refl;
  distinct = sym (and-true s.distinct);
  lays = refl;
}

lines_cons : (n : List ℕ) (t : Tree) (ms : Members) (s : State) {m u s' : State} → TokenStep (name n) s m
    → Whole m u (compact (norm t)) (names_distinct t) → Lines u s' ms → Lines s s' (member n t ms)
lines_cons n t ms s {u = u} {s' = s'} a w l =
    let g = w.0 in
    let e : MemberEntry = record { earlier_text = s.last; first = s.first; name = n } in
    let text : u.last ≡ row n (norm t) = g.last ∙ ap (λ z. z ++ compact (norm t)) a.1 ∙ append_assoc (string_text n)
    (name_separator ∷ []) (compact (norm t)) in
    record {
      added = e ∷ l.added;
      entries = l.entries ∙ ap (λ z. z ++ l.added) (g.entries ∙ a.0) ∙ append_assoc s.entries (e ∷ []) l.added;
      opened = l.opened ∙ g.opened ∙ a.2;
      distinct = l.distinct ∙ ap (λ z. z && nested_names_distinct ms) (g.distinct ∙ ap (λ z. z && names_distinct t) a.3)
          ∙ and_assoc s.distinct (names_distinct t) (nested_names_distinct ms);
      lays = (
        refl,
        refl,
        refl,
        subst (λ z. Lays l.added ms (row n (norm t)) z s'.last) w.1
            (subst (λ z. Lays l.added ms z u.first s'.last) text l.lays),
      );
    }

lays_next : (es : List MemberEntry) (ms : Members) (l : List ℕ) (f : Bool) (last : List ℕ) → Lays es ms l f last → text_before es last ≡ l
lays_next [] no_members l f last h = h
lays_next (e ∷ es) (member n t ms) l f last h = h.0
lays_next [] (member n t ms) l f last h = absurd h
lays_next (e ∷ es) no_members l f last h = absurd h

lays_ended : (es : List MemberEntry) (ms : Members) (l : List ℕ) (f : Bool) (last : List ℕ) → Lays es ms l f last
    → entry_members es last ≡ rows_of (mapped ms)
lays_ended [] no_members l f last h = refl
lays_ended (e ∷ es) (member n t ms) l f last h =
    ap (λ z. member z (str (text_before es last)) (entry_members es last)) h.2
    ∙ ap₂ (λ (x : List ℕ) (y : Members). member n (str x) y) (lays_next es ms (row n (norm t)) false last h.3)
    (lays_ended es ms (row n (norm t)) false last h.3)
lays_ended [] (member n t ms) l f last h = absurd h
lays_ended (e ∷ es) no_members l f last h = absurd h

lays_whole : (es : List MemberEntry) (ms : Members) (l : List ℕ) (f : Bool) (last : List ℕ) → Lays es ms l f last
    → entries_text es last ≡ l ++ joined_texts f (rows_of (mapped ms))
lays_whole [] no_members l f last h = h ∙ sym (append-nil l)
lays_whole (e ∷ es) (member n t ms) l f last h =
    ap₂ (λ (x : List ℕ) (y : Bool). x ++ (comma_before y ++ entries_text es last)) h.0 h.1
    ∙ ap (λ z. l ++ (comma_before f ++ z)) (lays_whole es ms (row n (norm t)) false last h.3)
lays_whole [] (member n t ms) l f last h = absurd h
lays_whole (e ∷ es) no_members l f last h = absurd h

-- ---- rows and normal forms

mutual
  spelled_first : (ms : Members) → joined_texts true (rows_of ms) ≡ compact_members ms
  spelled_first no_members = refl
  spelled_first (member n t ms) = ap (λ z. row n t ++ z) (spelled_more ms)

  spelled_more : (ms : Members) → joined_texts false (rows_of ms) ≡ compact_more_members ms
  spelled_more no_members = refl
  spelled_more (member n t ms) = ap (λ z. value_separator ∷ (row n t ++ z)) (spelled_more ms)

rows_above : (n : List ℕ) (ms : Members) → BeginsAbove n (rows_of ms) → BeginsAbove n ms
rows_above n no_members b = tt
rows_above n (member m t ms) b = b

rows_rise : (ms : Members) → Rise (rows_of ms) → Rise ms
rows_rise no_members r = tt
rows_rise (member n t ms) r = (rows_above n ms r.0, rows_rise ms r.1)

rise_norm : (ms : Members) → Rise (mapped ms) → norm_members ms ≡ mapped ms
rise_norm no_members r = refl
rise_norm (member n t ms) r = ap (with_if_absent n (norm t)) (rise_norm ms r.1) ∙ first_of_all n (norm t) (mapped ms) r.0

rows_first : (n : List ℕ) (t : Tree) (ms : Members) → with_if_absent n (str (row n t)) (rows_of ms) ≡ rows_of (with_if_absent n t ms)
rows_first n t no_members = refl
rows_first n t (member m u ms) = go (text_cmp n m) (rows_first n t ms)
  where
    go : (o : Ordering) → with_if_absent n (str (row n t)) (rows_of ms) ≡ rows_of (with_if_absent n t ms)
        → match_ordering o (member n (str (row n t)) (member m (str (row m u)) (rows_of ms))) (member m (str (row m u)) (rows_of ms))
        (member m (str (row m u)) (with_if_absent n (str (row n t)) (rows_of ms)))
        ≡ rows_of (match_ordering o (member n t (member m u ms)) (member m u ms) (member m u (with_if_absent n t ms)))
    go Less e = refl
    go Equal e = refl
    go Greater e = ap (λ z. member m (str (row m u)) z) e

rows_norm : (ms : Members) → norm_members (rows_of (mapped ms)) ≡ rows_of (norm_members ms)
rows_norm no_members = refl
rows_norm (member n t ms) = ap (with_if_absent n (str (row n (norm t)))) (rows_norm ms) ∙ rows_first n (norm t) (norm_members ms)

rows_count : (ms : Members) → count (rows_of ms) ≡ count ms
rows_count no_members = refl
rows_count (member n t ms) = ap suc (rows_count ms)

mapped_count : (ms : Members) → count (mapped ms) ≡ count ms
mapped_count no_members = refl
mapped_count (member n t ms) = ap suc (mapped_count ms)

-- ---- objects

record Made (s s' : State) (l : List ℕ) (ms : Members) : Type 0 where
  pub last : s'.last ≡ l ++ compact_members (norm_members ms)
  pub distinct : s'.distinct ≡ (s.distinct && nat_eq (count (norm_members ms)) (count ms))

made_same : (es : List MemberEntry) (ms : Members) (l : List ℕ) (s s' : State) → Lays es ms l true s.last
    → Rise (entry_members es s.last) × (s'.last ≡ entries_text es s.last) × (s'.distinct ≡ s.distinct) → Made s s' l ms
made_same es ms l s s' h (r, e, d) =
    let n : norm_members ms ≡ mapped ms = rise_norm ms (rows_rise (mapped ms) (subst Rise (lays_ended es ms l true s.last h) r)) in
    let same : nat_eq (count (norm_members ms)) (count ms) ≡ true = eq-eqb _ _ (ap count n ∙ mapped_count ms) in
    record {
      last = e ∙ lays_whole es ms l true s.last h ∙ ap (λ z. l ++ z) (spelled_first (mapped ms) ∙ ap compact_members (sym n));
      distinct = d ∙ sym (and-true s.distinct) ∙ ap (λ z. s.distinct && z) (sym same);
    }

made_sorted : (es : List MemberEntry) (ms : Members) (l : List ℕ) (s s' : State) → Lays es ms l true s.last → Sorted es s s'
    → Made s s' l ms
made_sorted [] ms l s s' h a = absurd a
made_sorted (e ∷ es) no_members l s s' h a = absurd h
made_sorted (e ∷ es) (member n t ms) l s s' h (p, d) =
    let r : entry_members (e ∷ es) s.last ≡ rows_of (mapped (member n t ms)) = lays_ended (e ∷ es) (member n t ms) l true s.last h in
    let sorted : norm_members (entry_members (e ∷ es) s.last) ≡ rows_of (norm_members (member n t ms)) =
    ap norm_members r ∙ rows_norm (member n t ms) in
    let many : count (entry_members (e ∷ es) s.last) ≡ count (member n t ms) =
    ap count r ∙ rows_count (mapped (member n t ms)) ∙ mapped_count (member n t ms) in
    let kept : count (norm_members (entry_members (e ∷ es) s.last)) ≡ count (norm_members (member n t ms)) =
    ap count sorted ∙ rows_count (norm_members (member n t ms)) in
    record {
      last = p ∙ ap₂ (λ (x : List ℕ) (y : Bool).
          x ++ (comma_before y ++ joined_texts true (norm_members (entry_members (e ∷ es) s.last)))) h.0 h.1
          ∙ ap (λ z. l ++ z) (ap (joined_texts true) sorted ∙ spelled_first (norm_members (member n t ms)));
      distinct = d ∙ ap₂ (λ (x y : ℕ). s.distinct && nat_eq x y) kept many;
    }

made : (es : List MemberEntry) (ms : Members) (l : List ℕ) (s s' : State) → Lays es ms l true s.last → Arranged es s s' → Made s s' l ms
made es ms l s s' h (inl a) = made_same es ms l s s' h a
made es ms l s s' h (inr a) = made_sorted es ms l s s' h a

object_grows : {m u : State} (ms : Members) (s k : State) → TokenStep object s m → Lines m u ms → Closes u k
    → Grows s k (begin_object ∷ compact_members (norm_members ms)) (names_distinct_in_members ms)
object_grows {m = m} {u = u} ms s k a l c =
    let named : u.entries ≡ s.entries ++ l.added = l.entries ∙ ap (λ z. z ++ l.added) a.1 in
    let within : length s.entries ≤ length u.entries = omega (arith, ap length named, length-append s.entries l.added) in
    let own : drop (length s.entries) u.entries ≡ l.added = ap (drop (length s.entries)) named ∙ drop-append_seam s.entries l.added in
    let lays : Lays l.added ms m.last true u.last = subst (λ z. Lays l.added ms m.last z u.last) a.4 l.lays in
    let d = c s.opened (length s.entries) (l.opened ∙ a.2) within in
    let r : Arranged l.added u k = subst (λ z. Arranged z u k) own d.2 in
    let x = made l.added ms m.last u k lays r in
    record {
      last = x.last ∙ ap (λ z. z ++ compact_members (norm_members ms)) a.0 ∙ append_assoc s.last (begin_object ∷ [])
          (compact_members (norm_members ms));
      entries = d.1 ∙ ap (take (length s.entries)) named ∙ take-append_seam s.entries l.added;
      opened = d.0;
      distinct = x.distinct ∙ ap (λ z. z && nat_eq (count (norm_members ms)) (count ms))
          (l.distinct ∙ ap (λ z. z && nested_names_distinct ms) a.3) ∙ and_assoc s.distinct (nested_names_distinct ms)
          (nat_eq (count (norm_members ms)) (count ms)) ∙ ap (λ z. s.distinct && z) (sym (distinct_counted ms));
    }

-- ---- trees

abbrev children_text : Bool → Trees → List ℕ
children_text f no_trees = []
children_text f (tree t ts) = comma_before f ++ (compact t ++ children_text false ts)

more_text : (ts : Trees) → children_text false ts ≡ compact_more ts
more_text no_trees = refl
more_text (tree t ts) = ap (λ z. value_separator ∷ (compact t ++ z)) (more_text ts)

first_text : (f : Bool) (ts : Trees) → f ≡ true → children_text f ts ≡ compact_children ts
first_text true no_trees e = refl
first_text true (tree t ts) e = ap (λ z. compact t ++ z) (more_text ts)
first_text false ts e = absurd (cc)

leaf_grows : (t : Tree) (s m : State) → TokenStep (leaf t) s m → Whole s m (compact (norm t)) true
leaf_grows t s m a = (grows_by a.0, a.1)

mutual
  tree_grows : (t : Tree) (ks : List Token) (s s' : State) → TokenSteps (tokens t ks) s s'
      → (m : State) × Whole s m (compact (norm t)) (names_distinct t) × TokenSteps ks m s'
  tree_grows (list ts) ks s s' r =
      let m = r.0 in
      let t = children_grow ts (array_end ∷ ks) m s' r.2 in
      let e = t.2 in
      let begun : Grows s m (begin_array ∷ []) true = grows_by r.1.0 in
      let closed : Grows t.0 e.0 (end_array ∷ []) true = grows_by e.1.0 in
      let inside : Grows m t.0 (compact_children (norm_children ts)) (names_distinct_in_children ts) =
      grows_as (first_text m.first (norm_children ts) r.1.1) refl t.1 in
      let all = grows_append begun (grows_append inside closed) in
      (e.0, (grows_as refl (and-true (names_distinct_in_children ts)) all, e.1.1), e.2)
  tree_grows (members ms) ks s s' r =
      let m = r.0 in
      let t = members_grow ms (object_end ∷ ks) m s' r.2 in
      let e = t.2 in
      let k = e.1.0 in
      let closed : Grows k e.0 (end_object ∷ []) true = grows_by e.1.2 in
      let all = grows_append (object_grows ms s k r.1 t.1 e.1.1) closed in
      (e.0, (grows_as refl (and-true (names_distinct_in_members ms)) all, e.1.3), e.2)
  tree_grows t ks s s' r = (r.0, leaf_grows t s r.0 r.1, r.2)

  children_grow : (ts : Trees) (ks : List Token) (s s' : State) → TokenSteps (child_tokens ts ks) s s'
      → (m : State) × Grows s m (children_text s.first (norm_children ts)) (names_distinct_in_children ts) × TokenSteps ks m s'
  children_grow no_trees ks s s' r = (s, grows_none s, r)
  children_grow (tree t ts) ks s s' r =
      let m = r.0 in
      let u = tree_grows t (child_tokens ts ks) m s' r.2 in
      let v = children_grow ts ks u.0 s' u.2 in
      let begun : Grows s m (comma_before s.first) true = grows_by r.1 in
      let rest : Grows u.0 v.0 (children_text false (norm_children ts)) (names_distinct_in_children ts) =
      grows_as (ap (λ z. children_text z (norm_children ts)) u.1.1) refl v.1 in
      (v.0, grows_append begun (grows_append u.1.0 rest), v.2)

  members_grow : (ms : Members) (ks : List Token) (s s' : State) → TokenSteps (member_tokens ms ks) s s'
      → (m : State) × Lines s m ms × TokenSteps ks m s'
  members_grow no_members ks s s' r = (s, lines_none s, r)
  members_grow (member n t ms) ks s s' r =
      let u = tree_grows t (member_tokens ms ks) r.0 s' r.2 in
      let v = members_grow ms ks u.0 s' u.2 in
      (v.0, lines_cons n t ms s r.1 u.1 v.1, v.2)

-- a run over a tree's tokens makes the canonical text and no entries, and `distinct` is `names_distinct`
pub steps_make : (t : Tree) (s : State) → TokenSteps (tokens t []) initial_state s → (s.last ≡ compact (norm t)) × (s.entries ≡ [])
    × (s.distinct ≡ names_distinct t)
steps_make t s r =
    let m = tree_grows t [] initial_state s r in
    let g = subst (λ z. Whole initial_state z (compact (norm t)) (names_distinct t)) m.2 m.1 in
    (g.0.last, g.0.entries, g.0.distinct)
