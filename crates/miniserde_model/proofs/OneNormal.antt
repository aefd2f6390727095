-- Members whose names strictly ascend are determined by the last tree at each name, and putting members into a map
-- one by one, from the left, gives their normal form. By recursion over both lists of members (`one_rising`): the map
-- and the normal form ascend, and they have the same last tree at each name (`last_put_all`, `norm_keeps_last`).
use Rattle.std.proofs.Common.{◌≡◌, ℕ, ℤ, Bool, true, false, List, Option, Some, None, option_map, bytes_eq, cond}
use Rattle.std.proofs.Common.{is_some, refl, sym, ap, ap₂, subst, ◌∙◌, Ordering, Less, Equal, Greater, true≢false}
use Rattle.std.specs.Ordering.{match_ordering, ordering_reverse, is_eq}
use Rattle.std.proofs.lemmas.Bool.{false_from_ne_true}
use Rattle.std.proofs.lemmas.Cmp.{nat_list_cmp_total, tied_itself}
use Rattle.std.proofs.lemmas.Map.Lookups.{exact_bytes}
use Rattle.std.proofs.lemmas.Slice.Eq.{bytes_eq-Decides}
use Rattle.miniserde_model.specs.Tree.{Tree, Members, no_members, member}
use Rattle.miniserde_model.specs.Normal.{text_cmp, norm_by, norm_members_by, or_else, last_of, BeginsAbove, Rise}
use Rattle.miniserde_model.specs.Normal.{put, put_all_by}
use Rattle.miniserde_model.proofs.Lookups.{norm_keeps_last, norm_rises, mapped, or_else_none, or_else_assoc, rise_insert}

not_same : (a b : List ℕ) → text_cmp a b ≡ Less → bytes_eq b a ≡ false
not_same a b l = false_from_ne_true _ (λ e.
    let same : b ≡ a = (bytes_eq-Decides b a).0 e in
    let tied : text_cmp a b ≡ Equal = ap (text_cmp a) same ∙ tied_itself nat_list_cmp_total a in
    true≢false (ap is_eq (sym tied ∙ l)))

-- a name below the first is not there
pub absent : (q : List ℕ) (ms : Members) → BeginsAbove q ms → Rise ms → last_of q ms ≡ None
absent q no_members b r = refl
absent q (member name t ms) b r =
    ap₂ (λ (x : Option Tree) (y : Bool). or_else x (cond y (Some t) None)) (absent q ms (further ms r.0) r.1) (not_same q name b)
  where
    further : (ns : Members) → BeginsAbove name ns → BeginsAbove q ns
    further no_members h = tt
    further (member other u ns) h = nat_list_cmp_total.trans q name other b h

-- `bytes_eq` is true for a text and itself
pub same_itself : (a : List ℕ) → bytes_eq a a ≡ true
same_itself a = (bytes_eq-Decides a a).1 refl

-- the first name has its tree
at_first : (name : List ℕ) (t : Tree) (ms : Members) → BeginsAbove name ms → Rise ms → last_of name (member name t ms) ≡ Some t
at_first name t ms b r = ap₂ (λ (x : Option Tree) (y : Bool). or_else x (cond y (Some t) None)) (absent name ms b r) (same_itself name)

none_some : (o : Option Tree) (t : Tree) → o ≡ None → o ≡ Some t → ⊥
none_some o t p q = true≢false (ap is_some (sym q ∙ p))

abbrev Alike : Members → Members → Type 0
Alike ms ns = (q : List ℕ) → last_of q ms ≡ last_of q ns

tails_alike : (name : List ℕ) (t : Tree) (ms ns : Members) → Rise (member name t ms) → Rise (member name t ns)
    → Alike (member name t ms) (member name t ns) → Alike ms ns
tails_alike name t ms ns r s h q = go (bytes_eq name q) refl
  where
    go : (b : Bool) → bytes_eq name q ≡ b → last_of q ms ≡ last_of q ns
    go true e = let same : name ≡ q = (bytes_eq-Decides name q).0 e in
        subst (λ z. last_of z ms ≡ last_of z ns) same (absent name ms r.0 r.1 ∙ sym (absent name ns s.0 s.1))
    go false e = sym (or_else_none (last_of q ms)) ∙ ap (λ y. or_else (last_of q ms) (cond y (Some t) None)) (sym e)
        ∙ h q ∙ ap (λ y. or_else (last_of q ns) (cond y (Some t) None)) e ∙ or_else_none (last_of q ns)

-- two lists of members whose names rise are equal if each name has the same last tree in both
pub one_rising : (ms ns : Members) → Rise ms → Rise ns → Alike ms ns → ms ≡ ns
one_rising no_members no_members r s h = refl
one_rising no_members (member name u ns) r s h = absurd (none_some _ u (sym (h name)) (at_first name u ns s.0 s.1))
one_rising (member name t ms) no_members r s h = absurd (none_some _ t (h name) (at_first name t ms r.0 r.1))
one_rising (member name t ms) (member other u ns) r s h = go (text_cmp name other) refl (λ k. one_rising ms ns r.1 s.1 k)
  where
    go : (o : Ordering) → text_cmp name other ≡ o → (Alike ms ns → ms ≡ ns) → member name t ms ≡ member other u ns
    go Less e more = absurd (none_some _ t (h name ∙ absent name (member other u ns) e s) (at_first name t ms r.0 r.1))
    go Greater e more = absurd
        (none_some _ u (sym (h other) ∙ absent other (member name t ms)
        (nat_list_cmp_total.antisymm other name ∙ ap ordering_reverse e) r) (at_first other u ns s.0 s.1))
    go Equal e more =
        let same : name ≡ other = exact_bytes name other e in
        let rises : Rise (member name u ns) = subst (λ z. Rise (member z u ns)) (sym same) s in
        let alike : Alike (member name t ms) (member name u ns) = λ q. h q ∙ ap (λ z. last_of q (member z u ns)) (sym same) in
        let some : Some t ≡ Some u = sym (at_first name t ms r.0 r.1) ∙ alike name ∙ at_first name u ns rises.0 rises.1 in
        let first : t ≡ u = cc in
        let rest : ms ≡ ns = more
        (tails_alike name t ms ns r rises (λ q. alike q ∙ ap (λ z. last_of q (member name z ns)) (sym first))) in
        cc

-- ---- from the left

-- the first of a name hides a later one of it, where there is no later one
first_hides : (b : Bool) (a : Option Tree) (u t : Tree) → (b ≡ true → a ≡ None)
    → or_else a (cond b (Some t) None) ≡ or_else (cond b (Some t) None) (or_else a (cond b (Some u) None))
first_hides true None u t h = refl
first_hides true (Some v) u t h = absurd (none_some _ v (h refl) refl)
first_hides false a u t h = refl

-- a name that is there once may stand first or last
hidden : (b : Bool) (a : Option Tree) (t : Tree) → (b ≡ true → a ≡ None)
    → or_else a (cond b (Some t) None) ≡ or_else (cond b (Some t) None) a
hidden true None t h = refl
hidden true (Some v) t h = absurd (none_some _ v (h refl) refl)
hidden false a t h = or_else_none a

above_itself : (name q : List ℕ) (ms : Members) → BeginsAbove name ms → Rise ms → bytes_eq name q ≡ true → last_of q ms ≡ None
above_itself name q ms b r e = subst (λ z. last_of z ms ≡ None) ((bytes_eq-Decides name q).0 e) (absent name ms b r)

pub last_put : (q name : List ℕ) (t : Tree) (ms : Members) → Rise ms
    → last_of q (put name t ms) ≡ or_else (cond (bytes_eq name q) (Some t) None) (last_of q ms)
last_put q name t no_members r = sym (or_else_none _)
last_put q name t (member other u ms) r = go (text_cmp name other) refl (last_put q name t ms r.1)
  where
    go : (o : Ordering) → text_cmp name other ≡ o
        → last_of q (put name t ms) ≡ or_else (cond (bytes_eq name q) (Some t) None) (last_of q ms)
        → last_of q (match_ordering o (member name t (member other u ms)) (member other t ms) (member other u (put name t ms)))
        ≡ or_else (cond (bytes_eq name q) (Some t) None) (last_of q (member other u ms))
    go Less e more = hidden (bytes_eq name q) (last_of q (member other u ms)) t (λ f. above_itself name q (member other u ms) e r f)
    go Equal e more =
        let same : name ≡ other = exact_bytes name other e in
        first_hides (bytes_eq other q) (last_of q ms) u t (above_itself other q ms r.0 r.1)
        ∙ ap (λ z. or_else (cond (bytes_eq z q) (Some t) None)
        (or_else (last_of q ms) (cond (bytes_eq other q) (Some u) None))) (sym same)
    go Greater e more = ap (λ z. or_else z (cond (bytes_eq other q) (Some u) None)) more
        ∙ or_else_assoc (cond (bytes_eq name q) (Some t) None) (last_of q ms)
        (cond (bytes_eq other q) (Some u) None)

rise_put_all : (f : ℤ → Tree) (made ms : Members) → Rise made → Rise (put_all_by f made ms)
rise_put_all f made no_members h = h
rise_put_all f made (member name t ms) h =
    rise_put_all f (put name (norm_by f t) made) ms (rise_insert (λ t u. t) name (norm_by f t) made h)

last_put_all : (f : ℤ → Tree) (q : List ℕ) (made ms : Members) → Rise made
    → last_of q (put_all_by f made ms) ≡ or_else (option_map (norm_by f) (last_of q ms)) (last_of q made)
last_put_all f q made no_members h = refl
last_put_all f q made (member name t ms) h =
    last_put_all f q (put name (norm_by f t) made) ms (rise_insert (λ t u. t) name (norm_by f t) made h)
    ∙ ap (or_else (option_map (norm_by f) (last_of q ms))) (last_put q name (norm_by f t) made h)
    ∙ sym (or_else_assoc (option_map (norm_by f) (last_of q ms)) (cond (bytes_eq name q) (Some (norm_by f t)) None) (last_of q made))
    ∙ ap (λ z. or_else z (last_of q made)) (mapped f (last_of q ms) (bytes_eq name q) t)

-- members that are read from the left into a map are those of the normal form
pub put_all_norm : (f : ℤ → Tree) (ms : Members) → put_all_by f no_members ms ≡ norm_members_by f ms
put_all_norm f ms = one_rising _ _ (rise_put_all f no_members ms tt) (norm_rises f ms)
    (λ q. last_put_all f q no_members ms tt ∙ or_else_none _ ∙ sym (norm_keeps_last f q ms))

-- members that rise by their names and have at each name the normal form of the last tree are the normal form
pub norm_only : (f : ℤ → Tree) (ms ns : Members) → Rise ns
    → ((q : List ℕ) → last_of q ns ≡ option_map (norm_by f) (last_of q ms)) → ns ≡ norm_members_by f ms
norm_only f ms ns r h = one_rising ns (norm_members_by f ms) r (norm_rises f ms) (λ q. h q ∙ sym (norm_keeps_last f q ms))
