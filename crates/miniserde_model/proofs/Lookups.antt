-- The normal form of members has at each name the normal form of the last tree of that name, and its names strictly
-- ascend. By recursion over the members: `with_if_absent` puts one member in its place, unless a later member has its
-- name.
use Rattle.std.proofs.Common.{◌≡◌, ℕ, ℤ, Bool, true, false, List, Option, Some, None, option_map, bytes_eq, cond}
use Rattle.std.proofs.Common.{refl, sym, ap, ◌∙◌, Ordering, Less, Equal, Greater, true≢false}
use Rattle.std.specs.Ordering.{match_ordering, ordering_reverse, is_eq}
use Rattle.std.proofs.lemmas.Cmp.{nat_list_cmp_total, tied_itself}
use Rattle.std.proofs.lemmas.Map.Lookups.{exact_bytes}
use Rattle.std.proofs.lemmas.Slice.Eq.{bytes_eq-Decides}
use Rattle.miniserde_model.specs.Tree.{Tree, Members, no_members, member}
use Rattle.miniserde_model.specs.Normal.{text_cmp, insert_with, with_if_absent, norm_by, norm_members_by}
use Rattle.miniserde_model.specs.Normal.{or_else, last_of, BeginsAbove, Rise}

abbrev if_same : List ℕ → List ℕ → Tree → Option Tree
if_same name q t = cond (bytes_eq name q) (Some t) None

-- `or_else` without a second tree is the first one
pub or_else_none : (a : Option Tree) → or_else a None ≡ a
or_else_none None = refl
or_else_none (Some t) = refl

-- `or_else` is associative
pub or_else_assoc : (a b c : Option Tree) → or_else (or_else a b) c ≡ or_else a (or_else b c)
or_else_assoc None b c = refl
or_else_assoc (Some t) b c = refl

-- a second tree of a name that stands behind the first
absorbed : (b : Bool) (a : Option Tree) (u t : Tree)
    → or_else a (cond b (Some u) None) ≡ or_else (or_else a (cond b (Some u) None)) (cond b (Some t) None)
absorbed true None u t = refl
absorbed true (Some v) u t = refl
absorbed false None u t = refl
absorbed false (Some v) u t = refl

swapped : (b d : Bool) (a : Option Tree) (u t : Tree) → (b ≡ true → d ≡ true → ⊥)
    → or_else (or_else a (cond b (Some t) None)) (cond d (Some u) None) ≡ or_else (or_else a (cond d (Some u) None))
    (cond b (Some t) None)
swapped true true a u t h = absurd (h refl refl)
swapped true false None u t h = refl
swapped true false (Some v) u t h = refl
swapped false true None u t h = refl
swapped false true (Some v) u t h = refl
swapped false false None u t h = refl
swapped false false (Some v) u t h = refl

same_name : (a b : List ℕ) → bytes_eq a b ≡ true → a ≡ b
same_name a b e = (bytes_eq-Decides a b).0 e

apart : (a b q : List ℕ) → text_cmp a b ≡ Greater → bytes_eq a q ≡ true → bytes_eq b q ≡ true → ⊥
apart a b q g e f =
    let same : a ≡ b = same_name a q e ∙ sym (same_name b q f) in
    let tied : text_cmp a b ≡ Equal = ap (text_cmp a) (sym same) ∙ tied_itself nat_list_cmp_total a in
    true≢false (ap is_eq (sym tied ∙ g))

-- after `with_if_absent name t`, the last tree of q is the old one, or else t if q is `name`
pub last_with_first : (q name : List ℕ) (t : Tree) (ms : Members)
    → last_of q (with_if_absent name t ms) ≡ or_else (last_of q ms) (if_same name q t)
last_with_first q name t no_members = refl
last_with_first q name t (member other u ms) = go (text_cmp name other) refl (last_with_first q name t ms)
  where
    go : (o : Ordering) → text_cmp name other ≡ o → last_of q (with_if_absent name t ms) ≡ or_else (last_of q ms)
        (if_same name q t) → last_of q (match_ordering o (member name t (member other u ms)) (member other u ms) (member other u
        (with_if_absent name t ms)))
        ≡ or_else (or_else (last_of q ms) (if_same other q u)) (if_same name q t)
    go Less e more = refl
    go Equal e more =
        let same : name ≡ other = exact_bytes name other e in
        absorbed (bytes_eq other q) (last_of q ms) u t
        ∙ ap (λ z. or_else (or_else (last_of q ms) (if_same other q u)) (if_same z q t)) (sym same)
    go Greater e more = ap (λ z. or_else z (if_same other q u)) more ∙ swapped (bytes_eq name q) (bytes_eq other q)
        (last_of q ms) u t (apart name other q e)

-- the normal form by f commutes with `or_else`, whose second tree is t if b is true
pub mapped : (f : ℤ → Tree) (a : Option Tree) (b : Bool) (t : Tree)
    → or_else (option_map (norm_by f) a) (cond b (Some (norm_by f t)) None) ≡ option_map (norm_by f)
    (or_else a (cond b (Some t) None))
mapped f None true t = refl
mapped f None false t = refl
mapped f (Some v) true t = refl
mapped f (Some v) false t = refl

-- in the normal form of members by f, each name has the normal form by f of its last tree
pub norm_keeps_last : (f : ℤ → Tree) (q : List ℕ) (ms : Members) → last_of q (norm_members_by f ms) ≡ option_map (norm_by f) (last_of q ms)
norm_keeps_last f q no_members = refl
norm_keeps_last f q (member name t ms) = last_with_first q name (norm_by f t) (norm_members_by f ms)
    ∙ ap (λ z. or_else z (if_same name q (norm_by f t))) (norm_keeps_last f q ms) ∙ mapped f (last_of q ms)
    (bytes_eq name q) t

greater_less : (a b : List ℕ) → text_cmp a b ≡ Greater → text_cmp b a ≡ Less
greater_less a b e = nat_list_cmp_total.antisymm b a ∙ ap ordering_reverse e

above_insert : (choose : Tree → Tree → Tree) (first name : List ℕ) (t : Tree) (ms : Members) → text_cmp first name ≡ Less
    → BeginsAbove first ms → BeginsAbove first (insert_with choose name t ms)
above_insert choose first name t no_members p q = p
above_insert choose first name t (member other u ms) p q = go (text_cmp name other)
  where
    go : (o : Ordering) → BeginsAbove first (match_ordering o (member name t (member other u ms)) (member other (choose t u) ms)
        (member other u (insert_with choose name t ms)))
    go Less = p
    go Equal = q
    go Greater = q

-- if the names of members rise, they rise after `insert_with`, too
pub rise_insert : (choose : Tree → Tree → Tree) (name : List ℕ) (t : Tree) (ms : Members) → Rise ms → Rise (insert_with choose name t ms)
rise_insert choose name t no_members h = (tt, tt)
rise_insert choose name t (member other u ms) h = go (text_cmp name other) refl (rise_insert choose name t ms h.1)
  where
    go : (o : Ordering) → text_cmp name other ≡ o → Rise (insert_with choose name t ms)
        → Rise (match_ordering o (member name t (member other u ms)) (member other (choose t u) ms)
        (member other u (insert_with choose name t ms)))
    go Less e m = (e, h)
    go Equal e m = h
    go Greater e m = (above_insert choose other name t ms (greater_less name other e) h.0, m)

-- a name below all others is put in front
pub first_of_all : (name : List ℕ) (t : Tree) (ms : Members) → BeginsAbove name ms → with_if_absent name t ms ≡ member name t ms
first_of_all name t no_members b = refl
first_of_all name t (member other u ms) b =
    ap (λ o. match_ordering o (member name t (member other u ms)) (member other u ms) (member other u (with_if_absent name t ms))) b

-- the names in the normal form of members by f rise
pub norm_rises : (f : ℤ → Tree) (ms : Members) → Rise (norm_members_by f ms)
norm_rises f no_members = tt
norm_rises f (member name t ms) = rise_insert (λ t u. u) name (norm_by f t) (norm_members_by f ms) (norm_rises f ms)
