-- If the meanings of the parts agree, the meanings of lists, arrays, boxes, options, pairs and maps agree. For each
-- type one lemma compares the values that a tree means and one whether it means any, by recursion over the tree's
-- children.
use Rattle.std.proofs.Common.{◌≡◌, ℕ, suc, nat_eq, cond, length, true, false, List, [], ◌∷◌, Option, Some, None, refl, sym, ap, ◌∙◌}
use Rattle.std.specs.Prelude.{◌&&◌, is_some, IsSome, option_map, option_and_then, ⊤}
use Rattle.miniserde_model.specs.Tree.{Tree, null, list, members, Trees, no_trees, tree, Members, no_members, member}
use Rattle.miniserde_read.specs.types.Lists.{EachReads, ListReads, each, list_of}
use Rattle.miniserde_read.specs.types.Options.{OptionReads, option_of}
use Rattle.miniserde_keys.specs.Keys.{Key}
use Rattle.miniserde_read.specs.types.Arrays.{exactly, array_of}
use Rattle.miniserde_read.specs.types.Pairs.{PairReads, pair_of, both}
use Rattle.miniserde_read.specs.types.Objects.{Name, after_members}
use Rattle.miniserde_read.specs.types.Maps.{KeyMeaning, AllAccepted, MapReads, EntryFits, MapContent, no_entries, with_entry}
use Rattle.miniserde_read.specs.types.Maps.{map_member, map_of}
use Rattle.miniserde_read.specs.Meaning.{Meaning}
use Rattle.miniserde_read.specs.Meanings.{list_meaning, array_meaning, option_meaning, box_meaning, pair_meaning, map_meaning}
use Rattle.miniserde_places.specs.Tied.{Agree}

pub agree_back : {V : Type 0} (m n : Meaning V) → Agree m n → Agree n m
agree_back m n a = record { same = λ t v. ((a.same t v).1, (a.same t v).0); some = λ t. sym (a.some t) }

-- ---- lists

module _ {V : Type 0} (m n : Meaning V) (a : Agree m n) where
  each_to : (ts : Trees) (xs : List V) → EachReads m.reads ts xs → EachReads n.reads ts xs
  each_to no_trees [] h = h
  each_to no_trees (x ∷ xs) h = h
  each_to (tree t ts) [] h = h
  each_to (tree t ts) (x ∷ xs) h = ((a.same t x).0 h.0, each_to ts xs h.1)

  list_to : (t : Tree) (xs : List V) → ListReads m.reads t xs → ListReads n.reads t xs
  list_to (list ts) xs h = each_to ts xs h
  list_to t xs h = absurd h

is_each : {C : Type 0} (f : Tree → Option C) (t : Tree) (ts : Trees) → is_some (each f (tree t ts)) ≡ (is_some (f t) && is_some (each f ts))
is_each f t ts =
    elim (f t) as (λ o. is_some (option_and_then (λ x. option_and_then (λ xs. Some (x ∷ xs)) (each f ts)) o)
    ≡ (is_some o && is_some (each f ts))) [
      | None ↦ refl
      | Some c ↦ elim (each f ts) as (λ o. is_some (option_and_then (λ xs. Some (c ∷ xs)) o) ≡ is_some o) [ None ↦ refl | Some cs ↦ refl ]
    ]

each_some : {C D : Type 0} (f : Tree → Option C) (g : Tree → Option D)
    → ((t : Tree) → is_some (f t) ≡ is_some (g t)) → (ts : Trees) → is_some (each f ts) ≡ is_some (each g ts)
each_some f g e no_trees = refl
each_some f g e (tree t ts) = is_each f t ts ∙ ap (λ b. b && is_some (each f ts)) (e t)
    ∙ ap (λ b. is_some (g t) && b) (each_some f g e ts) ∙ sym (is_each g t ts)

list_some : {C D : Type 0} (f : Tree → Option C) (g : Tree → Option D)
    → ((t : Tree) → is_some (f t) ≡ is_some (g t)) → (t : Tree) → is_some (list_of f t) ≡ is_some (list_of g t)
list_some f g e (list ts) = each_some f g e ts
list_some f g e t = refl

-- if m and n agree, so do the meanings of lists whose items m and n mean
pub list_agree : {V W : Type 0} (m n : Meaning V) (f : W → List V) → Agree m n → Agree (list_meaning m f) (list_meaning n f)
list_agree m n f a = record {
  same = λ t v. (list_to m n a t (f v), list_to n m (agree_back m n a) t (f v));
  some = list_some m.from_tree n.from_tree a.some;
}

-- ---- arrays and boxes

-- both are there, with as many items, or neither is
abbrev alike : {C D : Type 0} → Option (List C) → Option (List D) → Type 0
alike None None = ⊤
alike (Some xs) (Some ys) = length xs ≡ length ys
alike _ _ = ⊥

alike_more : {C D : Type 0} (x : Option C) (y : Option D) → is_some x ≡ is_some y
    → (o : Option (List C)) (p : Option (List D)) → alike o p
    → alike (option_and_then (λ c. option_and_then (λ cs. Some (c ∷ cs)) o) x)
    (option_and_then (λ c. option_and_then (λ cs. Some (c ∷ cs)) p) y)
alike_more None None h o p k = tt
alike_more None (Some y) h o p k = absurd (cc)
alike_more (Some x) None h o p k = absurd (cc)
alike_more (Some x) (Some y) h None None k = tt
alike_more (Some x) (Some y) h None (Some ds) k = absurd k
alike_more (Some x) (Some y) h (Some cs) None k = absurd k
alike_more (Some x) (Some y) h (Some cs) (Some ds) k = ap suc k

each_alike : {C D : Type 0} (f : Tree → Option C) (g : Tree → Option D)
    → ((t : Tree) → is_some (f t) ≡ is_some (g t)) → (ts : Trees) → alike (each f ts) (each g ts)
each_alike f g e no_trees = refl
each_alike f g e (tree t ts) = alike_more (f t) (g t) (e t) (each f ts) (each g ts) (each_alike f g e ts)

is_exact : {C : Type 0} (n : ℕ) (xs : List C) → is_some (exactly n xs) ≡ nat_eq (length xs) n
is_exact n xs = elim (nat_eq (length xs) n) as (λ b. is_some (cond b (Some xs) None) ≡ b) [ true ↦ refl | false ↦ refl ]

exact_some : {C D : Type 0} (n : ℕ) (o : Option (List C)) (p : Option (List D)) → alike o p
    → is_some (option_and_then (exactly n) o) ≡ is_some (option_and_then (exactly n) p)
exact_some n None None k = refl
exact_some n None (Some ys) k = absurd k
exact_some n (Some xs) None k = absurd k
exact_some n (Some xs) (Some ys) k = is_exact n xs ∙ ap (λ l. nat_eq l n) k ∙ sym (is_exact n ys)

array_some : {C D : Type 0} (n : ℕ) (f : Tree → Option C) (g : Tree → Option D)
    → ((t : Tree) → is_some (f t) ≡ is_some (g t)) → (t : Tree)
    → is_some (array_of n f t) ≡ is_some (array_of n g t)
array_some n f g e (list ts) = exact_some n (each f ts) (each g ts) (each_alike f g e ts)
array_some n f g e t = refl

-- if m and n agree, so do the meanings of arrays of k items that m and n mean
pub array_agree : {V W : Type 0} (k : ℕ) (m n : Meaning V) (f : W → List V) → Agree m n → Agree (array_meaning k m f) (array_meaning k n f)
array_agree k m n f a = record {
  same = λ t v. (λ h. (list_to m n a t (f v) h.0, h.1), λ h. (list_to n m (agree_back m n a) t (f v) h.0, h.1));
  some = array_some k m.from_tree n.from_tree a.some;
}

-- if m and n agree, so do the meanings of boxes of values that m and n mean
pub box_agree : {V W : Type 0} (m n : Meaning V) (f : W → V) → Agree m n → Agree (box_meaning m f) (box_meaning n f)
box_agree m n f a = record { same = λ t v. a.same t (f v); some = a.some }

-- ---- optional values

option_to : {V : Type 0} (m n : Meaning V) → Agree m n → (t : Tree) (v : Option V) → OptionReads m.reads t v → OptionReads n.reads t v
option_to m n a t None h = h
option_to m n a t (Some x) h = (h.0, (a.same t x).0 h.1)

is_mapped : {C : Type 0} (o : Option C) → is_some (option_map Some o) ≡ is_some o
is_mapped None = refl
is_mapped (Some c) = refl

option_some : {C D : Type 0} (f : Tree → Option C) (g : Tree → Option D)
    → ((t : Tree) → is_some (f t) ≡ is_some (g t)) → (t : Tree) → is_some (option_of f t) ≡ is_some (option_of g t)
option_some f g e null = refl
option_some f g e t = is_mapped (f t) ∙ e t ∙ sym (is_mapped (g t))

-- if m and n agree, so do the meanings of optional values that m and n mean
pub option_agree : {V : Type 0} (m n : Meaning V) → Agree m n → Agree (option_meaning m) (option_meaning n)
option_agree m n a = record {
  same = λ t v. (option_to m n a t v, option_to n m (agree_back m n a) t v);
  some = option_some m.from_tree n.from_tree a.some;
}

-- ---- the same

-- a meaning agrees with itself
pub agree_same : {V : Type 0} (m : Meaning V) → Agree m m
agree_same m = record { same = λ t v. (λ h. h, λ h. h); some = λ t. refl }

-- ---- pairs

module _ {V U : Type 0} (m m' : Meaning V) (n n' : Meaning U) (a : Agree m m') (b : Agree n n') where
  pair_to : (t : Tree) (v : V × U) → PairReads m.reads n.reads t v → PairReads m'.reads n'.reads t v
  pair_to (list (tree t (tree u no_trees))) v h = ((a.same t v.0).0 h.0, (b.same u v.1).0 h.1)
  pair_to t v h = absurd h

is_both : {A B : Type 0} (x : Option A) (y : Option B) → is_some (both (x, y)) ≡ (is_some x && is_some y)
is_both None y = refl
is_both (Some a) None = refl
is_both (Some a) (Some b) = refl

module _ {A B C D : Type 0} (f : Tree → Option A) (f' : Tree → Option C) (g : Tree → Option B)
    (g' : Tree → Option D) (e : (t : Tree) → is_some (f t) ≡ is_some (f' t))
    (k : (t : Tree) → is_some (g t) ≡ is_some (g' t)) where
  pair_some : (t : Tree) → is_some (pair_of f g t) ≡ is_some (pair_of f' g' t)
  pair_some (list (tree t (tree u no_trees))) = is_both (f t) (g u) ∙ ap (λ z. z && is_some (g u)) (e t)
      ∙ ap (λ z. is_some (f' t) && z) (k u) ∙ sym (is_both (f' t) (g' u))
  pair_some t = refl

-- if m and m' agree, and n and n' too, so do the meanings of pairs by m and n and by m' and n'
pub pair_agree : {V U W : Type 0} (m m' : Meaning V) (n n' : Meaning U) (f : W → V) (g : W → U) → Agree m m'
    → Agree n n' → Agree (pair_meaning m n f g) (pair_meaning m' n' f g)
pair_agree m m' n n' f g a b = record {
  same = λ t v. (pair_to m m' n n' a b t (f v, g v), pair_to m' m n' n (agree_back m m' a) (agree_back n n' b) t (f v, g v));
  some = pair_some m.from_tree m'.from_tree n.from_tree n'.from_tree a.some b.some;
}

-- ---- maps

is_too : {A B : Type 0} (x : Option A) (y : Option B) → is_some x ≡ is_some y → IsSome x → IsSome y
is_too x y e h = sym e ∙ h

then_some : {A B S R X Y : Type 0} (x : Option A) (y : Option B) → is_some x ≡ is_some y
    → (p : A → S) (q : B → R) (f : S → Option X) (g : R → Option Y)
    → ((s : S) (r : R) → is_some (f s) ≡ is_some (g r)) → is_some (option_and_then f (option_map p x))
    ≡ is_some (option_and_then g (option_map q y))
then_some None None h p q f g k = refl
then_some None (Some y) h p q f g k = absurd (cc)
then_some (Some x) None h p q f g k = absurd (cc)
then_some (Some x) (Some y) h p q f g k = k (p x) (q y)

module _ {C D : Type 0} (read : Name → Option Key) (code : Key → Key) (f : Tree → Option C) (g : Tree → Option D)
    (e : (t : Tree) → is_some (f t) ≡ is_some (g t)) where
  taken_to : (ms : Members) → AllAccepted read f ms → AllAccepted read g ms
  taken_to no_members h = h
  taken_to (member k t ms) h = (h.0, (is_too (f t) (g t) (e t) h.1.0, taken_to ms h.1.1))

  all_some : (ms : Members) (s : MapContent C) (r : MapContent D)
      → is_some (after_members (map_member read code f) s ms)
      ≡ is_some (after_members (map_member read code g) r ms)
  all_some no_members s r = refl
  all_some (member k t ms) s r =
      elim (read k) as (λ o. is_some
      (option_and_then (λ q. after_members (map_member read code f) q ms)
      (option_and_then (λ c. option_map (with_entry code s c) (f t)) o))
      ≡ is_some (option_and_then (λ q. after_members (map_member read code g) q ms)
      (option_and_then (λ c. option_map (with_entry code r c) (g t)) o))) [
        | None ↦ refl
        | Some c ↦ then_some (f t) (g t) (e t) (with_entry code s c) (with_entry code r c)
            (λ q. after_members (map_member read code f) q ms) (λ q. after_members (map_member read code g) q ms)
            (λ x y. all_some ms x y)
      ]

  map_some : (t : Tree) → is_some (map_of read code f t) ≡ is_some (map_of read code g t)
  map_some (members ms) = all_some ms no_entries no_entries
  map_some t = refl

means_to : {K V : Type 0} (m n : Meaning V) (a : Agree m n) (content : K → Key) (p : Option (Key × Tree))
    (x : Option (K × V)) → EntryFits content m.reads p x → EntryFits content n.reads p x
means_to m n a content None None h = h
means_to m n a content None (Some x) h = h
means_to m n a content (Some p) None h = h
means_to m n a content (Some p) (Some x) h = (h.0, (a.same p.1 x.1).0 h.1)

map_to : {K V : Type 0} (k : KeyMeaning K) (m n : Meaning V) (a : Agree m n) (t : Tree) (es : List (K × V))
    → MapReads k m.from_tree m.reads t es → MapReads k n.from_tree n.reads t es
map_to k m n a (members ms) es h =
    (taken_to k.read k.code m.from_tree n.from_tree a.some ms h.0, λ q. means_to m n a k.content _ _ (h.1 q))
map_to k m n a t es h = absurd h

-- if m and n agree, so do the meanings of maps whose values m and n mean
pub map_agree : {K V W : Type 0} (k : KeyMeaning K) (m n : Meaning V) (f : W → List (K × V)) → Agree m n
    → Agree (map_meaning k m f) (map_meaning k n f)
map_agree k m n f a = record {
  same = λ t v. (map_to k m n a t (f v), map_to k n m (agree_back m n a) t (f v));
  some = map_some k.read k.code m.from_tree n.from_tree a.some;
}
