-- The members of an object, sorted by name and reduced to the last of equal names, are its normal form. Their names
-- rise, each name has its last tree, and by `norm_only` no other members have both properties.
use Rattle.std.proofs.Common.{◌≡◌, ◌<◌, ℕ, zero, suc, ◌+◌, List, [], ◌∷◌, ◌++◌, length, drop, get_or, refl, sym, ap}
use Rattle.std.proofs.Common.{ap₂, subst, ◌∙◌, arith, drop-cons, add-one, Ordering, Less, Equal, Greater, bytes_eq}
use Rattle.std.proofs.Common.{Bool, true, false, cond, not, ◌&&◌, Option, Some, None, option_map, is_some, is_lt}
use Rattle.std.proofs.Common.{filter, true≢false, IsSortedByKey}
use Rattle.std.specs.Ordering.{ordering_reverse}
use Rattle.std.specs.List.{range_with_len}
use Rattle.std.specs.List.Sorted.{IsStableBy, ties}
use Rattle.std.proofs.lemmas.Cmp.{nat_list_cmp_total, tied_itself}
use Rattle.std.proofs.lemmas.Map.Lookups.{exact_bytes}
use Rattle.std.proofs.lemmas.Slice.Eq.{bytes_eq-Decides}
use Rattle.miniserde_model.specs.Tree.{Tree, str, Members, no_members, member}
use Rattle.miniserde_model.specs.Normal.{text_cmp, norm_neg, norm, norm_members, or_else, last_of, BeginsAbove, Rise}
use Rattle.miniserde_model.proofs.Lookups.{or_else_none}
use Rattle.miniserde_model.proofs.OneNormal.{norm_only}
use Rattle.miniserde_canonical.specs.declared.member.Member.{Member}
use Rattle.miniserde_canonical.specs.private.MemberNames.{name_of}
use Rattle.miniserde_canonical.specs.private.Members.{name_in, NamesRise, named_members, members_at}
use Rattle.miniserde_canonical.specs.private.Members.{begins_with_name, without_repeats}
use Rattle.miniserde_canonical.specs.private.States.{MemberEntry, text_before, entry_members, count}
use Rattle.miniserde_canonical.specs.private.SortMembers.{own_text_tree}

-- ---- names and entries

-- there are as many members as entries, and they have the same names in order
abbrev pub Agree : List Member → List MemberEntry → Type 0
Agree [] [] = Unit {0}
Agree (n ∷ ns) (e ∷ es) = (name_of n.name ≡ e.name) × Agree ns es
Agree _ _ = ⊥

-- the n + 1 numbers from a on are the n numbers from a on, and then a + n
pub numbers_more : (a n : ℕ) → range_with_len a (n + 1) ≡ range_with_len a n ++ (a + n) ∷ []
numbers_more a n = ap (range_with_len a) (add-one n) ∙ more a n
  where
    more : (a n : ℕ) → range_with_len a (suc n) ≡ range_with_len a n ++ (a + n) ∷ []
    more a zero = let same : a ≡ a + 0 = omega arith in ap (λ z. z ∷ []) same
    more a (suc n) = let same : a + 1 + n ≡ a + suc n =
        omega arith in ap (λ z. a ∷ z) (more (a + 1) n ∙ ap (λ z. range_with_len (a + 1) n ++ z ∷ []) same)

-- without the first member and its entry, each of the others stands at the index before
rows_later : (n : Member) (e : MemberEntry) (ns : List Member) (es : List MemberEntry) (last : List ℕ) (i k : ℕ)
    → members_at (n ∷ ns) (own_text_tree (e ∷ es) last) (range_with_len (suc i) k)
    ≡ members_at ns (own_text_tree es last) (range_with_len i k)
rows_later n e ns es last i zero = refl
rows_later n e ns es last i (suc k) =
    let next : suc i + 1 ≡ suc (i + 1) = omega arith in
    ap (λ z. member (name_in ns i) (own_text_tree es last i) z)
    (ap (λ z. members_at (n ∷ ns) (own_text_tree (e ∷ es) last) (range_with_len z k)) next ∙ rows_later n e ns es last (i + 1) k)

-- members that agree with entries, each with its own text in the place of its tree, are the entries as members
pub rows_all : (ns : List Member) (es : List MemberEntry) (last : List ℕ) → Agree ns es
    → members_at ns (own_text_tree es last) (range_with_len 0 (length ns)) ≡ entry_members es last
rows_all [] [] last a = refl
rows_all (n ∷ ns) (e ∷ es) last a =
    ap₂ (λ (p : List ℕ) (q : Members). member p (str (text_before es last)) q) a.0
    (rows_later n e ns es last 0 (length ns) ∙ rows_all ns es last a.1)
rows_all [] (e ∷ es) last a = absurd a
rows_all (n ∷ ns) [] last a = absurd a

-- members that agree with entries are as many as the entries
pub ended_count : (ns : List Member) (es : List MemberEntry) (last : List ℕ) → Agree ns es → count (entry_members es last) ≡ length ns
ended_count [] [] last a = refl
ended_count (n ∷ ns) (e ∷ es) last a = ap suc (ended_count ns es last a.1)
ended_count [] (e ∷ es) last a = absurd a
ended_count (n ∷ ns) [] last a = absurd a

-- if the names of members rise, those of the entries that agree with them rise
pub rise_all : (ns : List Member) (es : List MemberEntry) (last : List ℕ) → Agree ns es → NamesRise ns → Rise (entry_members es last)
rise_all [] [] last a h = tt
rise_all (n ∷ []) (e ∷ []) last a h = (tt, tt)
rise_all (n ∷ m ∷ ns) (e ∷ f ∷ es) last a h = (
  sym (ap₂ text_cmp a.0 a.1.0) ∙ h 0 n (omega arith),
  rise_all (m ∷ ns) (f ∷ es) last a.1 (λ k d l. let next : suc k + 1 ≡ suc (k + 1) = omega arith in rw next at (h (suc k) d (omega arith))),
)
rise_all [] (e ∷ es) last a h = absurd a
rise_all (n ∷ ns) [] last a h = absurd a
rise_all (n ∷ []) (e ∷ f ∷ es) last a h = absurd a.1
rise_all (n ∷ m ∷ ns) (e ∷ []) last a h = absurd a.1

-- ---- one row

row_at : (ns : List Member) (r : ℕ → Tree) (order : List ℕ) (k d : ℕ) → k < length order
    → members_at ns r (drop k order) ≡ member (name_in ns (get_or order k d)) (r (get_or order k d))
    (members_at ns r (drop (k + 1) order))
row_at ns r order k d l =
    ap (members_at ns r) (drop-cons order k d l)
    ∙ ap (λ z. member (name_in ns (get_or order k d)) (r (get_or order k d)) (members_at ns r (drop z order)))
    (sym (add-one k))

-- if the member at k in the order has the next one's name, `without_repeats` drops it
pub kept_skip : (ns : List Member) (r : ℕ → Tree) (order : List ℕ) (k d : ℕ) → k < length order
    → begins_with_name (name_in ns (get_or order k d)) (members_at ns r (drop (k + 1) order)) ≡ true
    → without_repeats (members_at ns r (drop k order)) ≡ without_repeats (members_at ns r (drop (k + 1) order))
kept_skip ns r order k d l e =
    let i = get_or order k d in
    let rest = members_at ns r (drop (k + 1) order) in
    ap without_repeats (row_at ns r order k d l)
    ∙ ap (λ z. cond z (without_repeats rest) (member (name_in ns i) (r i) (without_repeats rest))) e

-- unless the member at k in the order has the next one's name, `without_repeats` keeps it
pub kept_take : (ns : List Member) (r : ℕ → Tree) (order : List ℕ) (k d : ℕ) → k < length order
    → begins_with_name (name_in ns (get_or order k d)) (members_at ns r (drop (k + 1) order)) ≡ false
    → without_repeats (members_at ns r (drop k order)) ≡ member (name_in ns (get_or order k d))
    (r (get_or order k d)) (without_repeats (members_at ns r (drop (k + 1) order)))
kept_take ns r order k d l e =
    let i = get_or order k d in
    let rest = members_at ns r (drop (k + 1) order) in
    ap without_repeats (row_at ns r order k d l)
    ∙ ap (λ z. cond z (without_repeats rest) (member (name_in ns i) (r i) (without_repeats rest))) e

-- ---- sorted members without repeats rise

less : (a b : List ℕ) → is_lt (text_cmp b a) ≡ false → bytes_eq a b ≡ false → text_cmp a b ≡ Less
less a b s d = go (text_cmp a b) refl
  where
    go : (o : Ordering) → text_cmp a b ≡ o → o ≡ Less
    go Less e = refl
    go Equal e = absurd (true≢false (sym ((bytes_eq-Decides a b).1 (exact_bytes a b e)) ∙ d))
    go Greater e = absurd (true≢false (sym (ap is_lt (nat_list_cmp_total.antisymm b a ∙ ap ordering_reverse e)) ∙ s))

-- the name of the first member is not below n, in byte order; without members there is nothing to say
abbrev HeadsOrder : List ℕ → Members → Type 0
HeadsOrder n no_members = Unit {0}
HeadsOrder n (member m t ms) = is_lt (text_cmp m n) ≡ false

-- the names of the members do not fall
abbrev Orders : Members → Type 0
Orders no_members = Unit {0}
Orders (member n t ms) = HeadsOrder n ms × Orders ms

orders_sorted : {X : Type 0} (n : X → List ℕ) (r : X → Tree) (ms : List X) → IsSortedByKey n text_cmp ms → Orders (named_members n r ms)
orders_sorted n r [] s = tt
orders_sorted n r (m ∷ []) s = (tt, tt)
orders_sorted n r (m ∷ k ∷ ms) s = (
  s 0 m (omega arith) (omega arith),
  orders_sorted n r (k ∷ ms)
      (λ i c l h. let next : suc i + 1 ≡ suc (i + 1) =
      omega arith in rw next at (s (suc i) c (omega arith) (omega arith))),
)

kept_above : (n : List ℕ) (ms : Members) → BeginsAbove n ms → BeginsAbove n (without_repeats ms)
kept_above n no_members b = tt
kept_above n (member m t ms) b = go (begins_with_name m ms) refl (λ a. kept_above n ms a)
  where
    carried : (ks : Members) → begins_with_name m ks ≡ true → BeginsAbove n ks
    carried no_members e = absurd (true≢false (sym e))
    carried (member k u ks) e = subst (λ z. text_cmp n z ≡ Less) ((bytes_eq-Decides m k).0 e) b

    go : (o : Bool) → begins_with_name m ms ≡ o → (BeginsAbove n ms → BeginsAbove n (without_repeats ms))
        → BeginsAbove n (cond o (without_repeats ms) (member m t (without_repeats ms)))
    go true e more = more (carried ms e)
    go false e more = b

kept_rise : (ms : Members) → Orders ms → Rise (without_repeats ms)
kept_rise no_members o = tt
kept_rise (member n t ms) o = go (begins_with_name n ms) refl (kept_rise ms o.1)
  where
    above : (ks : Members) → HeadsOrder n ks → begins_with_name n ks ≡ false → BeginsAbove n ks
    above no_members h e = tt
    above (member k u ks) h e = less n k h e

    go : (b : Bool) → begins_with_name n ms ≡ b → Rise (without_repeats ms)
        → Rise (cond b (without_repeats ms) (member n t (without_repeats ms)))
    go true e r = r
    go false e r = (kept_above n ms (above ms o.0 e), r)

-- ---- the last of a name stays

absorbed : (b : Bool) (a : Option Tree) (u t : Tree)
    → or_else a (cond b (Some u) None) ≡ or_else (or_else a (cond b (Some u) None)) (cond b (Some t) None)
absorbed true None u t = refl
absorbed true (Some v) u t = refl
absorbed false None u t = refl
absorbed false (Some v) u t = refl

kept_last : (q : List ℕ) (ms : Members) → last_of q (without_repeats ms) ≡ last_of q ms
kept_last q no_members = refl
kept_last q (member n t ms) = go (begins_with_name n ms) refl (kept_last q ms)
  where
    hidden : (ks : Members) → begins_with_name n ks ≡ true → last_of q ks ≡ or_else (last_of q ks) (cond (bytes_eq n q) (Some t) None)
    hidden no_members e = absurd (true≢false (sym e))
    hidden (member k u ks) e =
        absorbed (bytes_eq k q) (last_of q ks) u t
        ∙ ap (λ z. or_else (or_else (last_of q ks) (cond (bytes_eq k q) (Some u) None))
        (cond (bytes_eq z q) (Some t) None)) (sym ((bytes_eq-Decides n k).0 e))

    go : (b : Bool) → begins_with_name n ms ≡ b → last_of q (without_repeats ms) ≡ last_of q ms
        → last_of q (cond b (without_repeats ms) (member n t (without_repeats ms))) ≡ or_else (last_of q ms)
        (cond (bytes_eq n q) (Some t) None)
    go true e h = h ∙ hidden ms e
    go false e h = ap (λ z. or_else z (cond (bytes_eq n q) (Some t) None)) h

-- ---- a stable sort keeps the last of each name

abbrev below : {X : Type 0} → (X → List ℕ) → X → X → Bool
below n x y = is_lt (text_cmp (n x) (n y))

ties_same : {X : Type 0} (n : X → List ℕ) (x e : X) → ties (below n) x e ≡ bytes_eq (n e) (n x)
ties_same n x e = go (text_cmp (n x) (n e)) refl
  where
    turned : (o : Ordering) → text_cmp (n x) (n e) ≡ o → text_cmp (n e) (n x) ≡ ordering_reverse o
    turned o h = nat_list_cmp_total.antisymm (n e) (n x) ∙ ap ordering_reverse h

    apart : (o : Ordering) → text_cmp (n x) (n e) ≡ o → (o ≡ Equal → ⊥) → bytes_eq (n e) (n x) ≡ false
    apart o h neq = look (bytes_eq (n e) (n x)) refl
      where
        look : (b : Bool) → bytes_eq (n e) (n x) ≡ b → b ≡ false
        look false g = refl
        look true g = absurd (neq
            (sym h ∙ ap (λ z. text_cmp (n x) z) ((bytes_eq-Decides (n e) (n x)).0 g)
            ∙ tied_itself nat_list_cmp_total (n x)))

    go : (o : Ordering) → text_cmp (n x) (n e) ≡ o → ties (below n) x e ≡ bytes_eq (n e) (n x)
    go Less h = ap₂ (λ (a b : Ordering). not (is_lt a) && not (is_lt b)) h (turned Less h) ∙ sym (apart Less h (λ f. cc))
    go Equal h = ap₂ (λ (a b : Ordering). not (is_lt a) && not (is_lt b)) h (turned Equal h)
        ∙ sym ((bytes_eq-Decides (n e) (n x)).1 (sym (exact_bytes (n x) (n e) h)))
    go Greater h = ap₂ (λ (a b : Ordering). not (is_lt a) && not (is_lt b)) h (turned Greater h) ∙ sym (apart Greater h (λ f. cc))

last_filtered : {X : Type 0} (n : X → List ℕ) (r : X → Tree) (x : X) (ms : List X)
    → last_of (n x) (named_members n r (filter (ties (below n) x) ms)) ≡ last_of (n x) (named_members n r ms)
last_filtered n r x [] = refl
last_filtered n r x (m ∷ ms) = go (bytes_eq (n m) (n x)) refl (last_filtered n r x ms)
  where
    go : (b : Bool) → bytes_eq (n m) (n x) ≡ b → last_of (n x) (named_members n r (filter (ties (below n) x) ms))
        ≡ last_of (n x) (named_members n r ms)
        → last_of (n x) (named_members n r (filter (ties (below n) x) (m ∷ ms)))
        ≡ last_of (n x) (named_members n r (m ∷ ms))
    go true e h = ap (λ z. last_of (n x)
        (named_members n r (cond z (m ∷ filter (ties (below n) x) ms) (filter (ties (below n) x) ms))))
        (ties_same n x m ∙ e) ∙ ap (λ z. or_else z (cond (bytes_eq (n m) (n x)) (Some (r m)) None)) h
    go false e h = ap (λ z. last_of (n x)
        (named_members n r (cond z (m ∷ filter (ties (below n) x) ms) (filter (ties (below n) x) ms))))
        (ties_same n x m ∙ e) ∙ h
        ∙ sym (ap (λ z. or_else (last_of (n x) (named_members n r ms)) (cond z (Some (r m)) None)) e
        ∙ or_else_none (last_of (n x) (named_members n r ms)))

named : {X : Type 0} (n : X → List ℕ) (r : X → Tree) (q : List ℕ) (ms : List X) (t : Tree)
    → last_of q (named_members n r ms) ≡ Some t → (e : X) × ((n e) ≡ q)
named n r q [] t h = absurd (true≢false (sym (ap is_some h)))
named {X = X} n r q (m ∷ ms) t h = go (last_of q (named_members n r ms)) (bytes_eq (n m) q) refl refl h (λ u w. named n r q ms u w)
  where
    go : (o : Option Tree) (b : Bool) → last_of q (named_members n r ms) ≡ o → bytes_eq (n m) q ≡ b
        → or_else o (cond b (Some (r m)) None) ≡ Some t
        → ((u : Tree) → last_of q (named_members n r ms) ≡ Some u → (e : X) × ((n e) ≡ q)) → (e : X) × ((n e) ≡ q)
    go (Some u) b w s g more = more u w
    go None true w s g more = (m, (bytes_eq-Decides (n m) q).0 s)
    go None false w s g more = absurd (true≢false (sym (ap is_some g)))

-- if elements of one name stand in ys in the order of xs, each name has the same last tree in both
pub stable_last : {X : Type 0} (n : X → List ℕ) (r : X → Tree) (xs ys : List X) → IsStableBy (below n) xs ys
    → (q : List ℕ) → last_of q (named_members n r ys) ≡ last_of q (named_members n r xs)
stable_last {X = X} n r xs ys s q = go (last_of q (named_members n r ys)) (last_of q (named_members n r xs)) refl refl
  where
    at : (e : X) → last_of (n e) (named_members n r ys) ≡ last_of (n e) (named_members n r xs)
    at e = sym (last_filtered n r e ys) ∙ ap (λ z. last_of (n e) (named_members n r z)) (s e) ∙ last_filtered n r e xs

    at_name : (e : X) → (n e) ≡ q → last_of q (named_members n r ys) ≡ last_of q (named_members n r xs)
    at_name e h = subst (λ z. last_of z (named_members n r ys) ≡ last_of z (named_members n r xs)) h (at e)

    go : (a b : Option Tree) → last_of q (named_members n r ys) ≡ a → last_of q (named_members n r xs) ≡ b
        → last_of q (named_members n r ys) ≡ last_of q (named_members n r xs)
    go None None f g = f ∙ sym g
    go (Some t) b f g = let e = named n r q ys t f in at_name e.0 e.1
    go None (Some t) f g = let e = named n r q xs t g in at_name e.0 e.1

-- ---- the rows of a sorted object are its normal form

normal_tree : (b : Bool) (o : Option Tree) (x : List ℕ) → option_map norm o ≡ o
    → option_map norm (or_else o (cond b (Some (str x)) None)) ≡ or_else o (cond b (Some (str x)) None)
normal_tree true None x h = refl
normal_tree false None x h = refl
normal_tree b (Some t) x h = h

normal_last : (q : List ℕ) (es : List MemberEntry) (last : List ℕ) → option_map norm (last_of q (entry_members es last))
    ≡ last_of q (entry_members es last)
normal_last q [] last = refl
normal_last q (e ∷ es) last = normal_tree (bytes_eq e.name q) (last_of q (entry_members es last))
    (text_before es last) (normal_last q es last)

-- `order` has the indices of the members ns in the order of their names, and of each name the last index last: whatever
-- tree r gives each index, it gives each name the one that the indices in ascending order give it
pub record InNameOrder (ns : List Member) (order : List ℕ) : Type 0 where
  pub sorted : IsSortedByKey (name_in ns) text_cmp order
  pub lasts : (r : ℕ → Tree) (q : List ℕ)
      → last_of q (members_at ns r order) ≡ last_of q (members_at ns r (range_with_len 0 (length ns)))

-- members sorted by name, each name with its last tree, are without repeats the normal form of the entries
pub kept_normal : (ns : List Member) (es : List MemberEntry) (last order : List ℕ) → Agree ns es → InNameOrder ns order
    → without_repeats (members_at ns (own_text_tree es last) order) ≡ norm_members (entry_members es last)
kept_normal ns es last order a o =
    let r = own_text_tree es last in
    let all : members_at ns r (range_with_len 0 (length ns)) ≡ entry_members es last = rows_all ns es last a in
    norm_only norm_neg (entry_members es last) (without_repeats (members_at ns r order))
    (kept_rise (members_at ns r order) (orders_sorted (name_in ns) r order o.sorted))
    (λ q. kept_last q (members_at ns r order) ∙ o.lasts r q ∙ ap (last_of q) all ∙ sym (normal_last q es last))
