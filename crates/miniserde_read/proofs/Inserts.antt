-- Inserting an entry into a map changes the content of the map at the code of the key, and nowhere else. By recursion
-- over the entries, for entries in the order of their keys (`map_content-inserted`) and for entries in any order
-- (`map_content-put`).
use Rattle.std.proofs.Common.{◌≡◌, Bool, true, false, cond, List, [], ◌∷◌, Option, Some, None, refl, sym, ap, ◌∙◌, subst}
use Rattle.std.specs.Prelude.{bytes_eq, option_map, option_and_then}
use Rattle.std.specs.Map.{keys_of, lookup, set_value}
use Rattle.std.specs.Ordering.{is_eq, match_ordering}
use Rattle.std.specs.declared.cmp.Ordering.{Ordering}
use Rattle.std.specs.declared.cmp.Ordering.TheVariants.{Less, Equal, Greater}
use Rattle.std.specs.Cmp.{IsTotalOrder}
use Rattle.std.specs.BTreeMap.{insert_entry, is_at}
use Rattle.std.specs.Option.{MatchOption}
use Rattle.std.specs.List.{IsDistinct}
use Rattle.std.specs.List.Sorted.{IsStrictlySortedBy, IsPermutation}
use Rattle.std.proofs.lemmas.List.Sorted.{IsPermutation-sym, IsPermutation-map}
use Rattle.std.proofs.lemmas.Map.Entries.{none_below_head}
use Rattle.std.proofs.lemmas.Map.{none_passes_from_lookup}
use Rattle.std.proofs.lemmas.Map.Keys.{IsDistinct-IsPermutation, sorted_tail}
use Rattle.miniserde_keys.specs.Keys.{Key}
use Rattle.miniserde_read.specs.types.Maps.{MapContent, entry_at, present_key_or, with_entry, map_content}
use Rattle.miniserde_read.proofs.Entries.{equal_if_tested, same, none-at, at-permuted}
use Rattle.miniserde_text.proofs.Equal.{bytes_eq-flips}

module _ {K V C : Type 0} (code : Key → Key) (content : K → Key) (value : V → C) where
  abbrev pub code_of : K → Key
  code_of k = code (content k)

  abbrev pub show : K × V → Key × C
  show e = (content e.0, value e.1)

  -- an entry in front whose key is not there
  in-front : (es : List (K × V)) (k : K) (v : V) (q : Key) → entry_at code_of (code_of k) es ≡ None
      → map_content code content value ((k, v) ∷ es) q ≡ with_entry code (map_content code content value es)
      (content k) (value v) q
  in-front es k v q n = elim (bytes_eq (code_of k) q)
      as (λ b. bytes_eq (code_of k) q ≡ b → option_map show (cond b (Some (k, v)) (entry_at code_of q es))
      ≡ cond b (Some (present_key_or (option_map show (entry_at code_of q es)) (content k), value v))
      (option_map show (entry_at code_of q es))) [
        | true ↦ λ b. let none : entry_at code_of q es ≡ None = subst (λ r. entry_at code_of r es ≡ None) (equal_if_tested _ _ b) n in
            rw none refl
        | false ↦ λ b. refl
      ] refl

  -- the first entry takes the value
  takes-first : (e : K × V) (es : List (K × V)) (k : K) (v : V) (q : Key) → code_of k ≡ code_of e.0
      → map_content code content value ((e.0, v) ∷ es) q ≡ with_entry code (map_content code content value (e ∷ es))
      (content k) (value v) q
  takes-first e es k v q s =
      rw s (elim (bytes_eq (code_of e.0) q)
      as (λ b. option_map show (cond b (Some (e.0, v)) (entry_at code_of q es))
      ≡ cond b (Some (
        present_key_or (option_map show (cond b (Some e) (entry_at code_of q es))) (content k),
        value v,
      )) (option_map show (cond b (Some e) (entry_at code_of q es)))) [ true ↦ refl | false ↦ refl ])

  -- the entries behind the first change
  takes-later : (e : K × V) (es fs : List (K × V)) (k : K) (v : V) (q : Key)
      → bytes_eq (code_of k) (code_of e.0) ≡ false
      → map_content code content value fs q ≡ with_entry code (map_content code content value es) (content k)
      (value v) q → map_content code content value (e ∷ fs) q ≡ with_entry code
      (map_content code content value (e ∷ es)) (content k) (value v) q
  takes-later e es fs k v q n h =
      elim (bytes_eq (code_of e.0) q)
      as (λ b. bytes_eq (code_of e.0) q ≡ b → option_map show (cond b (Some e) (entry_at code_of q fs))
      ≡ cond (bytes_eq (code_of k) q)
      (Some (present_key_or (option_map show (cond b (Some e) (entry_at code_of q es))) (content k), value v))
      (option_map show (cond b (Some e) (entry_at code_of q es)))) [
        | true ↦ λ b.
            let d : bytes_eq (code_of k) q ≡ false = subst (λ r. bytes_eq (code_of k) r ≡ false) (equal_if_tested _ _ b) n in
            rw d refl
        | false ↦ λ b. h
      ] refl

  -- ---- entries in the order of their keys

  module _ (cmp : K → K → Ordering) (total : IsTotalOrder cmp)
      (agrees : (a b : K) → is_eq (cmp a b) ≡ bytes_eq (code_of a) (code_of b)) where
    pub absent-below : (k : K) (e : K × V) (es : List (K × V)) → IsStrictlySortedBy cmp (keys_of (e ∷ es))
        → cmp k e.0 ≡ Less → entry_at code_of (code_of k) (e ∷ es) ≡ None
    absent-below k e es s l =
        none-at code_of (is_at (cmp k)) (code_of k) (λ x. agrees k x ∙ bytes_eq-flips (code_of k) (code_of x))
        (e ∷ es) (none_below_head total k e es s l)

    inserted-at : (es : List (K × V)) (k : K) (v : V) (q : Key) → IsStrictlySortedBy cmp (keys_of es)
        → map_content code content value (insert_entry cmp es k v) q ≡ with_entry code
        (map_content code content value es) (content k) (value v) q
    inserted-at [] k v q s = in-front [] k v q refl
    inserted-at (e ∷ es) k v q s =
        elim (cmp k e.0) as (λ o. cmp k e.0 ≡ o
        → map_content code content value
        (match_ordering o ((k, v) ∷ e ∷ es) ((e.0, v) ∷ es) (e ∷ insert_entry cmp es k v)) q ≡ with_entry code
        (map_content code content value (e ∷ es)) (content k) (value v) q) [
          | Less ↦ λ c. in-front (e ∷ es) k v q (absent-below k e es s c)
          | Equal ↦ λ c. takes-first e es k v q (equal_if_tested _ _ (sym (agrees k e.0) ∙ ap is_eq c))
          | Greater ↦ λ c. takes-later e es (insert_entry cmp es k v) k v q (sym (agrees k e.0) ∙ ap is_eq c)
              (inserted-at es k v q (sorted_tail cmp e.0 (keys_of es) s))
        ] refl

    pub map_content-inserted : (es fs : List (K × V)) (k : K) (v : V) → IsStrictlySortedBy cmp (keys_of es)
        → fs ≡ insert_entry cmp es k v
        → map_content code content value fs ≡ with_entry code (map_content code content value es) (content k)
        (value v)
    map_content-inserted es fs k v s e = ap (map_content code content value) e ∙ (λ i q. inserted-at es k v q s i)

  -- ---- entries in any order

  module _ (eq : K → K → Bool) (agrees : (a b : K) → eq a b ≡ bytes_eq (code_of a) (code_of b)) where
    set-at : (es : List (K × V)) (k : K) (v w : V) (q : Key) → lookup (eq k) es ≡ Some w
        → map_content code content value (set_value (eq k) es v) q ≡ with_entry code
        (map_content code content value es) (content k) (value v) q
    set-at [] k v w q h = absurd (cc)
    set-at (e ∷ es) k v w q h =
        elim (eq k e.0) as (λ b. eq k e.0 ≡ b → cond b (Some e.1) (lookup (eq k) es) ≡ Some w
        → map_content code content value (cond b ((e.0, v) ∷ es) (e ∷ set_value (eq k) es v)) q
        ≡ with_entry code (map_content code content value (e ∷ es)) (content k) (value v) q) [
          | true ↦ λ b g. takes-first e es k v q (equal_if_tested _ _ (sym (agrees k e.0) ∙ b))
          | false ↦ λ b g. takes-later e es (set_value (eq k) es v) k v q (sym (agrees k e.0) ∙ b) (set-at es k v w q g)
        ] refl h

    put-at : (es fs : List (K × V)) (k : K) (v : V) (q : Key) → IsPermutation ((k, v) ∷ es) fs
        → IsDistinct eq (keys_of fs) → lookup (eq k) es ≡ None
        → map_content code content value fs q ≡ with_entry code (map_content code content value es) (content k)
        (value v) q
    put-at es fs k v q p d n =
        let apart : IsDistinct (same code_of) (keys_of fs) = subst (λ r. IsDistinct r (keys_of fs)) (λ i a b. agrees a b i) d in
        let back = IsPermutation-map (λ e. e.0) fs ((k, v) ∷ es) (IsPermutation-sym _ _ p) in
        let was = IsDistinct-IsPermutation (same code_of) (λ x y. bytes_eq-flips (code_of x) (code_of y))
        (keys_of fs) (keys_of ((k, v) ∷ es)) back apart in
        let none = none-at code_of (eq k) (code_of k) (λ x. agrees k x ∙ bytes_eq-flips (code_of k) (code_of x)) es
        (none_passes_from_lookup (eq k) es n) in
        ap (option_map show) (at-permuted code_of q ((k, v) ∷ es) fs p was) ∙ in-front es k v q none

    pub map_content-put : (es fs : List (K × V)) (k : K) (v : V) (old : Option V)
        → MatchOption old (IsPermutation ((k, v) ∷ es) fs) (λ _. fs ≡ set_value (eq k) es v)
        → old ≡ lookup (eq k) es → IsDistinct eq (keys_of fs)
        → map_content code content value fs ≡ with_entry code (map_content code content value es) (content k)
        (value v)
    map_content-put es fs k v None p o d = λ i q. put-at es fs k v q p d (sym o) i
    map_content-put es fs k v (Some w) p o d = ap (map_content code content value) p ∙ (λ i q. set-at es k v w q (sym o) i)

-- ---- what counts of an entry's value

module _ {K V C : Type 0} (code : Key → Key) (content : K → Key) (value : V → C) where
  -- the map with what counts of each value
  abbrev valued : MapContent V → MapContent C
  valued m q = option_map {U = Key × C} (λ e. (e.0, value e.1)) (m q)

  map_content-valued : (es : List (K × V)) (q : Key) → map_content code content value es q ≡ valued (map_content code content (λ v. v) es) q
  map_content-valued es q =
      elim (entry_at (λ k. code (content k)) q es)
      as (λ o. option_map {U = Key × C} (λ e. (content e.0, value e.1)) o ≡ option_map {U = Key × C}
      (λ e. (e.0, value e.1)) (option_map {U = Key × V} (λ e. (content e.0, e.1)) o))
      [ None ↦ refl | Some e ↦ refl ]

  all-valued : (es : List (K × V)) → map_content code content value es ≡ valued (map_content code content (λ v. v) es)
  all-valued es = λ i q. map_content-valued es q i

  entry-valued : (m : MapContent V) (c : Key) (v : V) (q : Key)
      → valued (with_entry code m c v) q ≡ with_entry code (valued m) c (value v) q
  entry-valued m c v q = elim (bytes_eq (code c) q)
      as (λ b. option_map {U = Key × C} (λ e. (e.0, value e.1)) (cond b (Some (present_key_or (m q) c, v)) (m q))
      ≡ cond b (Some (present_key_or (valued m q) c, value v)) (valued m q)) [
        | true ↦ elim (m q) as (λ o. ◌≡◌ {A = Option (Key × C)} (Some (present_key_or o c, value v))
            (Some (present_key_or (option_map {U = Key × C} (λ e. (e.0, value e.1)) o) c, value v)))
            [ None ↦ refl | Some e ↦ refl ]
        | false ↦ refl
      ]

  put-valued : (es fs : List (K × V)) (k : K) (v : V) → map_content code content (λ v. v) fs ≡ with_entry code
      (map_content code content (λ v. v) es) (content k) v
      → map_content code content value fs ≡ with_entry code (map_content code content value es) (content k)
      (value v)
  put-valued es fs k v h =
      let entered : valued (with_entry code (map_content code content (λ v. v) es) (content k) v) ≡ with_entry code
      (valued (map_content code content (λ v. v) es)) (content k) (value v) =
      λ i q. entry-valued (map_content code content (λ v. v) es) (content k) v q i in
      all-valued fs ∙ ap valued h ∙ entered ∙ ap (λ m. with_entry code m (content k) (value v)) (sym (all-valued es))

  -- the entry of a child joins the map
  pub put-joined : (es fs : List (K × V)) (k : K) (v : V) (pending : Option K) (o : Option C) → pending ≡ Some k
      → o ≡ Some (value v) → map_content code content (λ v. v) fs ≡ with_entry code
      (map_content code content (λ v. v) es) (content k) v
      → option_and_then (λ x. option_map (λ k. with_entry code (map_content code content value es) (content k) x)
      pending) o ≡ Some (map_content code content value fs)
  put-joined es fs k v pending o p e h = rw (p, e) (ap Some (sym (put-valued es fs k v h)))
