-- What the query for the first rows from a key on shows of a store: the first of its rows whose keys do not come before it.
use Rattle.std.proofs.Common.{arith, ◌≡◌, ◌⊎◌, ◌≤◌, ◌<◌, ◌+◌, ◌-◌, inl, inr, ℕ, pos, List, [], ◌∷◌, ◌++◌, map, Option, None, append-nil}
use Rattle.std.proofs.Common.{flat_map, filter, take, drop, length, Bool, true, false}
use Rattle.std.proofs.Common.{cond, refl, sym, ap, subst, ◌∙◌, IsPermutation}
use Rattle.std.specs.Cmp.Lexicographic.{slice_cmp}
use Rattle.std.specs.List.{AllByRecursion, IsDistinct, list_all}
use Rattle.std.specs.List.Sorted.{IsSortedBy, IsStrictlySortedBy}
use Rattle.std.specs.Ordering.{nat_cmp, is_ge, is_lt}
use Rattle.std.specs.declared.cmp.Ordering.TheVariants.{Less}
use Rattle.std.proofs.lemmas.List.{length-map, length-append, map-append, nil_from_length, take-append-drop, take-map}
use Rattle.std.proofs.lemmas.List.Sorted.{IsPermutation-map, IsPermutation-sym}
use Rattle.sqlite_trees.specs.declared.store.Store.{Ghosts}
use Rattle.sqlite_trees.proofs.ListLemmas.{all-permutation, ascending-filter}
use Rattle.sqlite_rules.specs.Lists.{Has}
use Rattle.sqlite_rules.proofs.ListLemmas.{all_from, has_left, has_right, has_either, has_filtered, has_kept}
use Rattle.sqlite_rules.proofs.ProbeLemmas.{has_mapped, mapped_has}
use Rattle.sqlite_value.proofs.OrderLemmas.{value_cmp-Text, then-Equal}
use Rattle.sqlite_sql.specs.Ops.{binary}
use Rattle.sqlite.specs.declared.types.Value.{Value}
use Rattle.sqlite.specs.declared.types.Value.TheVariants.{Null, Int, Text}
use Rattle.sqlite.specs.Order.{Row, column, value_cmp}
use Rattle.sqlite.specs.Tree.{Trees, rowid, IsTable}
use Rattle.sqlite.specs.Term.{holds}
use Rattle.sqlite.specs.Program.{overlay}
use Rattle.sqlite.specs.Effect.{Database, IsDatabase}
use Rattle.sqlite.specs.Query.{Output, output, IsAnswer}
use Rattle.sqlite.specs.declared.error.Error.{Error}
use Rattle.sqlite.specs.State.{State, Begins, Shown, FailsToQuery}
use Rattle.sqlite.specs.Held.{Held, state}
use Rattle.sqlite.specs.Given.{Advances}
use Rattle.sqlite.proofs.Callers.{begins_as, given_begin, reads_as}
use Rattle.rows.specs.Entries.{range_text, entry_schema, key_of, words_of, bytes_in, Holds, IsFrom, IsStore, IsFull, StopsInTime, IsPage}
use Rattle.rows.specs.Visits.{Entry, ShowsTexts}
use Rattle.rows.proofs.Apart.{tie, distinct_keys, distinct_permuted, strict}
use Rattle.rows.proofs.Cut.{front_rises, front_below, texts_rise, at_most, just, without_last, never_empty}
use Rattle.rows.proofs.Each.{stored, shown, sorted_after, map_alike, map_twice, each_mapped, less, ShowsKey}
use Rattle.rows.proofs.Found.{and_true, truth_back, has_permuted}
use Rattle.rows.proofs.Kept.{text_of_same}
use Rattle.rows.proofs.Readings.{AreTexts, entries_of, stored_texts, Starts, HasRead, read_all}
use Rattle.rows.proofs.Statements.{is_from, range_query, range_command, range_is, range_plain}

-- ---- the test

-- the row passes the test of the query
abbrev passes : Row → Row → Bool
passes params row = list_all (holds (params ∷ row ∷ [])) (is_from ∷ [])

-- which its key does if it does not come before
passes_is : (row : Row) (k start : List ℕ) (limit : ℕ) → key_of row ≡ Text k
    → passes (Text start ∷ Int (pos limit) ∷ []) row ≡ is_ge (slice_cmp nat_cmp k start)
unfolding binary
passes_is row k start limit has = rw has (and_true _ ∙ truth_back _ ∙ ap is_ge (value_cmp-Text k start))

filtered : {X Y : Type 0} (p : X → Bool) (f : X → Y) (xs : List X) → flat_map (λ x. cond (p x) (f x ∷ []) []) xs ≡ map f (filter p xs)
filtered p f [] = refl
filtered {X} {Y} p f (x ∷ xs) = go (p x) (filtered p f xs)
  where
    go : (b : Bool) → flat_map (λ z. cond (p z) (f z ∷ []) []) xs ≡ map f (filter p xs)
        → cond b (f x ∷ []) [] ++ flat_map (λ z. cond (p z) (f z ∷ []) []) xs ≡ map f (cond b (x ∷ filter p xs) (filter p xs))
    go true rest = ap (λ l. f x ∷ l) rest
    go false rest = rest

same_entry : (e f : List ℕ × List ℕ) → words_of e ≡ words_of f → e ≡ f
same_entry e f same =
    let key = text_of_same e.0 f.0 (ap (λ (v : Value × Value). v.0) same) in
    let body = text_of_same e.1 f.1 (ap (λ (v : Value × Value). v.1) same) in
    λ i. (key i, body i)

-- ---- the answer

abbrev keys_of : List Entry → List (List ℕ)
keys_of entries = map (λ (e : Entry). e.0) entries

-- What the query shows with no bound on bytes: the first rows from a key on, one missing only behind `limit` others.
pub record IsFirstRows (db : Database) (start : List ℕ) (limit : ℕ) (entries : List Entry) : Type 0 where
  pub held : (e : Entry) → Has entries e → IsFrom start e.0 × Holds db e.0 e.1
  pub rising : IsStrictlySortedBy (slice_cmp nat_cmp) (keys_of entries)
  pub most : length entries ≤ limit
  pub complete : (k b : List ℕ) → IsFrom start k → Holds db k b → Has entries (k, b)
      ⊎ ((length entries ≡ limit) × ((e : Entry) → Has entries e → slice_cmp nat_cmp e.0 k ≡ Less))

module _ (db : Database) (sound : IsDatabase db) (store : IsStore db) (trees : Trees) (same_rows : trees 0 ≡ db.trees 0)
    (start : List ℕ) (limit : ℕ) (found : List Row) (answer : IsAnswer range_query trees (Text start ∷ Int (pos limit) ∷ []) found) where
  abbrev params : Row
  params = Text start ∷ Int (pos limit) ∷ []

  abbrev rows : List Row
  rows = filter (passes params) (trees 0)

  abbrev made : Row → Output
  made row = output range_query (params ∷ row ∷ [])

  -- the keys and bodies of the rows that pass, in order
  abbrev all : List (Value × Value)
  all = map (λ (o : Output). shown o.1) answer.ordered

  kept_is : answer.kept ≡ map made rows
  kept_is =
      answer.distinct
      ∙ ap (map (output range_query)) (answer.grouped ∙ filtered (passes params) (λ row. params ∷ row ∷ []) (trees 0))
      ∙ map_twice (λ row. params ∷ row ∷ []) (output range_query) rows

  same : IsPermutation (map stored rows) all
  same = subst (λ l. IsPermutation l all) (ap (map (λ (o : Output). shown o.1)) kept_is ∙ map_twice made (λ (o : Output). shown o.1) rows)
      (IsPermutation-map (λ (o : Output). shown o.1) answer.kept answer.ordered answer.same)

  shows_keys : AllByRecursion ShowsKey answer.ordered
  shows_keys = all-permutation ShowsKey answer.kept answer.ordered answer.same
      (subst (AllByRecursion ShowsKey) (sym kept_is) (each_mapped ShowsKey made (λ row. refl) rows))

  abbrev keys : List Value
  keys = map (λ (v : Value × Value). v.0) all

  keys_are : map (λ (o : Output). column o.0 0) answer.ordered ≡ keys
  keys_are = map_alike (λ (o : Output). column o.0 0) (λ (o : Output). column o.1 0) answer.ordered shows_keys
      ∙ sym (map_twice (λ (o : Output). shown o.1) (λ (v : Value × Value). v.0) answer.ordered)

  sorted : IsSortedBy less keys
  sorted =
      let by_keys : IsSortedBy (λ (a b : Output). less (column a.0 0) (column b.0 0)) answer.ordered =
      λ k d low high. ap is_lt (sym (then-Equal _)) ∙ answer.sorted k d low high in
      subst (IsSortedBy less) keys_are (sorted_after (λ (o : Output). column o.0 0) less answer.ordered by_keys)

  among : (row : Row) → Has rows row → Has (db.trees 0) row
  among row h = subst (λ l. Has l row) same_rows (has_filtered (passes params) (trees 0) row h).0

  distinct : IsDistinct tie keys
  distinct = distinct_permuted (map key_of rows) keys
      (subst (λ l. IsPermutation l keys) (map_twice stored (λ (v : Value × Value). v.0) rows)
      (IsPermutation-map (λ (v : Value × Value). v.0) (map stored rows) all same))
      (distinct_keys db sound store rows among
      (ascending-filter (λ a b. value_cmp (rowid a) (rowid b) ≡ Less) (passes params) (trees 0)
      (subst IsTable (sym same_rows) store.rising)))

  rises : IsStrictlySortedBy value_cmp keys
  rises = strict keys Null sorted distinct

  shown_first : take limit all ≡ map shown found
  shown_first =
      sym (ap (take limit) (map_twice (λ (o : Output). o.1) shown answer.ordered))
      ∙ take-map shown limit (map (λ (o : Output). o.1) answer.ordered)
      ∙ sym (ap (map shown) answer.shown)

  halves : take limit all ++ drop limit all ≡ all
  halves = take-append-drop _ _

  split : IsStrictlySortedBy value_cmp
      (map (λ (v : Value × Value). v.0) (take limit all) ++ map (λ (v : Value × Value). v.0) (drop limit all))
  split = subst (IsStrictlySortedBy value_cmp)
      (ap (map (λ (v : Value × Value). v.0)) (sym halves) ∙ map-append (λ (v : Value × Value). v.0) (take limit all) (drop limit all)) rises

  -- each row that is shown has two texts
  pub shown_texts : (v : Value × Value) → Has (map shown found) v → AreTexts v
  shown_texts v h =
      let there = subst (λ l. Has l v) halves (has_left (take limit all) (drop limit all) v (subst (λ l. Has l v) (sym shown_first) h)) in
      let row = has_mapped stored rows v (has_permuted (map stored rows) all v same there) in
      stored_texts db sound store v
      (subst (Has (map stored (db.trees 0))) (sym row.2) (mapped_has stored (db.trees 0) row.0 (among row.0 row.1)))

  module _ (entries : List Entry) (read : map shown found ≡ map words_of entries) where
    -- the first of them are the entries
    first : take limit all ≡ map words_of entries
    first = shown_first ∙ read

    entry_keys : map (λ (v : Value × Value). v.0) (take limit all) ≡ map (λ (e : List ℕ × List ℕ). Text e.0) entries
    entry_keys = ap (map (λ (v : Value × Value). v.0)) first ∙ map_twice words_of (λ (v : Value × Value). v.0) entries

    in_front : (e : List ℕ × List ℕ) → Has entries e → Has (take limit all) (words_of e)
    in_front e h = subst (λ l. Has l (words_of e)) (sym first) (mapped_has words_of entries e h)

    -- an entry is a row that passes
    comes_from : (e : List ℕ × List ℕ) → Has entries e → IsFrom start e.0 × Holds db e.0 e.1
    comes_from e h =
        let there = subst (λ l. Has l (words_of e)) halves (has_left (take limit all) (drop limit all) (words_of e) (in_front e h)) in
        let row = has_mapped stored rows (words_of e) (has_permuted (map stored rows) all (words_of e) same there) in
        let key : key_of row.0 ≡ Text e.0 = ap (λ (v : Value × Value). v.0) (sym row.2) in (
          sym (passes_is row.0 e.0 start limit key) ∙ (has_filtered (passes params) (trees 0) row.0 row.1).1,
          (row.0, among row.0 row.1, key, ap (λ (v : Value × Value). v.1) (sym row.2)),
        )

    -- a row that passes is an entry, or comes behind all of them
    goes_to : (k b : List ℕ) → IsFrom start k → Holds db k b
        → Has entries (k, b) ⊎ ((length entries ≡ limit) × ((e : List ℕ × List ℕ) → Has entries e → slice_cmp nat_cmp e.0 k ≡ Less))
    goes_to k b behind held =
        let row = held.0 in
        let here = has_kept (passes params) (trees 0) row (subst (λ l. Has l row) (sym same_rows) held.1)
        (passes_is row k start limit held.2 ∙ behind) in
        let words : stored row ≡ words_of (k, b) = λ i. (held.2 i, held.3 i) in
        let there = has_permuted all (map stored rows) (words_of (k, b)) (IsPermutation-sym _ _ same)
        (subst (Has (map stored rows)) words (mapped_has stored rows row here)) in
        elim (has_either (take limit all) (drop limit all) (words_of (k, b)) (subst (λ l. Has l (words_of (k, b))) (sym halves) there)) [
          | inl front ↦
              let e = has_mapped words_of entries (words_of (k, b)) (subst (λ l. Has l (words_of (k, b))) first front) in
              inl (subst (Has entries) (sym (same_entry (k, b) e.0 e.2)) e.1)
          | inr behind_all ↦ inr (
            sym (length-map entries words_of) ∙ ap length (sym first) ∙ just limit all (words_of (k, b)) behind_all,
            λ e h. sym (value_cmp-Text e.0 k) ∙ front_below value_cmp (map (λ (v : Value × Value). v.0) (take limit all))
                (map (λ (v : Value × Value). v.0) (drop limit all)) (Text e.0) (Text k) split
                (mapped_has (λ (v : Value × Value). v.0) (take limit all) (words_of e) (in_front e h))
                (mapped_has (λ (v : Value × Value). v.0) (drop limit all) (words_of (k, b)) behind_all),
          )
        ]

    pub is_first_rows : IsFirstRows db start limit entries
    is_first_rows = record {
      held = comes_from;
      rising = texts_rise entries (subst (IsStrictlySortedBy value_cmp) entry_keys
          (front_rises value_cmp (map (λ (v : Value × Value). v.0) (take limit all))
          (map (λ (v : Value × Value). v.0) (drop limit all)) split));
      most = subst (λ n. n ≤ limit) (ap length first ∙ length-map entries words_of) (at_most limit all);
      complete = goes_to;
    }

-- ---- the first entries of a page

bytes_append : (front rest : List Entry) → bytes_in (front ++ rest) ≡ bytes_in front + bytes_in rest
bytes_append [] rest = omega arith
bytes_append (e ∷ front) rest =
    let later = bytes_append front rest in
    omega (arith, later)

-- entries with fewer bytes than the bound stop in time
pub fewer : (max_bytes : ℕ) (entries : List Entry) → ((entries ≡ [] → ⊥) → bytes_in entries < max_bytes) → StopsInTime max_bytes entries
fewer max_bytes entries few front last is some =
    let all = few (λ none. never_empty front last (sym is ∙ none)) in
    let sum : bytes_in entries ≡ bytes_in front + bytes_in (last ∷ []) = ap bytes_in is ∙ bytes_append front (last ∷ []) in
    omega (arith, all, sum)

-- and so they do with one more
pub one_more : (max_bytes : ℕ) (entries : List Entry) (e : Entry) → ((entries ≡ [] → ⊥) → bytes_in entries < max_bytes)
    → StopsInTime max_bytes (entries ++ e ∷ [])
one_more max_bytes entries e few front last is some =
    let same : entries ≡ front = without_last entries front e last is in
    subst (λ (l : List Entry). bytes_in l < max_bytes) same (few (λ none. some (sym same ∙ none)))

-- the first entries are a page if they are all, or have as many bytes as a page may have
pub is_page : (db : Database) (start : List ℕ) (limit max_bytes : ℕ) (front rest : List Entry) → IsFirstRows db start limit (front ++ rest)
    → (rest ≡ []) ⊎ (max_bytes ≤ bytes_in front) → StopsInTime max_bytes front → IsPage db start limit max_bytes front
is_page db start limit max_bytes front rest whole ends in_time = record {
  held = λ e h. whole.held e (has_left front rest e h);
  rising = front_rises (slice_cmp nat_cmp) (keys_of front) (keys_of rest) split;
  most =
      let all = whole.most in
      let sum = length-append front rest in
      omega (arith, all, sum);
  in_time = in_time;
  complete = λ k b from h. complete k b (whole.complete k b from h);
}
  where
    split : IsStrictlySortedBy (slice_cmp nat_cmp) (keys_of front ++ keys_of rest)
    split = subst (IsStrictlySortedBy (slice_cmp nat_cmp)) (map-append (λ (e : Entry). e.0) front rest) whole.rising

    below : (k b : List ℕ) → Has rest (k, b) → (e : Entry) → Has front e → slice_cmp nat_cmp e.0 k ≡ Less
    below k b there e h = front_below (slice_cmp nat_cmp) (keys_of front) (keys_of rest) e.0 k split
        (mapped_has (λ (e : Entry). e.0) front e h) (mapped_has (λ (e : Entry). e.0) rest (k, b) there)

    complete : (k b : List ℕ) → Has (front ++ rest) (k, b) ⊎ ((length (front ++ rest) ≡ limit)
        × ((e : Entry) → Has (front ++ rest) e → slice_cmp nat_cmp e.0 k ≡ Less))
        → Has front (k, b) ⊎ (IsFull limit max_bytes front × ((e : Entry) → Has front e → slice_cmp nat_cmp e.0 k ≡ Less))
    complete k b (inl there) = elim (has_either front rest (k, b) there) [
      | inl here ↦ inl here
      | inr behind ↦ elim ends [
        | inl none ↦ absurd (subst (λ (l : List Entry). Has l (k, b)) none behind)
        | inr full ↦ inr (inr full, below k b behind)
      ]
    ]
    complete k b (inr (full, behind)) = inr (
      elim ends [
        | inl none ↦ inl (sym (ap (λ (l : List Entry). length (front ++ l)) none ∙ ap length (append-nil front)) ∙ full)
        | inr bytes ↦ inr bytes
      ],
      λ e h. behind e (has_left front rest e h),
    )

-- ---- the bytes that a page may still take

-- what the page leaves of the bytes, after one more entry
pub room_left : (max_bytes : ℕ) (entries : List Entry) (e : Entry) (room mid rest : ℕ) {key body : ℕ} → room ≡ max_bytes - bytes_in entries
    → mid ≡ room - key → rest ≡ mid - body → key ≡ length e.0 → body ≡ length e.1
    → rest ≡ max_bytes - bytes_in (entries ++ e ∷ [])
room_left max_bytes entries e room mid rest {key = key} {body = body} was first second is_key is_body =
    let sum : bytes_in (entries ++ e ∷ []) ≡ bytes_in entries + (length e.0 + length e.1 + 0) = bytes_append entries (e ∷ []) in
    omega (arith, was, first, second, is_key, is_body, sum)

-- if there is some, the page has fewer bytes than it may have
pub room_used : (max_bytes : ℕ) (entries : List Entry) (room : ℕ) → room ≡ max_bytes - bytes_in entries
    → ((entries ≡ [] → ⊥) → 0 < room) → (entries ≡ [] → ⊥) → bytes_in entries < max_bytes
room_used max_bytes entries room is more some =
    let left = more some in
    omega (arith, is, left)

-- ---- the rows of a query

-- the parameters of a query are known by an equation
pub fails_as : (text : List ℕ) (p q : Row) (old new : State) (e : Error) → FailsToQuery text p old new e → p ≡ q
    → FailsToQuery text q old new e
fails_as text p q old new e fails is = subst (λ r. FailsToQuery text r old new e) is fails

pub starts_as : {S : Type 0} (g : Ghosts S) (text : List ℕ) (p q : Row) (old now : Held S) → Starts g text p old now → p ≡ q
    → Starts g text q old now
starts_as g text p q old now begins is = subst (λ r. Starts g text r old now) is begins

abbrev pub range_params : List ℕ → ℕ → Row
range_params start limit = Text start ∷ Int (pos limit) ∷ []

-- rows that begin an answer show the first entries
begins_page : (s : State) (start : List ℕ) (limit : ℕ) (found : List Row) (front : List Entry) → IsDatabase s.now → IsStore s.now
    → Begins range_text (range_params start limit) s found → map shown found ≡ map words_of front
    → (rest : List Entry) × IsFirstRows s.now start limit (front ++ rest)
begins_page s start limit found front sound store h read =
    let first = begins_as range_text (range_params start limit) s s entry_schema store.schema range_command range_is.0 range_plain
    range_is.1 found h in
    let tail = first.1.0 in
    let trees = overlay s.now.trees [] in
    let answer = first.1.1 Null in
    let joined = map-append shown found tail in
    let rest = entries_of (map shown tail)
    (all_from AreTexts (map shown tail) (λ v there. shown_texts s.now sound store trees refl start limit (found ++ tail) answer v
    (subst (λ l. Has l v) (sym joined) (has_right (map shown found) (map shown tail) v there)))) in
    let all : map shown (found ++ tail) ≡ map words_of (front ++ rest.0) =
    joined ∙ (λ i. read i ++ rest.1 i) ∙ sym (map-append words_of front rest.0) in
    (rest.0, is_first_rows s.now sound store trees refl start limit (found ++ tail) answer (front ++ rest.0) all)

-- rows that are the answer show all entries
shows_page : (old new : State) (start : List ℕ) (limit : ℕ) (found : List Row) (entries : List Entry) → IsDatabase old.now
    → IsStore old.now → Shown range_text (range_params start limit) old new found → map shown found ≡ map words_of entries
    → IsFirstRows old.now start limit entries
shows_page old new start limit found entries sound store h read =
    let all = reads_as range_text (range_params start limit) old new entry_schema store.schema range_command range_is.0 range_plain
    range_is.1 found h in
    is_first_rows old.now sound store (overlay old.now.trees []) refl start limit found (all.answer Null) entries read

module _ {S : Type 0} (g : Ghosts S) (start : List ℕ) (limit max_bytes : ℕ) (old : Held S) (sound : IsDatabase (state g old).now)
    (store : IsStore (state g old).now) where
  -- the entries that were read so far, while there are more
  so_far : (now : Held S) (front : List Entry) → HasRead g range_text (range_params start limit) old now front
      → (rest : List Entry) × IsFirstRows (state g old).now start limit (front ++ rest)
  so_far now front has =
      let back = has.same.0.now_is in
      subst (λ db. (rest : List Entry) × IsFirstRows db start limit (front ++ rest)) back
      (begins_page (state g now) start limit has.given front (subst IsDatabase (sym back) sound) (subst IsStore (sym back) store)
      (given_begin g range_text (range_params start limit) now has.given has.gives) has.read)

  -- the page has as many bytes as it may have
  pub fills_bytes : (now : Held S) (front : List Entry) → HasRead g range_text (range_params start limit) old now front
      → max_bytes ≤ bytes_in front → StopsInTime max_bytes front → IsPage (state g old).now start limit max_bytes front
  fills_bytes now front has full in_time =
      let whole = so_far now front has in
      is_page (state g old).now start limit max_bytes front whole.0 whole.1 (inr full) in_time

  -- the page has as many entries as it may have
  pub fills_limit : (now : Held S) (front : List Entry) → HasRead g range_text (range_params start limit) old now front
      → limit ≤ length front → StopsInTime max_bytes front → IsPage (state g old).now start limit max_bytes front
  fills_limit now front has full in_time =
      let whole = so_far now front has in
      let most = whole.1.most in
      let sum = length-append front whole.0 in
      is_page (state g old).now start limit max_bytes front whole.0 whole.1
      (inl (nil_from_length whole.0 (omega (arith, full, most, sum)))) in_time

  -- there are no more rows
  pub ends : (mid now : Held S) (row : Option Row) (front : List Entry) → HasRead g range_text (range_params start limit) old mid front
      → Advances g mid now row → ShowsTexts row None → StopsInTime max_bytes front → IsPage (state g old).now start limit max_bytes front
  ends mid now row front has moves shows in_time =
      let back = has.same.0.now_is in
      let whole = shows_page (state g mid) (state g now) start limit has.given front (subst IsDatabase (sym back) sound)
      (subst IsStore (sym back) store) (read_all g range_text (range_params start limit) old mid now row front has moves shows) has.read in
      is_page (state g old).now start limit max_bytes front []
      (subst (IsFirstRows (state g old).now start limit) (sym (append-nil front))
      (subst (λ db. IsFirstRows db start limit front) back whole))
      (inl refl) in_time
