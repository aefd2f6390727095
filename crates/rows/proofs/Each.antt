-- What the query for all rows shows: the rows of the table, in an order that ORDER BY allows.
use Rattle.std.proofs.Common.{arith, ◌≡◌, ◌<◌, ◌+◌, ℕ, List, [], ◌∷◌, map, Bool, false, refl, sym, ap, subst, subst₂, ◌∙◌}
use Rattle.std.proofs.Common.{IsPermutation}
use Rattle.std.proofs.Common.{String, string_bytes, length, slice_index_or}
use Rattle.std.specs.List.{AllByRecursion}
use Rattle.std.specs.List.Sorted.{IsSortedBy, IsSortedByKey}
use Rattle.std.specs.Ordering.{nat_cmp, is_lt}
use Rattle.std.specs.Cmp.Lexicographic.{slice_cmp}
use Rattle.std.proofs.lemmas.List.{get_or-map, length-map}
use Rattle.std.proofs.lemmas.List.Concat.{flat_map_single}
use Rattle.std.proofs.lemmas.List.Sorted.{IsPermutation-map}
use Rattle.sqlite_trees.proofs.ListLemmas.{all-permutation}
use Rattle.sqlite_value.proofs.OrderLemmas.{value_cmp-Text, then-Equal}
use Rattle.sqlite.specs.declared.types.Value.{Value}
use Rattle.sqlite.specs.declared.types.Value.TheVariants.{Null, Text}
use Rattle.sqlite.specs.Order.{Row, column, value_cmp}
use Rattle.sqlite.specs.Tree.{Trees}
use Rattle.sqlite.specs.Program.{overlay}
use Rattle.sqlite.specs.Query.{Output, output, IsAnswer}
use Rattle.sqlite.specs.State.{State, IsUnchanged, Shown}
use Rattle.sqlite.proofs.Callers.{reads_as}
use Rattle.rows.specs.Entries.{each_text, entry_schema, key_of, body_of, texts_of, words_of, Holds, AreEntries}
use Rattle.rows.proofs.Effects.{shown_same}
use Rattle.std.specs.Global.{Global}
use Rattle.sqlite.specs.Effect.{Database}
use Rattle.sqlite_rules.specs.Lists.{Has}
use Rattle.sqlite_rules.proofs.ListLemmas.{has_at}
use Rattle.sqlite_rules.proofs.ProbeLemmas.{has_mapped, mapped_has}
use Rattle.rows.proofs.Found.{has_permuted}
use Rattle.rows.proofs.Statements.{each_query, each_command, each_is, each_plain}

-- the key and the body in a row of the table
abbrev pub stored : Row → Value × Value
stored row = (key_of row, body_of row)

-- the key and the body in a row that the query shows
abbrev pub shown : Row → Value × Value
shown r = (column r 0, column r 1)

-- ---- lists

module _ {X Y : Type 0} (f : X → Y) where
  pub sorted_before : (lt : Y → Y → Bool) (xs : List X) → IsSortedBy lt (map f xs) → IsSortedBy (λ a b. lt (f a) (f b)) xs
  sorted_before lt xs up k d low high =
      let there = subst (λ n. k + 1 < n) (sym (length-map xs f)) high in
      subst₂ (λ a b. lt a b ≡ false) (get_or-map f xs (k + 1) d (f d) high) (get_or-map f xs k d (f d) (omega arith)) (up k (f d) low there)

  pub sorted_after : (lt : Y → Y → Bool) (xs : List X) → IsSortedBy (λ a b. lt (f a) (f b)) xs → IsSortedBy lt (map f xs)
  sorted_after lt [] up k e low high = absurd (omega arith)
  sorted_after lt (x ∷ xs) up k e low high =
      let there = subst (λ n. k + 1 < n) (length-map (x ∷ xs) f) high in
      subst₂ (λ a b. lt a b ≡ false) (sym (get_or-map f (x ∷ xs) (k + 1) x e there)) (sym (get_or-map f (x ∷ xs) k x e (omega arith)))
      (up k x low there)

pub map_alike : {X Y : Type 0} (f g : X → Y) (xs : List X) → AllByRecursion (λ x. f x ≡ g x) xs → map f xs ≡ map g xs
map_alike f g [] same = refl
map_alike f g (x ∷ xs) same = rw (same.0, map_alike f g xs same.1) refl

pub map_twice : {X Y Z : Type 0} (f : X → Y) (g : Y → Z) (xs : List X) → map g (map f xs) ≡ map (λ x. g (f x)) xs
map_twice f g [] = refl
map_twice f g (x ∷ xs) = ap (λ zs. g (f x) ∷ zs) (map_twice f g xs)

pub each_mapped : {X Y : Type 0} (P : Y → Type 0) (f : X → Y) → ((x : X) → P (f x)) → (xs : List X) → AllByRecursion P (map f xs)
each_mapped P f holds [] = tt
each_mapped P f holds (x ∷ xs) = (holds x, each_mapped P f holds xs)

-- ---- the answer

abbrev env : Row → List Row
env row = [] ∷ row ∷ []

-- what an output is sorted by is the key that it shows
abbrev pub ShowsKey : Output → Type 0
ShowsKey o = column o.0 0 ≡ column o.1 0

abbrev pub less : Value → Value → Bool
less a b = is_lt (value_cmp a b)

module _ (db : Trees) (found : List Row) (answer : IsAnswer each_query db [] found) where
  kept_is : answer.kept ≡ map (λ row. output each_query (env row)) (db 0)
  kept_is =
      answer.distinct ∙ ap (map (output each_query)) (answer.grouped ∙ flat_map_single env (db 0))
      ∙ map_twice env (output each_query) (db 0)

  out_is : map (λ (o : Output). shown o.1) answer.ordered ≡ map shown found
  out_is = sym (map_twice (λ (o : Output). o.1) shown answer.ordered) ∙ ap (map shown) (sym answer.shown)

  -- the rows that are shown are those of the table
  pub permuted : IsPermutation (map stored (db 0)) (map shown found)
  permuted =
      subst₂ IsPermutation
      (ap (map (λ (o : Output). shown o.1)) kept_is ∙ map_twice (λ row. output each_query (env row)) (λ (o : Output). shown o.1) (db 0))
      out_is (IsPermutation-map (λ (o : Output). shown o.1) answer.kept answer.ordered answer.same)

module _ (db : Trees) (found : List Row) (answer : IsAnswer each_query db [] found) (entries : List (List ℕ × List ℕ))
    (read : map shown found ≡ map words_of entries) where
  out_shows : map (λ (o : Output). shown o.1) answer.ordered ≡ map words_of entries
  out_shows = out_is db found answer ∙ read

  same : IsPermutation (map stored (db 0)) (map words_of entries)
  same = subst (IsPermutation (map stored (db 0))) read (permuted db found answer)

  shows_keys : AllByRecursion ShowsKey answer.ordered
  shows_keys =
      all-permutation ShowsKey answer.kept answer.ordered answer.same
      (subst (AllByRecursion ShowsKey) (sym (kept_is db found answer))
      (each_mapped ShowsKey (λ row. output each_query (env row)) (λ row. refl) (db 0)))

  keys_are : map (λ (o : Output). column o.0 0) answer.ordered ≡ map (λ (e : List ℕ × List ℕ). Text e.0) entries
  keys_are =
      map_alike (λ (o : Output). column o.0 0) (λ (o : Output). column o.1 0) answer.ordered shows_keys
      ∙ sym (map_twice (λ (o : Output). shown o.1) (λ (v : Value × Value). v.0) answer.ordered)
      ∙ ap (map (λ (v : Value × Value). v.0)) out_shows ∙ map_twice words_of (λ (v : Value × Value). v.0) entries

  sorted : IsSortedByKey (λ (e : List ℕ × List ℕ). e.0) (slice_cmp nat_cmp) entries
  sorted k d low high =
      let by_keys : IsSortedBy (λ (a b : Output). less (column a.0 0) (column b.0 0)) answer.ordered =
      λ k d low high. ap is_lt (sym (then-Equal _)) ∙ answer.sorted k d low high in
      let rises = sorted_before (λ (e : List ℕ × List ℕ). Text e.0) less entries
      (subst (IsSortedBy less) keys_are (sorted_after (λ (o : Output). column o.0 0) less answer.ordered by_keys)) in
      ap is_lt (sym (value_cmp-Text _ _)) ∙ rises k d low high

-- an answer that is read is the entries of the table
pub answers_each : (db : Database) (found : List Row) (entries : List (List ℕ × List ℕ))
    → IsAnswer each_query (overlay db.trees []) [] found → map shown found ≡ map words_of entries → AreEntries db entries
answers_each db found entries answer read =
    let trees = overlay db.trees [] in
    record { same = same trees found answer entries read; sorted = sorted trees found answer entries read }

-- the rows that were read are those of the table
pub shows_each : (old new : State) (found : List Row) (entries : List (List ℕ × List ℕ)) → old.now.schema ≡ entry_schema
    → Shown each_text [] old new found → map shown found ≡ map words_of entries → AreEntries old.now entries
shows_each old new found entries has h read =
    let all = reads_as each_text [] old new entry_schema has each_command each_is.0 each_plain each_is.1 found h in
    answers_each old.now found entries (all.answer Null) read

-- the query for all rows changes nothing
pub each_same : (old new : State) (found : List Row) → old.now.schema ≡ entry_schema → Shown each_text [] old new found
    → IsUnchanged old new
each_same old new found = shown_same each_text [] old new found each_plain

-- each entry is a row of the table
pub entry_held : (db : Database) (entries : List (List ℕ × List ℕ)) (e : List ℕ × List ℕ) → AreEntries db entries → Has entries e
    → Holds db e.0 e.1
entry_held db entries e are there =
    let rows = db.trees 0 in
    let had = has_permuted (map stored rows) (map words_of entries) (words_of e) are.same (mapped_has words_of entries e there) in
    let row = has_mapped stored rows (words_of e) had in
    (row.0, row.1, ap (λ (v : Value × Value). v.0) (sym row.2), ap (λ (v : Value × Value). v.1) (sym row.2))

-- an element that a loop reads is a row of the table
pub item_held : (db : Database) (rows seen : List (String Global × String Global)) (i : ℕ) (item : String Global × String Global)
    → AreEntries db (map texts_of rows) → seen ≡ rows → i < length seen → item ≡ slice_index_or seen i item
    → Holds db (string_bytes item.0) (string_bytes item.1)
item_held db rows seen i item are same low is =
    let there = subst (λ (xs : List (String Global × String Global)). Has xs item) same (has_at seen i item low is) in
    entry_held db (map texts_of rows) (texts_of item) are (mapped_has texts_of rows item there)
