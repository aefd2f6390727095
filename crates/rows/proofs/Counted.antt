-- What the query for the number of rows shows: all rows are one group, and it has one row with their number.
use Rattle.std.proofs.Common.{◌≡◌, inl, inr, ℕ, pos, List, [], ◌∷◌, map, filter, length, true, Some, Ok, Err, Result}
use Rattle.std.proofs.Common.{sym, ap, subst, ◌∙◌, IsPermutation}
use Rattle.std.specs.List.{AllZip}
use Rattle.std.proofs.lemmas.List.{length-map}
use Rattle.std.proofs.lemmas.List.Concat.{flat_map_single}
use Rattle.std.proofs.lemmas.List.Sorted.{length_permutation}
use Rattle.sqlite_sql.specs.Aggregate.{count}
use Rattle.sqlite_sql.specs.Group.{IsSummary, Summarizes, value_over}
use Rattle.sqlite_sql.specs.Term.{Env}
use Rattle.sqlite.specs.declared.error.Error.{Error}
use Rattle.sqlite.specs.declared.types.Value.{Value}
use Rattle.sqlite.specs.declared.types.Value.TheVariants.{Null, Int}
use Rattle.sqlite.specs.Order.{Row, column}
use Rattle.sqlite.specs.Tree.{Trees}
use Rattle.sqlite.specs.Program.{overlay}
use Rattle.sqlite.specs.Query.{Output, output, matches, IsAnswer}
use Rattle.sqlite.specs.Listing.{understood}
use Rattle.sqlite.specs.State.{State, IsUnchanged, QueriesRow}
use Rattle.sqlite.proofs.Callers.{IsPlain, first_as, one_permutation}
use Rattle.rows.specs.Entries.{len_text, entry_schema, row_count, IsServing, Aborts}
use Rattle.rows.proofs.Effects.{shown_same}
use Rattle.rows.proofs.Serving.{query_aborts, row_open, shown_open}
use Rattle.rows.proofs.Statements.{all_rows, len_query, len_command, len_is, len_plain}

-- ---- the answer

one_value : (order : List Env) (values : List Value) → AllZip (λ a v. value_over order a ≡ Some v) all_rows.aggregates values
    → values ≡ count (length order) ∷ []
one_value order [] all = absurd all
one_value order (v ∷ []) all =
    let same : Some v ≡ Some (count (length order)) = sym all.0 ∙ ap (λ n. Some (count n)) (length-map order _) in
    let is : v ≡ count (length order) = cc in
    ap (λ w. w ∷ []) is
one_value order (v ∷ w ∷ more) all = absurd all.1

one_summary : (order : List Env) (rows : List Row) → AllZip (IsSummary all_rows) (order ∷ []) rows → rows ≡ (count (length order) ∷ []) ∷ []
one_summary order [] all = absurd all
one_summary order (r ∷ []) all = ap (λ x. x ∷ []) (all.0.2 ∙ one_value order all.0.0 all.0.1)
one_summary order (r ∷ s ∷ more) all = absurd all.1

module _ (trees : Trees) (found : List Row) (answer : IsAnswer len_query trees [] found) where
  abbrev env : Row → Env
  env row = [] ∷ row ∷ []

  abbrev group : Summarizes all_rows [] (matches trees [] len_query.from ([] ∷ [])) answer.staged
  group = answer.grouped

  abbrev order : List Env
  order = group.grouping.0

  counted : length order ≡ length (trees 0)
  counted = length_permutation (matches trees [] len_query.from ([] ∷ [])) order group.grouping.1
      ∙ ap length (flat_map_single env (trees 0)) ∙ length-map (trees 0) env

  rows_are : group.rows ≡ (count (length (trees 0)) ∷ []) ∷ []
  rows_are =
      one_summary order group.rows (subst (λ gs. AllZip (IsSummary all_rows) gs group.rows) group.grouping.2 group.summaries)
      ∙ ap (λ n. (count n ∷ []) ∷ []) counted

  staged_is : answer.staged ≡ env (count (length (trees 0)) ∷ []) ∷ []
  staged_is = group.having ∙ ap (λ (rs : List Row). filter (λ e. true) (map env rs)) rows_are

  kept_is : answer.kept ≡ ([], count (length (trees 0)) ∷ []) ∷ []
  kept_is = answer.distinct ∙ ap (map (output len_query)) staged_is

  pub found_is : found ≡ (count (length (trees 0)) ∷ []) ∷ []
  found_is =
      answer.shown
      ∙ ap (map (λ (o : Output). o.1)) (one_permutation _ answer.ordered (subst (λ l. IsPermutation l answer.ordered) kept_is answer.same))

-- the row that is shown is the number of rows
pub shows_len : (old new : State) (r : Row) (n : ℕ) → old.now.schema ≡ entry_schema → QueriesRow len_text [] old new (Ok r)
    → column r 0 ≡ Int (pos n) → n ≡ row_count old.now
shows_len old new r n has h is =
    let got = (first_as len_text [] old new entry_schema has len_command len_is.0 len_plain len_is.1 r h).1 in
    let trees = overlay old.now.trees [] in
    let all = found_is trees (r ∷ got.0) (got.1 Null) in
    let first : r ≡ count (length (old.now.trees 0)) ∷ [] = cc in
    let same : ◌≡◌ {A = Value} (Int (pos n)) (Int (pos (row_count old.now))) = sym is ∙ ap (λ z. column z 0) first in
    cc

-- ---- what becomes of the connection

module _ (sql : List ℕ) (params : Row) (plain : IsPlain (understood entry_schema sql)) (old new : State) where
  pub row_same : (row : Row) → old.now.schema ≡ entry_schema → QueriesRow sql params old new (Ok row) → IsUnchanged old new
  unfolding QueriesRow
  row_same row has (inl h) = h.1
  row_same row has (inr h) = shown_same sql params old new h.0 plain has h.1

  pub row_fails : (e : Error) → old.now.schema ≡ entry_schema → QueriesRow sql params old new (Err e) → Aborts old new
  unfolding QueriesRow
  row_fails e has (inl h) = query_aborts sql params old new e h
  row_fails e has (inr h) = inl (shown_same sql params old new [] plain has h.1)

  pub row_aborts : (r : Result Row Error) → IsServing old → QueriesRow sql params old new r → Aborts old new
  unfolding QueriesRow
  row_aborts (Ok row) s h = inl (row_same row (s.1 (row_open sql params old new row h)).1.schema h)
  row_aborts (Err e) s (inl h) = query_aborts sql params old new e h
  row_aborts (Err e) s (inr h) =
      let live = shown_open sql params old new [] h.1 in
      inl (shown_same sql params old new [] plain (s.1 live).1.schema h.1)
