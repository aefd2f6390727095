-- A call that returns shows that the connection was open, and one that fails keeps the rows: lemmas of any statement, for
-- a connection that is outside of a transaction.
use Rattle.std.proofs.Common.{◌≡◌, inl, inr, ℕ, List, [], ◌∷◌, false, Option, Some, None, Ok, Err, Result}
use Rattle.std.proofs.Common.{IfErr, OnOk, OnErr, IsTrue, refl, sym}
use Rattle.std.proofs.Common.{subst, ◌∙◌, true≢false}
use Rattle.std.proofs.lemmas.Bool.{cases_Bool}
use Rattle.sqlite_resolve.specs.declared.compiled.Compiled.{Compiled}
use Rattle.sqlite_schema.specs.declared.command.Returning.{Returning}
use Rattle.sqlite_schema.specs.declared.command.Command.{Command}
use Rattle.sqlite_schema.specs.declared.command.Command.TheVariants.{Select, Insert, InsertOr, Update, Delete, CreateTable}
use Rattle.sqlite_schema.specs.declared.command.Command.TheVariants.{CreateIndex, DropTable, DropIndex, Begin, Commit, Rollback}
use Rattle.sqlite_schema.specs.declared.command.Command.TheVariants.{Savepoint as Save, Release, RollbackTo, Nothing}
use Rattle.sqlite_schema.specs.declared.command.Command.TheVariants.{CreateView, DropView, Rows}
use Rattle.sqlite.specs.declared.error.Error.{Error}
use Rattle.sqlite.specs.declared.error.Error.TheVariants.{QueryReturnedNoRows}
use Rattle.sqlite.specs.declared.types.Value.TheVariants.{Text}
use Rattle.sqlite.specs.Order.{Row}
use Rattle.sqlite.specs.State.{State, ExecutesIn, Executes, IsNotRun, Runs, RunsCommand, FailsToQuery, FailsToShow, QueriesRow}
use Rattle.sqlite.specs.State.{Shown, ShowsRows, shows_rows, text_of, IsUnchanged}
use Rattle.sqlite.specs.Clock.{timed}
use Rattle.sqlite.specs.Listing.{understood}
use Rattle.sqlite.proofs.Callers.{IsPlain}
use Rattle.rows.specs.Entries.{put_text, remove_text, each_text, entry_schema, IsStore, IsServing, Keeps, Aborts}
use Rattle.rows.proofs.Gets.{not_stored}
use Rattle.rows.proofs.Statements.{each_plain, IsKeyQuery}
use Rattle.rows.proofs.Effects.{shown_same, gets_same, gets_none_same, puts_in, commits_in, removes_in, removes_commits_in}

pub aborts_keeps : (old new : State) → IsServing old → Aborts old new → Keeps old new
aborts_keeps old new s (inl same) live = (same.0.was_open, same.0.now_is)
aborts_keeps old new s (inr back) live =
    let was = back.was_open live in
    (was, (back.undone live).0 ∙ (s.1 was).0)

pub aborts_serving : (old new : State) → IsServing old → Aborts old new → IsServing new
aborts_serving old new s (inl same) = (
  same.0.mode ∙ s.0,
  λ live.
      let was = s.1 same.0.was_open in
      (same.0.committed_is ∙ was.0 ∙ sym same.0.now_is, subst IsStore (sym same.0.now_is) was.1),
)
aborts_serving old new s (inr back) = (
  back.autocommit,
  λ live.
      let was = s.1 (back.was_open live) in
      let undone = back.undone live in
      (undone.1 ∙ sym undone.0, subst IsStore (sym (undone.0 ∙ was.0)) was.1),
)

-- ---- a statement that is no query

command_aborts : (old new : State) (sql : List ℕ) (c : Compiled) (params : Row) (e : Error) → RunsCommand old new sql c params (Err e)
    → Aborts old new
command_aborts old new sql c params e (inl refused) = inl refused.1
command_aborts old new sql c params e (inr failed) = inr failed.3

pub failed_aborts : (sql : List ℕ) (params : Row) (old new : State) (e : Error) → Executes sql params old new (Err e) → Aborts old new
unfolding ExecutesIn IsNotRun
failed_aborts sql params old new e (inl (inl h)) = inl h.1
failed_aborts sql params old new e (inl (inr h)) = inr h.3
failed_aborts sql params old new e (inr h) = elim (cases_Bool (shows_rows false h.0)) [
  | inl shows ↦ inl (rw shows at h.2).1
  | inr runs ↦ command_aborts old new sql h.0 (timed params h.0.formats h.1.now) e (rw runs at h.2)
]

-- a statement that succeeds outside of a transaction leaves the connection open
abbrev pub AreOpen : State → State → Type 0
AreOpen old new = IsTrue old.is_open × IsTrue new.is_open

runs_open : (old new : State) (returning : Option Returning) (command : Command) (text : List ℕ) (params : Row) (count : ℕ)
    → old.in_transaction ≡ false → Runs old new returning command text params count → AreOpen old new
runs_open old new returning (Select q names) text params count outside h = absurd h
runs_open old new returning (Insert at from) text params count outside h = (h.shown.was_open, h.shown.is_open)
runs_open old new returning (InsertOr at how from clauses) text params count outside h = (h.shown.was_open, h.shown.is_open)
runs_open old new returning (Update at q) text params count outside h = (h.shown.was_open, h.shown.is_open)
runs_open old new returning (Delete at q) text params count outside h = (h.shown.was_open, h.shown.is_open)
runs_open old new returning CreateTable text params count outside h = (h.shown.was_open, h.shown.is_open)
runs_open old new returning (CreateIndex at) text params count outside h = (h.shown.was_open, h.shown.is_open)
runs_open old new returning (DropTable at) text params count outside h = (h.shown.was_open, h.shown.is_open)
runs_open old new returning (DropIndex at) text params count outside h = (h.shown.was_open, h.shown.is_open)
runs_open old new returning Begin text params count outside h = (h.1.was_open, h.1.is_open)
runs_open old new returning Commit text params count outside h = (h.1.was_open, h.1.is_open)
runs_open old new returning Rollback text params count outside h = absurd (true≢false (sym h.0 ∙ outside))
runs_open old new returning (Save name) text params count outside h = (h.0.0.was_open, h.0.0.is_open)
runs_open old new returning (Release name) text params count outside h = elim h.2 [
  | inl commits ↦ (commits.1.0.was_open, commits.1.0.is_open)
  | inr drops ↦ (drops.1.0.was_open, drops.1.0.is_open)
]
runs_open old new returning (RollbackTo name) text params count outside h = (h.2.2.was_open, h.2.2.is_open)
runs_open old new returning (Rows values width names) text params count outside h = (h.0.0.was_open, h.0.0.is_open)
runs_open old new returning Nothing text params count outside h = (h.0.0.was_open, h.0.0.is_open)
runs_open old new returning CreateView text params count outside h = (h.shown.was_open, h.shown.is_open)
runs_open old new returning (DropView at) text params count outside h = (h.shown.was_open, h.shown.is_open)

pub executed_open : (sql : List ℕ) (params : Row) (old new : State) (count : ℕ) → old.in_transaction ≡ false
    → Executes sql params old new (Ok count) → AreOpen old new
unfolding ExecutesIn
executed_open sql params old new count outside h = elim (cases_Bool (shows_rows false h.0)) [
  | inl shows ↦ absurd (let e = (rw shows at h.2).0 in cc)
  | inr runs ↦
      runs_open old new h.0.returning h.0.command (text_of sql h.0) (timed params h.0.formats h.1.now) count outside (rw runs at h.2)
]

-- ---- a query for one row

shown_aborts : (old new : State) (sql : List ℕ) (c : Compiled) (params : Row) (e : Error) (returning : Option Returning)
    → FailsToShow old new sql c params e returning → Aborts old new
shown_aborts old new sql c params e None h = inl h.3
shown_aborts old new sql c params e (Some what) h = command_aborts old new sql c params e h

pub query_aborts : (sql : List ℕ) (params : Row) (old new : State) (e : Error) → FailsToQuery sql params old new e → Aborts old new
unfolding FailsToQuery IsNotRun
query_aborts sql params old new e (inl (inl h)) = inl h.1
query_aborts sql params old new e (inl (inr h)) = inr h.3
query_aborts sql params old new e (inr h) = shown_aborts old new sql h.0 (timed params h.0.formats h.1.now) e h.0.returning h.2

rows_open : (old new : State) (sql : List ℕ) (c : Compiled) (params : Row) (rows : List Row) (returning : Option Returning)
    → ShowsRows old new sql c params rows returning → IsTrue old.is_open
rows_open old new sql c params rows None h = h.3.0.was_open
rows_open old new sql c params rows (Some what) h = h.1.shown.was_open

pub shown_open : (sql : List ℕ) (params : Row) (old new : State) (rows : List Row) → Shown sql params old new rows → IsTrue old.is_open
unfolding Shown
shown_open sql params old new rows h = rows_open old new sql h.0 (timed params h.0.formats h.1.now) rows h.0.returning h.2

pub row_open : (sql : List ℕ) (params : Row) (old new : State) (row : Row) → QueriesRow sql params old new (Ok row) → IsTrue old.is_open
unfolding QueriesRow
row_open sql params old new row (inl h) = h.1.0.was_open
row_open sql params old new row (inr h) = shown_open sql params old new h.0 h.1

command_none : (old new : State) (sql : List ℕ) (c : Compiled) (params : Row) → RunsCommand old new sql c params (Err QueryReturnedNoRows)
    → IsTrue old.is_open
command_none old new sql c params (inl refused) = refused.1.0.was_open
command_none old new sql c params (inr failed) = absurd (not_stored failed.0 failed.1)

none_shown : (old new : State) (sql : List ℕ) (c : Compiled) (params : Row) (returning : Option Returning)
    → FailsToShow old new sql c params QueryReturnedNoRows returning → IsTrue old.is_open
none_shown old new sql c params None h = h.3.0.was_open
none_shown old new sql c params (Some what) h = command_none old new sql c params h

none_failed : (sql : List ℕ) (params : Row) (old new : State) → FailsToQuery sql params old new QueryReturnedNoRows → IsTrue old.is_open
unfolding FailsToQuery IsNotRun
none_failed sql params old new (inl (inl h)) = h.1.0.was_open
none_failed sql params old new (inl (inr h)) = absurd (not_stored h.0 h.1)
none_failed sql params old new (inr h) = none_shown old new sql h.0 (timed params h.0.formats h.1.now) h.0.returning h.2

none_open : (sql : List ℕ) (params : Row) (old new : State) → QueriesRow sql params old new (Err QueryReturnedNoRows) → IsTrue old.is_open
unfolding QueriesRow
none_open sql params old new (inl h) = none_failed sql params old new h
none_open sql params old new (inr h) = shown_open sql params old new [] h.1

-- ---- the calls of a store

-- a query for a key that finds a row
pub got : {sql : List ℕ} {at : ℕ} (q : IsKeyQuery sql at) (old new : State) (key : List ℕ) (row : Row) → IsServing old
    → QueriesRow sql (Text key ∷ []) old new (Ok row) → IsTrue old.is_open × Aborts old new
got {sql} q old new key row s h =
    let live = row_open sql (Text key ∷ []) old new row h in
    (live, inl (gets_same q old new key row (s.1 live).1.schema h))

-- a query for a key that finds none
pub got_none : {sql : List ℕ} {at : ℕ} (q : IsKeyQuery sql at) (old new : State) (key : List ℕ) → IsServing old
    → QueriesRow sql (Text key ∷ []) old new (Err QueryReturnedNoRows) → IsTrue old.is_open × Aborts old new
got_none {sql} q old new key s h =
    let live = none_open sql (Text key ∷ []) old new h in
    (live, inl (gets_none_same q old new key (s.1 live).1.schema h))

-- a query for a key that fails otherwise fails for the database
pub failed_for : (sql : List ℕ) (params : Row) (old new : State) (e : Error) → (e ≡ QueryReturnedNoRows → ⊥)
    → QueriesRow sql params old new (Err e) → FailsToQuery sql params old new e
unfolding QueriesRow
failed_for sql params old new e other (inl h) = h
failed_for sql params old new e other (inr h) = absurd (other h.0)

-- a query for a key that fails
pub got_failed : {sql : List ℕ} {at : ℕ} (q : IsKeyQuery sql at) (old new : State) (key : List ℕ) (e : Error) → IsServing old
    → QueriesRow sql (Text key ∷ []) old new (Err e) → Aborts old new
unfolding QueriesRow
got_failed {sql} q old new key e s (inl h) = query_aborts sql (Text key ∷ []) old new e h
got_failed {sql} q old new key e s (inr h) =
    let live = shown_open sql (Text key ∷ []) old new [] h.1 in
    inl (shown_same sql (Text key ∷ []) old new [] q.plain (s.1 live).1.schema h.1)

-- a query that shows its rows changes nothing
pub listed_by : (sql : List ℕ) (params : Row) → IsPlain (understood entry_schema sql) → (old new : State) (found : List Row) → IsServing old
    → Shown sql params old new found → IsTrue old.is_open × Aborts old new
listed_by sql params plain old new found s h =
    let live = shown_open sql params old new found h in
    (live, inl (shown_same sql params old new found plain (s.1 live).1.schema h))

-- the query for all rows, if it shows them
pub listed : (old new : State) (found : List Row) → IsServing old → Shown each_text [] old new found → IsTrue old.is_open × Aborts old new
listed old new found = listed_by each_text [] each_plain old new found

-- a connection that was not called is as it was
pub unmoved : (s : State) → IsTrue s.is_open → IsUnchanged s s
unmoved s live = (
  record { was_open = live; is_open = live; now_is = refl; committed_is = refl; mode = refl },
  record { changes = refl; last_rowid = refl },
  refl,
)

-- what holds of each error holds of a result
pub if_err : {A E : Type 0} (P : E → Type 0) (r : Result A E) → ((e : E) → P e) → IfErr r P
if_err P (Ok a) p = tt
if_err P (Err e) p = p e

pub on_err : {A E : Type 0} {P : Type 0} (r : Result A E) → P → OnErr r P
on_err (Ok a) p = tt
on_err (Err e) p = p

-- a put that was done
pub put_serving : (old new : State) (key body : List ℕ) (count : ℕ) → IsServing old
    → Executes put_text (Text key ∷ Text body ∷ []) old new (Ok count) → AreOpen old new × IsServing new
put_serving old new key body count s h =
    let live = executed_open put_text (Text key ∷ Text body ∷ []) old new count s.0 h in
    let was = (s.1 live.0).1 in
    let done = commits_in old new key body (Ok count) was s.0 h in
    (live, (done.0, λ l. (done.1, (puts_in old new key body (Ok count) was h).store)))

-- a removal that was done
pub remove_serving : (old new : State) (key : List ℕ) (count : ℕ) → IsServing old
    → Executes remove_text (Text key ∷ []) old new (Ok count) → AreOpen old new × IsServing new
remove_serving old new key count s h =
    let live = executed_open remove_text (Text key ∷ []) old new count s.0 h in
    let was = (s.1 live.0).1 in
    let done = removes_commits_in old new key (Ok count) was s.0 h in
    (live, (done.0, λ l. (done.1, (removes_in old new key (Ok count) was h).store)))

-- what becomes of a connection by a put, whatever it returns
pub put_kept : (old new : State) (key body : List ℕ) (r : Result ℕ Error) → IsServing old
    → Executes put_text (Text key ∷ Text body ∷ []) old new r
    → IsServing new × (OnOk r (AreOpen old new) × OnErr r (Keeps old new))
put_kept old new key body (Ok count) s h = let p = put_serving old new key body count s h in (p.1, (p.0, tt))
put_kept old new key body (Err e) s h =
    let aborts = failed_aborts put_text (Text key ∷ Text body ∷ []) old new e h in
    (aborts_serving old new s aborts, (tt, aborts_keeps old new s aborts))

-- and by a removal
pub remove_kept : (old new : State) (key : List ℕ) (r : Result ℕ Error) → IsServing old
    → Executes remove_text (Text key ∷ []) old new r
    → IsServing new × (OnOk r (AreOpen old new) × OnErr r (Keeps old new))
remove_kept old new key (Ok count) s h = let p = remove_serving old new key count s h in (p.1, (p.0, tt))
remove_kept old new key (Err e) s h =
    let aborts = failed_aborts remove_text (Text key ∷ []) old new e h in
    (aborts_serving old new s aborts, (tt, aborts_keeps old new s aborts))

-- a statement that fails leaves the connection as it was, or rolls its transaction back
pub executes_aborts : (sql : List ℕ) (params : Row) (old new : State) (r : Result ℕ Error) → Executes sql params old new r
    → OnErr r (Aborts old new)
executes_aborts sql params old new (Ok count) h = tt
executes_aborts sql params old new (Err e) h = failed_aborts sql params old new e h
