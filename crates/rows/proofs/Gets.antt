-- What a query for a key answers: a row is one of the key, and there is none only if no row has the key.
use Rattle.std.proofs.Common.{◌≡◌, inl, inr, ℕ, List, [], ◌∷◌, Option, Some, None, Ok, Err, Result, IfOk, refl}
use Rattle.std.proofs.Common.{false, sym, ap, subst, ◌∙◌}
use Rattle.sqlite_rules.specs.Lists.{Has}
use Rattle.sqlite.specs.declared.types.Value.TheVariants.{Null, Text}
use Rattle.sqlite.specs.Order.{Row, column}
use Rattle.sqlite.specs.Program.{overlay}
use Rattle.sqlite.specs.Effect.{Database, RefusesToRead}
use Rattle.sqlite.specs.Command.{Command}
use Rattle.sqlite.specs.Listing.{understood}
use Rattle.sqlite.specs.declared.error.Error.{Error}
use Rattle.sqlite.specs.declared.error.Error.TheVariants.{QueryReturnedNoRows, SqliteFailure}
use Rattle.sqlite.specs.declared.error.ErrorCode.TheVariants.{Closed}
use Rattle.sqlite_trees.specs.declared.error.StoreError.{StoreError}
use Rattle.sqlite_trees.specs.declared.error.StoreError.TheVariants as store
use Rattle.sqlite.specs.State.{State, QueriesRow, IsNotRun, FailsToQuery, FailsToShow, HasCause, IsNoStatement, store_error}
use Rattle.sqlite_resolve.specs.declared.compiled.Compiled.{Compiled}
use Rattle.sqlite_schema.specs.declared.command.Returning.{Returning}
use Rattle.sqlite.proofs.Callers.{first_as, reads_as, command_of, IsPlain}
use Rattle.rows.specs.Entries.{entry_schema, HasKey}
use Rattle.rows.proofs.Statements.{key_command, IsKeyQuery}
use Rattle.rows.proofs.Found.{found_at}

-- a row that is found is one of the key, and shows its column
pub gets : {sql : List ℕ} {at : ℕ} (q : IsKeyQuery sql at) (old new : State) (key : List ℕ) (r : Result Row Error)
    → old.now.schema ≡ entry_schema → QueriesRow sql (Text key ∷ []) old new r
    → IfOk r (λ row. (it : Row) × Has (old.now.trees 0) it × (column it 1 ≡ Text key) × (row ≡ column it at ∷ []))
gets q old new key (Err e) has h = tt
gets {sql} {at} q old new key (Ok row) has h =
    let got = (first_as sql (Text key ∷ []) old new entry_schema has (key_command at q.names) q.is q.plain q.unlisted row h).1 in
    let f = found_at at (overlay old.now.trees []) key (row ∷ got.0) (got.1 Null) in
    f.sound row (inl refl)

pub not_stored : (cause : StoreError) → QueryReturnedNoRows ≡ store_error cause → ⊥
not_stored store.OutOfMemory e = cc
not_stored store.Io e = cc
not_stored store.Corrupt e = cc
not_stored store.Full e = cc
not_stored store.Broken e = cc
not_stored store.Unstorable e = cc

not_read : (at : ℕ) (names : List (List ℕ)) (limit : Option ℕ) (db : Database) (params : Row)
    → RefusesToRead limit (key_command at names) db params QueryReturnedNoRows → ⊥
not_read at names limit db params (inl h) = let e = h.0 in cc
not_read at names limit db params (inr (inl h)) = let e = h.0 in cc
not_read at names limit db params (inr (inr h)) = let e = h.0 in cc

none_stated : (s : State) (sql : List ℕ) (params : Row) → IsNoStatement s sql params QueryReturnedNoRows → ⊥
none_stated s sql params (inl h) = let e = h.2 in cc
none_stated s sql params (inr (c, is, inl h)) = let e = h.1 in cc
none_stated s sql params (inr (c, is, inr (inl h))) = let e = h.1 in cc
none_stated s sql params (inr (c, is, inr (inr h))) = let e = h.1 in cc

not_read_as : (at : ℕ) (names : List (List ℕ)) (limit : Option ℕ) (command : Command) (db : Database) (params : Row)
    → command ≡ key_command at names → RefusesToRead limit command db params QueryReturnedNoRows → ⊥
not_read_as at names limit command db params is h =
    not_read at names limit db params (subst (λ k. RefusesToRead limit k db params QueryReturnedNoRows) is h)

not_shown : (at : ℕ) (names : List (List ℕ)) (old new : State) (sql : List ℕ) (c : Compiled) (params : Row) (returning : Option Returning)
    → returning ≡ None → c.command ≡ key_command at names → FailsToShow old new sql c params QueryReturnedNoRows returning → ⊥
not_shown at names old new sql c params None bare is h = not_read_as at names old.step_limit c.command h.0 params is h.2
not_shown at names old new sql c params (Some what) bare is h = cc

-- no failure is told as the lack of a row
pub no_failure : {sql : List ℕ} {at : ℕ} (q : IsKeyQuery sql at) (old new : State) (key : List ℕ) → old.now.schema ≡ entry_schema
    → FailsToQuery sql (Text key ∷ []) old new QueryReturnedNoRows → ⊥
unfolding FailsToQuery IsNotRun
no_failure {sql} q old new key has (inl (inl h)) = none_stated old sql (Text key ∷ []) h.0
no_failure q old new key has (inl (inr h)) = not_stored h.0 h.1
no_failure {sql} {at} q old new key has (inr h) =
    let known = sym h.1.is ∙ ap (λ s. understood s sql) has in
    let bare = subst IsPlain (sym known) q.plain in
    not_shown at q.names old new sql h.0 _ h.0.returning bare.0 (ap command_of known ∙ q.is) h.2

-- where it says that there is no row, there is none
pub gets_none : {sql : List ℕ} {at : ℕ} (q : IsKeyQuery sql at) (old new : State) (key : List ℕ) → old.now.schema ≡ entry_schema
    → QueriesRow sql (Text key ∷ []) old new (Err QueryReturnedNoRows) → HasKey old.now key → ⊥
unfolding QueriesRow
gets_none q old new key has (inl h) there = no_failure q old new key has h
gets_none {sql} {at} q old new key has (inr h) there =
    let all = reads_as sql (Text key ∷ []) old new entry_schema has (key_command at q.names) q.is q.plain q.unlisted [] h.1 in
    let f = found_at at (overlay old.now.trees []) key [] (all.answer Null) in
    f.complete there.0 there.1 there.2

closed_cause : (too_big : Type 0) (old new : State) (cause : StoreError) → SqliteFailure Closed ≡ store_error cause
    → HasCause old new too_big cause → old.is_open ≡ false
closed_cause too_big old new store.OutOfMemory e h = absurd (let f : ⊥ = cc in f)
closed_cause too_big old new store.Io e h = absurd (let f : ⊥ = cc in f)
closed_cause too_big old new store.Corrupt e h = absurd (let f : ⊥ = cc in f)
closed_cause too_big old new store.Full e h = absurd (let f : ⊥ = cc in f)
closed_cause too_big old new store.Broken e h = h
closed_cause too_big old new store.Unstorable e h = absurd (let f : ⊥ = cc in f)

closed_read : (at : ℕ) (names : List (List ℕ)) (limit : Option ℕ) (db : Database) (params : Row)
    → RefusesToRead limit (key_command at names) db params (SqliteFailure Closed) → ⊥
closed_read at names limit db params (inl h) = let e = h.0 in cc
closed_read at names limit db params (inr (inl h)) = let e = h.0 in cc
closed_read at names limit db params (inr (inr h)) = let e = h.0 in cc

closed_stated : (s : State) (sql : List ℕ) (params : Row) → IsNoStatement s sql params (SqliteFailure Closed) → ⊥
closed_stated s sql params (inl h) = let e = h.2 in cc
closed_stated s sql params (inr (c, is, inl h)) = let e = h.1 in cc
closed_stated s sql params (inr (c, is, inr (inl h))) = let e = h.1 in cc
closed_stated s sql params (inr (c, is, inr (inr h))) = let e = h.1 in cc

closed_read_as : (at : ℕ) (names : List (List ℕ)) (limit : Option ℕ) (command : Command) (db : Database) (params : Row)
    → command ≡ key_command at names → RefusesToRead limit command db params (SqliteFailure Closed) → ⊥
closed_read_as at names limit command db params is h =
    closed_read at names limit db params (subst (λ k. RefusesToRead limit k db params (SqliteFailure Closed)) is h)

closed_shown : (at : ℕ) (names : List (List ℕ)) (old new : State) (sql : List ℕ) (c : Compiled) (params : Row)
    (returning : Option Returning) → returning ≡ None → c.command ≡ key_command at names
    → FailsToShow old new sql c params (SqliteFailure Closed) returning → ⊥
closed_shown at names old new sql c params None bare is h = closed_read_as at names old.step_limit c.command h.0 params is h.2
closed_shown at names old new sql c params (Some what) bare is h = cc

was_closed : {sql : List ℕ} {at : ℕ} (q : IsKeyQuery sql at) (old new : State) (key : List ℕ) → old.now.schema ≡ entry_schema
    → FailsToQuery sql (Text key ∷ []) old new (SqliteFailure Closed) → old.is_open ≡ false
unfolding FailsToQuery IsNotRun
was_closed {sql} q old new key has (inl (inl h)) = absurd (closed_stated old sql (Text key ∷ []) h.0)
was_closed q old new key has (inl (inr h)) = closed_cause ⊥ old new h.0 h.1 h.2
was_closed {sql} {at} q old new key has (inr h) =
    let known = sym h.1.is ∙ ap (λ s. understood s sql) has in
    let bare = subst IsPlain (sym known) q.plain in
    absurd (closed_shown at q.names old new sql h.0 _ h.0.returning bare.0 (ap command_of known ∙ q.is) h.2)

-- A query for a key fails as on a shut connection only on one that is shut.
pub was_shut : {sql : List ℕ} {at : ℕ} (q : IsKeyQuery sql at) (old new : State) (key : List ℕ) (e : Error)
    → old.now.schema ≡ entry_schema → e ≡ SqliteFailure Closed → FailsToQuery sql (Text key ∷ []) old new e → old.is_open ≡ false
was_shut {sql} q old new key e has is h = was_closed q old new key has (subst (FailsToQuery sql (Text key ∷ []) old new) is h)
