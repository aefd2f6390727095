-- What the statement that puts a row makes of the table, step by step as the clauses of `sqlite` name them: with no row of
-- the key the new row is put in, and else the row that is there is taken out and put in again with the new body.
use Rattle.std.proofs.Common.{◌≡◌, ◌⊎◌, inl, inr, ℕ, ℤ, List, [], ◌∷◌, ◌++◌, map, Bool, true, false, ◌&&◌, ◌||◌, cond, drop, if◌then◌else◌}
use Rattle.std.proofs.Common.{Option, Some, None, Ok, Err, Result, refl, sym, ap, subst, ◌∙◌, true≢false}
use Rattle.std.specs.List.{AllByRecursion}
use Rattle.std.specs.Ordering.{is_eq}
use Rattle.std.specs.declared.cmp.Ordering.{Ordering}
use Rattle.std.specs.declared.cmp.Ordering.TheVariants.{Less, Equal, Greater}
use Rattle.std.proofs.lemmas.Cmp.{tied_itself}
use Rattle.sqlite_rules.specs.Lists.{Has}
use Rattle.sqlite_rules.specs.Keys.{AreConflicts, conflicts}
use Rattle.sqlite_rules.specs.Calls.{ids_of}
use Rattle.sqlite_rules.specs.Edit.{edit_of, id_in, put_all, without_all, with_rowid, are_fresh, have_rowids}
use Rattle.sqlite_rules.specs.Cast.{cast_row}
use Rattle.sqlite_rules.specs.declared.error.Rowids.TheVariants.{Chosen, Given}
use Rattle.sqlite_rules.specs.declared.error.Refusal.{Refusal}
use Rattle.sqlite_rules.proofs.ListLemmas.{all_has}
use Rattle.sqlite_rules.proofs.ProbeLemmas.{has_mapped, mapped_has}
use Rattle.sqlite_rules.proofs.PlaceLemmas.{given, tied_same}
use Rattle.sqlite_schema.specs.Rules.{equal}
use Rattle.sqlite_schema.specs.declared.schema.Keys.{Keys}
use Rattle.sqlite_schema.specs.declared.command.Conflict.TheVariants.{Abort}
use Rattle.sqlite_sql.specs.Ops.{binary}
use Rattle.sqlite_value.specs.Keys.{first_key}
use Rattle.sqlite_value.proofs.OrderLemmas.{value_cmp_total}
use Rattle.sqlite.specs.Collation.TheVariants.{Binary}
use Rattle.sqlite.specs.declared.types.Value.{Value}
use Rattle.sqlite.specs.declared.types.Value.TheVariants.{Null, Int, Real, Text, Blob}
use Rattle.sqlite.specs.Order.{Row, column, value_cmp}
use Rattle.sqlite.specs.Program.{overlay}
use Rattle.sqlite.specs.Tree.{Trees, rowid, IsTable}
use Rattle.sqlite.specs.View.{is_int}
use Rattle.sqlite.specs.Rows.{Task, Written, Updates, Puts, Upserts, Meets, shown, Judged, Tries, TriesEach, InsertsOr, nothing, count_of}
use Rattle.sqlite.specs.Does.{Tally, Does}
use Rattle.sqlite.specs.Effect.{Database, IsDatabase}
use Rattle.sqlite.specs.State.{State, mode_of, Executes}
use Rattle.sqlite.specs.Source.TheVariants.{Values}
use Rattle.sqlite.specs.Command.{Command}
use Rattle.sqlite.specs.Command.TheVariants.{InsertOr}
use Rattle.sqlite.specs.Listing.{understood}
use Rattle.sqlite.proofs.Callers.{one_step, runs_as, statement_of}
use Rattle.rows.proofs.Statements.{terms, put_is, put_plain, clause, update, has_id, with_body}
use Rattle.rows.proofs.Found.{found_by, and_true, is_text, truth_back}
use Rattle.rows.specs.Entries.{entry, entry_schema, put_text, key_of, body_of, IsStore, IsCommitted}

-- the row that the statement gives, with no rowid
abbrev pub source : List ℕ → List ℕ → Row
source key body = Null ∷ Text key ∷ Text body ∷ []

-- a part that gave a value did not stop before
pub went : {B E R : Type 0} {b : B} {Stops : E → Type 0} → ((stop : E) × Stops stop × (Ok b ≡ Err stop)) ⊎ R → R
went (inl stopped) = absurd (let e = stopped.2 in cc)
went (inr on) = on

-- one result has one value
pub same_value : {B E : Type 0} {a b : B} → ◌≡◌ {A = Result B E} (Ok a) (Ok b) → a ≡ b
same_value e = cc

-- what the statement is about: the table and its parameters
abbrev pub task_of : Option ℕ → Keys → Row → Task
task_of limit keys params = record { limit = limit; keys = keys; schema = entry_schema; table = entry; params = params }

-- the row that the statement puts, with a rowid that is free
abbrev pub wanted : List Row → List ℕ → List ℕ → Row
wanted rows key body = with_rowid Chosen rows (cast_row entry (source key body))

-- What the statement makes of the rows: some that have the key are taken out, and rows with the key and the body are put in,
-- at least one.
pub record IsPutIn (rows : List Row) (key body : List ℕ) (out : List Row) : Type 0 where
  pub gone : List ℤ
  pub news : List Row
  pub rows_are : out ≡ put_all (without_all rows gone) news
  pub keyed : have_rowids news ≡ true
  pub fresh : are_fresh (without_all rows gone) news ≡ true
  pub some : (x : Row) × Has news x
  pub each : (x : Row) → Has news x → (key_of x ≡ Text key) × (body_of x ≡ Text body)
  pub taken : (id : ℤ) → Has gone id → (r : Row) × Has rows r × (key_of r ≡ Text key) × (id ≡ id_in (rowid r))

-- ---- columns and rowids

abbrev numbered_if : Bool → Value → Row → Row
numbered_if b v row = cond b (v ∷ drop 1 row) row

columns_if : (b : Bool) (v : Value) (key body : List ℕ) → let r = numbered_if b v (cast_row entry (source key body)) in
    (column r 1 ≡ Text key) × (column r 2 ≡ Text body)
    × (column (cast_row entry r) 1 ≡ Text key) × (column (cast_row entry r) 2 ≡ Text body)
columns_if true v key body = (refl, refl, refl, refl)
columns_if false v key body = (refl, refl, refl, refl)

columns_of : (rows : List Row) (key body : List ℕ) → let r = wanted rows key body in
    (column r 1 ≡ Text key) × (column r 2 ≡ Text body)
    × (column (cast_row entry r) 1 ≡ Text key) × (column (cast_row entry r) 2 ≡ Text body)
columns_of rows key body = columns_if _ _ key body

equal_is : (o : Ordering) → is_eq o ≡ true → o ≡ Equal
equal_is Less h = absurd (true≢false (sym h))
equal_is Equal h = refl
equal_is Greater h = absurd (true≢false (sym h))

-- integers that are equal are tied
equal_tied : (a b : Value) → is_int a ≡ true → is_int b ≡ true → equal Binary a b ≡ true → value_cmp a b ≡ Equal
unfolding binary
equal_tied (Int m) (Int n) p q h = equal_is _ (sym (truth_back _) ∙ h)
equal_tied (Int m) Null p q h = absurd (true≢false (sym q))
equal_tied (Int m) (Real x) p q h = absurd (true≢false (sym q))
equal_tied (Int m) (Text t) p q h = absurd (true≢false (sym q))
equal_tied (Int m) (Blob b) p q h = absurd (true≢false (sym q))
equal_tied Null b p q h = absurd (true≢false (sym p))
equal_tied (Real x) b p q h = absurd (true≢false (sym p))
equal_tied (Text t) b p q h = absurd (true≢false (sym p))
equal_tied (Blob c) b p q h = absurd (true≢false (sym p))

-- and each equals itself
equal_itself : (a : Value) → is_int a ≡ true → equal Binary a a ≡ true
unfolding binary
equal_itself (Int m) p = truth_back _ ∙ ap is_eq (tied_itself value_cmp_total (Int m))
equal_itself Null p = absurd (true≢false (sym p))
equal_itself (Real x) p = absurd (true≢false (sym p))
equal_itself (Text t) p = absurd (true≢false (sym p))
equal_itself (Blob c) p = absurd (true≢false (sym p))

only_agree : (a : Bool) → ((a && true) || false) ≡ true → a ≡ true
only_agree true h = refl
only_agree false h = h

-- a row that conflicts with the new one at column 1, the target of `ON CONFLICT(key)`, has its key
meets_by : (new row : Row) (key : List ℕ) → column new 1 ≡ Text key → conflicts (Some (1 ∷ [])) entry_schema.indexes entry new row ≡ true
    → key_of row ≡ Text key
unfolding first_key
meets_by new row key is h =
    is_text (key_of row) key (subst (λ v. equal Binary (key_of row) v ≡ true) is (only_agree (equal Binary (key_of row) (column new 1)) h))

-- ---- the parts of the statement

module _ (limit : Option ℕ) (keys : Keys) (key body : List ℕ) (db : Trees)
    (keyed : AllByRecursion (λ row. is_int (rowid row) ≡ true) (db 0)) (rising : IsTable (db 0)) where
  abbrev params : Row
  params = Text key ∷ Text body ∷ []

  abbrev task : Task
  task = task_of limit keys params

  abbrev new : Row
  new = wanted (db 0) key body

  put_in : (out : Written) → Puts task new db (Ok out) → IsPutIn (db 0) key body (out.trees 0)
  put_in out h =
      let on = went h in
      let step = one_step entry_schema keys db on.0 (edit_of db entry [] Given 0 (new ∷ [])) refl on.1 in
      let trees : out.trees ≡ on.0 = ap (λ (w : Written). w.trees) (same_value on.2) in
      let columns = columns_of (db 0) key body in
      record {
        gone = [];
        news = cast_row entry new ∷ [];
        rows_are = ap (λ (t : Trees). t 0) trees ∙ step.rows;
        keyed = step.keyed;
        fresh = step.fresh;
        some = (cast_row entry new, inl refl);
        each = λ x h. elim h [
          | inl is ↦ subst (λ r. (key_of r ≡ Text key) × (body_of r ≡ Text body)) (sym is) (columns.2, columns.3)
          | inr never ↦ absurd never
        ];
        taken = λ id h. absurd h;
      }

  module _ (there it : Row) (had : Has (db 0) it) (has : key_of it ≡ Text key) (named : there ≡ rowid it ∷ []) where
    abbrev more : Row
    more = params ++ rowid there ∷ shown entry new

    same_id : rowid there ≡ rowid it
    same_id = ap rowid named

    -- only the row that is there has its rowid
    alone : (r : Row) → Has (db 0) r → (equal Binary (rowid r) (rowid there) && true) ≡ true → r ≡ it
    alone r hr passes =
        let same = subst (λ v. equal Binary (rowid r) v ≡ true) same_id (sym (and_true _) ∙ passes) in
        tied_same (db 0) r it rising hr had
        (equal_tied (rowid r) (rowid it) (all_has _ (db 0) r keyed hr) (all_has _ (db 0) it keyed had) same)

    updated : (out : Written) → Updates task update more db (Ok out) → IsPutIn (db 0) key body (out.trees 0)
    updated out h =
        let on = went h in
        let left = went on.2 in
        let edit = edit_of db entry (ids_of on.0) Given 1 on.0 in
        let step = one_step entry_schema keys db left.0 edit refl left.1 in
        let trees : out.trees ≡ left.0 = ap (λ (w : Written). w.trees) (same_value left.2) in
        let found = found_by has_id with_body (overlay db []) more on.0 (on.1.answer Null) in
        let cast = λ (s : Row). cast_row entry (drop 1 s) in
        let news : edit.news ≡ map cast on.0 = given (without_all (db 0) (ids_of on.0)) (map cast on.0) in
        let shows = λ (r : Row). rowid r ∷ rowid r ∷ key_of r ∷ column new 2 ∷ [] in
        let here : equal Binary (rowid it) (rowid there) ≡ true =
        subst (λ v. equal Binary (rowid it) v ≡ true) (sym same_id) (equal_itself (rowid it) (all_has _ (db 0) it keyed had)) in
        record {
          gone = ids_of on.0;
          news = edit.news;
          rows_are = ap (λ (t : Trees). t 0) trees ∙ step.rows;
          keyed = step.keyed;
          fresh = step.fresh;
          some = (
            cast (shows it),
            subst (λ l. Has l (cast (shows it))) (sym news)
                (mapped_has cast on.0 (shows it) (found.complete it had (and_true _ ∙ here))),
          );
          each = λ x h.
              let s = has_mapped cast on.0 x (subst (λ l. Has l x) news h) in
              let r = found.sound s.0 s.1 in
              let is : r.0 ≡ it = alone r.0 r.1 r.2 in
              let made : x ≡ cast (shows it) = s.2 ∙ ap cast (r.3 ∙ ap shows is) in
              subst (λ z. (key_of z ≡ Text key) × (body_of z ≡ Text body)) (sym made) (made_of has);
          taken = λ id h.
              let s = has_mapped (λ (z : Row). id_in (rowid z)) on.0 id h in
              let r = found.sound s.0 s.1 in
              (r.0, r.1, ap key_of (alone r.0 r.1 r.2) ∙ has, s.2 ∙ ap (λ (z : Row). id_in (rowid z)) r.3);
        }
      where
        made_of : key_of it ≡ Text key
            → let z = cast_row entry (rowid it ∷ key_of it ∷ column new 2 ∷ []) in (key_of z ≡ Text key) × (body_of z ≡ Text body)
        made_of e = rw (e, (columns_of (db 0) key body).1) (refl, refl)

  upserted : (out : Written) → Upserts task Abort new db (clause ∷ []) (Ok out) → IsPutIn (db 0) key body (out.trees 0)
  upserted out (found, are, h) = go found are h
    where
      last : Upserts task Abort new db [] (Ok out) → IsPutIn (db 0) key body (out.trees 0)
      last ([], are, h) = put_in out h
      last (x ∷ xs, are, h) = put_in out h

      go : (found : List Row) → AreConflicts (Some (1 ∷ [])) entry_schema.indexes entry (db 0) new found
          → Meets task (Upserts task Abort new db []) new db clause found (Ok out) → IsPutIn (db 0) key body (out.trees 0)
      go [] are h = last h
      go (there ∷ xs) are h =
          let r = are.sound there (inl refl) in
          updated there r.0 r.1 (meets_by new r.0 key (columns_of (db 0) key body).0 r.2) r.3 out h

  judged : (out : Written) (verdict : Option Refusal) → Judged task Abort (clause ∷ []) new db verdict (Ok out)
      → IsPutIn (db 0) key body (out.trees 0)
  judged out None h = upserted out h
  judged out (Some why) h = absurd (let e = h in cc)

  tried : (out : Written) → Tries task Abort (clause ∷ []) new db (Ok out) → IsPutIn (db 0) key body (out.trees 0)
  tried out (inl h) = absurd (let e = h.1 in cc)
  tried out (inr h) = judged out h.0 h.2

  inserted : (out : Written) → InsertsOr task Abort (clause ∷ []) (Values terms 3) db (Ok out) → IsPutIn (db 0) key body (out.trees 0)
  inserted out h =
      let given = went h in
      let counter = went given.2 in
      let each = went counter.2 in
      let counts = went each.2 in
      let first =
      went (subst (λ rows. TriesEach task Abort (clause ∷ []) rows (count_of counter.0) (nothing db) (Ok each.0)) given.1.1 each.1) in
      let last : out.trees ≡ counts.0 = ap (λ (w : Written). w.trees) (same_value counts.2) in
      let mid : counts.0 ≡ each.0.0.trees = same_value counts.1 in
      let was : each.0.0.trees ≡ first.0.trees = ap (λ (p : Written × ℤ). p.0.trees) (same_value first.2) in
      subst (λ (t : Trees). IsPutIn (db 0) key body (t 0)) (sym (last ∙ mid ∙ was)) (tried first.0 first.1)

abbrev pub put_command : Command
put_command = InsertOr 0 Abort (Values terms 3) (clause ∷ [])

-- the statement puts the row, and keeps the schema
pub puts : (old new : State) (key body : List ℕ) (count : ℕ) → IsStore old.now
    → Executes put_text (Text key ∷ Text body ∷ []) old new (Ok count)
    → (new.now.schema ≡ entry_schema) × IsDatabase new.now × IsPutIn (old.now.trees 0) key body (new.now.trees 0)
puts old new key body count was h =
    let has = was.schema in
    let params = Text key ∷ Text body ∷ [] in
    let w = runs_as put_text params old new entry_schema has put_command put_is put_plain count h in
    let text = statement_of put_text (understood entry_schema put_text) in
    let done = went (subst
    (λ s. Does old.step_limit (mode_of old) params (record old.now { schema = s }) text None put_command
    (Ok (w.tally, new.now))) has w.changed) in
    let now = ap (λ (p : Tally × Database). p.1) (same_value (went (went done.2).2).2) in
    let trees : new.now.trees ≡ done.0.trees = ap (λ (d : Database). d.trees) now in (
      ap (λ (d : Database). d.schema) now,
      w.sound,
      subst (λ (t : Trees). IsPutIn (old.now.trees 0) key body (t 0)) (sym trees)
          (inserted old.step_limit (mode_of old).keys key body old.now.trees was.keyed was.rising done.0 done.1),
    )

-- a write outside of a transaction is committed
pub committed_by : (old new : State) → old.in_transaction ≡ false → new.in_transaction ≡ old.in_transaction
    → new.committed ≡ (if old.in_transaction then old.committed else new.now) → IsCommitted new
committed_by old new outside mode committed =
    (mode ∙ outside, subst (λ b. new.committed ≡ (if b then old.committed else new.now)) outside committed)

-- outside of a transaction the row is committed
pub puts_commits : (old new : State) (key body : List ℕ) (count : ℕ) → old.now.schema ≡ entry_schema → old.in_transaction ≡ false
    → Executes put_text (Text key ∷ Text body ∷ []) old new (Ok count) → IsCommitted new
puts_commits old new key body count has outside h =
    let w = runs_as put_text (Text key ∷ Text body ∷ []) old new entry_schema has put_command put_is put_plain count h in
    committed_by old new outside w.shown.mode w.shown.committed_is
