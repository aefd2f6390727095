-- What the statement that removes a row makes of the table: the rows of the key are taken out, and all others stay.
use Rattle.std.proofs.Common.{arith, ◌≡◌, ◌⊎◌, inl, inr, ℕ, ℤ, List, [], ◌∷◌, length, unwrap_or, true, false, None, Ok, refl}
use Rattle.std.proofs.Common.{sym, ap, subst, ◌∙◌}
use Rattle.std.proofs.lemmas.List.{length-map}
use Rattle.std.specs.List.{AllByRecursion}
use Rattle.sqlite_rules.specs.Lists.{Has}
use Rattle.sqlite_rules.specs.Calls.{ids_of}
use Rattle.sqlite_rules.specs.Edit.{edit_of, id_in, without_all, row_at, taken_by}
use Rattle.sqlite_rules.specs.declared.error.Rowids.TheVariants.{Given}
use Rattle.sqlite_rules.proofs.ListLemmas.{all_has, all_from}
use Rattle.sqlite_rules.proofs.ProbeLemmas.{has_mapped, mapped_has}
use Rattle.sqlite_rules.proofs.TableLemmas.{without_all_has}
use Rattle.sqlite.specs.declared.types.Value.TheVariants.{Null, Text}
use Rattle.sqlite.specs.Order.{Row, column}
use Rattle.sqlite.specs.Tree.{Trees, rowid, IsTable}
use Rattle.sqlite.specs.View.{is_int}
use Rattle.sqlite.specs.Program.{overlay}
use Rattle.sqlite.specs.Rows.{Written}
use Rattle.sqlite.specs.Does.{Tally, Does}
use Rattle.sqlite.specs.Effect.{Database}
use Rattle.sqlite.specs.Listing.{understood}
use Rattle.sqlite.specs.State.{State, mode_of, Executes}
use Rattle.sqlite.proofs.Callers.{one_step, runs_as, statement_of}
use Rattle.rows.specs.Entries.{entry, entry_schema, remove_text, key_of, IsCommitted}
use Rattle.rows.proofs.Statements.{remove_command, remove_is, remove_plain}
use Rattle.rows.proofs.Found.{AreShown, found_at}
use Rattle.rows.proofs.Puts.{went, same_value, committed_by}
use Rattle.rows.proofs.Kept.{own_id, not_left, rising_left, left_unless, text_of_same}

-- the rowids of the rows of the key are found, the rows that have them are taken out, and so many are counted
pub record IsTakenFrom (rows : List Row) (key : List ℕ) (count : ℕ) (out : List Row) : Type 0 where
  pub found : List Row
  pub shown : AreShown 0 rows key found
  pub rows_are : out ≡ without_all rows (ids_of found)
  pub counted : count ≡ length found

-- the statement takes the rows out, and keeps the schema
pub removes : (old new : State) (key : List ℕ) (count : ℕ) → old.now.schema ≡ entry_schema
    → Executes remove_text (Text key ∷ []) old new (Ok count)
    → (new.now.schema ≡ entry_schema) × IsTakenFrom (old.now.trees 0) key count (new.now.trees 0)
removes old new key count has h =
    let params = Text key ∷ [] in
    let w = runs_as remove_text params old new entry_schema has remove_command remove_is remove_plain count h in
    let text = statement_of remove_text (understood entry_schema remove_text) in
    let done = went (subst
    (λ s. Does old.step_limit (mode_of old) params (record old.now { schema = s }) text None remove_command
    (Ok (w.tally, new.now))) has w.changed) in
    let pair = same_value (went (went done.2).2).2 in
    let now = ap (λ (p : Tally × Database). p.1) pair in
    let tally = ap (λ (p : Tally × Database). unwrap_or (p.0.rows) 0) pair in
    let trees : new.now.trees ≡ done.0.trees = ap (λ (d : Database). d.trees) now in
    let asked = went done.1 in
    let left = went asked.2 in
    let edit = edit_of old.now.trees entry (ids_of asked.0) Given 0 [] in
    let step = one_step entry_schema (mode_of old).keys old.now.trees left.0 edit refl left.1 in
    let last : done.0.trees ≡ left.0 = ap (λ (w : Written). w.trees) (same_value left.2) in
    let taken : done.0.rows ≡ taken_by old.now.trees edit = ap (λ (w : Written). w.rows) (same_value left.2) in (
      ap (λ (d : Database). d.schema) now,
      record {
        found = asked.0;
        shown = found_at 0 (overlay old.now.trees []) key asked.0 (asked.1.answer Null);
        rows_are = ap (λ (t : Trees). t 0) (trees ∙ last) ∙ step.rows;
        counted = w.counted ∙ tally ∙ ap length taken ∙ length-map (ids_of asked.0) (row_at (old.now.trees 0))
            ∙ length-map asked.0 (λ r. id_in (rowid r));
      },
    )

-- outside of a transaction that is committed
pub removes_commits : (old new : State) (key : List ℕ) (count : ℕ) → old.now.schema ≡ entry_schema → old.in_transaction ≡ false
    → Executes remove_text (Text key ∷ []) old new (Ok count) → IsCommitted new
removes_commits old new key count has outside h =
    let w = runs_as remove_text (Text key ∷ []) old new entry_schema has remove_command remove_is remove_plain count h in
    committed_by old new outside w.shown.mode w.shown.committed_is

-- a row is counted exactly if one has the key
pub any_taken : (rows : List Row) (key : List ℕ) (count : ℕ) (out : List Row) → IsTakenFrom rows key count out
    → ((row : Row) × Has rows row × (key_of row ≡ Text key)) ⊎ (count ≡ 0)
any_taken rows key count out it = go it.found it.counted it.shown.sound
  where
    go : (found : List Row) → count ≡ length found
        → ((x : Row) → Has found x → (r : Row) × Has rows r × (column r 1 ≡ Text key) × (x ≡ column r 0 ∷ []))
        → ((row : Row) × Has rows row × (key_of row ≡ Text key)) ⊎ (count ≡ 0)
    go [] is sound = inr is
    go (x ∷ more) is sound = let r = sound x (inl refl) in inl (r.0, r.1, r.2)

-- and none is counted if none has it
pub none_taken : (rows : List Row) (key : List ℕ) (count : ℕ) (out : List Row) → IsTakenFrom rows key count out → count ≡ 0
    → (row : Row) → Has rows row → key_of row ≡ Text key → ⊥
none_taken rows key count out it none r there has = go it.found (sym it.counted ∙ none) (it.shown.complete r there has)
  where
    go : (found : List Row) → length found ≡ 0 → Has found (column r 0 ∷ []) → ⊥
    go [] is had = had
    go (x ∷ more) is had = omega (arith, is)

module _ (rows : List Row) (key : List ℕ) (count : ℕ) (out : List Row) (keyed : AllByRecursion (λ row. is_int (rowid row) ≡ true) rows)
    (rising : IsTable rows) (it : IsTakenFrom rows key count out) where
  abbrev ids : List ℤ
  ids = ids_of it.found

  -- a row that is left was there
  pub left_from : (x : Row) → Has out x → Has rows x
  left_from x there = without_all_has ids rows x (subst (λ l. Has l x) it.rows_are there)

  -- no row has the key
  pub none_left : (x : Row) → Has out x → column x 1 ≡ Text key → ⊥
  none_left x there has =
      let was = left_from x there in
      let int = all_has _ rows x keyed was in
      let found = it.shown.complete x was has in
      not_left ids rows (id_in (rowid x)) x (mapped_has (λ r. id_in (rowid r)) it.found (column x 0 ∷ []) found) (own_id x int)
      (subst (λ l. Has l x) it.rows_are there)

  -- each rowid is an integer
  pub keyed_left : AllByRecursion (λ r. is_int (rowid r) ≡ true) out
  keyed_left = all_from (λ r. is_int (rowid r) ≡ true) out (λ x h. all_has _ rows x keyed (left_from x h))

  -- the rowids increase
  pub rising_taken : IsTable out
  rising_taken = subst IsTable (sym it.rows_are) (rising_left ids rows rising)

  -- a row of another key stays
  pub others_stay : (x : Row) (other : List ℕ) → (other ≡ key → ⊥) → column x 1 ≡ Text other → Has rows x → Has out x
  others_stay x other apart has there = subst (λ l. Has l x) (sym it.rows_are)
      (left_unless rows ids key x rising keyed taken there (λ e. apart (text_of_same other key (sym has ∙ e))))
    where
      taken : (id : ℤ) → Has ids id → (r : Row) × Has rows r × (key_of r ≡ Text key) × (id ≡ id_in (rowid r))
      taken id h =
          let y = has_mapped (λ (r : Row). id_in (rowid r)) it.found id h in
          let r = it.shown.sound y.0 y.1 in
          (r.0, r.1, r.2, y.2 ∙ ap (λ (z : Row). id_in (rowid z)) r.3)
