-- What the calls do to a store: the lemmas of each statement, for a result that may be an error.
use Rattle.std.proofs.Common.{arith, ◌≡◌, ◌⊎◌, ◌↔◌, inl, inr, ℕ, zero, suc, nat_lt, List, [], ◌∷◌, false, None, Ok, Err}
use Rattle.std.proofs.Common.{Result, OnOk, OnErr}
use Rattle.std.proofs.Common.{IsTrue, refl, sym, ap, subst, ◌∙◌, true≢false}
use Rattle.sqlite.specs.declared.types.Value.TheVariants.{Text}
use Rattle.sqlite.specs.Order.{Row}
use Rattle.sqlite.specs.Change.{created, next_tree}
use Rattle.sqlite.specs.Does.{Tally, lacks_sequence}
use Rattle.sqlite.specs.Effect.{Database}
use Rattle.sqlite.specs.declared.error.Error.{Error}
use Rattle.sqlite.specs.Command.TheVariants.{CreateTable, Nothing}
use Rattle.sqlite.specs.Listing.{understood}
use Rattle.sqlite.specs.State.{State, ExecutesIn, IsNotRun, shows_rows, IsUnchanged, Writes, Executes, QueriesRow, Shown, ShowsRows}
use Rattle.sqlite.specs.Clock.{timed}
use Rattle.sqlite.specs.declared.error.Error.TheVariants.{QueryReturnedNoRows}
use Rattle.rows.proofs.Gets.{no_failure}
use Rattle.sqlite.proofs.Callers.{IsPlain, runs_as}
use Rattle.std.proofs.lemmas.Bool.{cases_Bool}
use Rattle.std.proofs.lemmas.Bool.Decides.{nat_tests}
use Rattle.rows.specs.Entries.{create_text, put_text, entry, no_schema, entry_schema, body_of, Holds, HasKey}
use Rattle.rows.specs.Entries.{IsStore, IsPut, IsCommitted}
use Rattle.rows.specs.Entries.{remove_text, IsRemoved, IsUndone}
use Rattle.rows.proofs.Statements.{create_is, create_plain, again_is, again_plain, IsKeyQuery}
use Rattle.rows.proofs.Puts.{went, same_value, puts, puts_commits, committed_by}
use Rattle.rows.proofs.Removed.{removes, any_taken, none_taken, removes_commits, left_from, none_left, keyed_left}
use Rattle.rows.proofs.Removed.{rising_taken, others_stay}
use Rattle.sqlite_schema.specs.declared.schema.Constraint.TheVariants.{Unique}
use Rattle.sqlite_schema.specs.Rules.{Keeps}
use Rattle.rows.proofs.Unique.{one_row}
use Rattle.rows.proofs.Kept.{text_of_same, is_there, keyed_still, rising_still, was_there, stays}

-- the row is put into the store
pub puts_in : (old new : State) (key body : List ℕ) (r : Result ℕ Error) → IsStore old.now
    → Executes put_text (Text key ∷ Text body ∷ []) old new r → OnOk r (IsPut old.now new.now key body)
puts_in old new key body (Err e) was h = tt
puts_in old new key body (Ok count) was h =
    let rows = old.now.trees 0 in
    let out = new.now.trees 0 in
    let p = puts old new key body count was h in
    let put = p.2 in
    let here = is_there rows key body out was.keyed was.rising put in
    let keyed = keyed_still rows key body out was.keyed was.rising put in
    let rising = rising_still rows key body out was.keyed was.rising put in
    let unique = subst (λ s. Keeps Unique s new.now.trees) p.0 (p.1.obeys.rules Unique) in
    record {
      store = record { schema = p.0; keyed = keyed; rising = rising };
      here = here;
      only = λ other h.
          let same = one_row new.now.trees h.0 here.0 key unique keyed rising h.1 here.1 h.2 here.2 in
          text_of_same other body (sym h.3 ∙ ap body_of same ∙ here.3);
      others = λ k b apart. (
        (λ h. (h.0, was_there rows key body out was.keyed was.rising put h.0 k apart h.2 h.1, h.2, h.3)),
        (λ h. (h.0, stays rows key body out was.keyed was.rising put h.0 k apart h.2 h.1, h.2, h.3)),
      );
    }

-- outside of a transaction the row is committed
pub commits_in : (old new : State) (key body : List ℕ) (r : Result ℕ Error) → IsStore old.now → old.in_transaction ≡ false
    → Executes put_text (Text key ∷ Text body ∷ []) old new r → OnOk r (IsCommitted new)
commits_in old new key body (Err e) was outside h = tt
commits_in old new key body (Ok count) was outside h = puts_commits old new key body count was.schema outside h

-- a statement that fails outside of a transaction changes nothing
undone : (sql : List ℕ) (params : Row) (old new : State) (e : Error) → IsCommitted old → Executes sql params old new (Err e)
    → IsUndone old new
unfolding ExecutesIn IsNotRun
undone sql params old new e was (inl (inl h)) live = h.1.0.now_is
undone sql params old new e was (inl (inr h)) live = (h.3.undone live).0 ∙ was.1
undone sql params old new e was (inr h) live = elim (cases_Bool (shows_rows false h.0)) [
  | inl shows ↦ (rw shows at h.2).1.0.now_is
  | inr runs ↦ elim (rw runs at h.2) [ inl refused ↦ refused.1.0.now_is | inr failed ↦ (failed.3.undone live).0 ∙ was.1 ]
]

-- a row that is not put leaves the rows as they were
pub undone_in : (old new : State) (key body : List ℕ) (r : Result ℕ Error) → IsCommitted old
    → Executes put_text (Text key ∷ Text body ∷ []) old new r → OnErr r (IsUndone old new)
undone_in old new key body (Ok count) was h = tt
undone_in old new key body (Err e) was h = undone put_text (Text key ∷ Text body ∷ []) old new e was h

-- the row of a key is removed from the store
pub removes_in : (old new : State) (key : List ℕ) (r : Result ℕ Error) → IsStore old.now
    → Executes remove_text (Text key ∷ []) old new r → OnOk r (IsRemoved old.now new.now key)
removes_in old new key (Err e) was h = tt
removes_in old new key (Ok count) was h =
    let rows = old.now.trees 0 in
    let out = new.now.trees 0 in
    let p = removes old new key count was.schema h in
    record {
      store = record {
        schema = p.0;
        keyed = keyed_left rows key count out was.keyed was.rising p.1;
        rising = rising_taken rows key count out was.keyed was.rising p.1;
      };
      gone = λ h. none_left rows key count out was.keyed was.rising p.1 h.0 h.1 h.2;
      others = λ k b apart. (
        (λ h. (h.0, left_from rows key count out was.keyed was.rising p.1 h.0 h.1, h.2, h.3)),
        (λ h. (h.0, others_stay rows key count out was.keyed was.rising p.1 h.0 k apart h.2 h.1, h.2, h.3)),
      );
    }

-- it is counted exactly if there is one
pub removes_any : (old new : State) (key : List ℕ) (count : ℕ) → IsStore old.now → Executes remove_text (Text key ∷ []) old new (Ok count)
    → IsTrue (nat_lt 0 count) ↔ HasKey old.now key
removes_any old new key count was h =
    let rows = old.now.trees 0 in
    let p = removes old new key count was.schema h in
    go count (any_taken rows key count (new.now.trees 0) p.1)
    (λ none there. none_taken rows key count (new.now.trees 0) p.1 none there.0 there.1 there.2)
  where
    go : (n : ℕ) → HasKey old.now key ⊎ (n ≡ 0) → (n ≡ 0 → HasKey old.now key → ⊥) → IsTrue (nat_lt 0 n) ↔ HasKey old.now key
    go zero any none = (λ t. absurd (true≢false (sym t)), λ has. absurd (none refl has))
    go (suc n) (inl has) none = (λ t. has, λ h. grind (arith, nat_tests))
    go (suc n) (inr is) none = absurd (omega (arith, is))

-- outside of a transaction that is committed
pub removes_commits_in : (old new : State) (key : List ℕ) (r : Result ℕ Error) → IsStore old.now → old.in_transaction ≡ false
    → Executes remove_text (Text key ∷ []) old new r → OnOk r (IsCommitted new)
removes_commits_in old new key (Err e) was outside h = tt
removes_commits_in old new key (Ok count) was outside h = removes_commits old new key count was.schema outside h

-- a row that is not removed leaves the rows as they were
pub removes_undone : (old new : State) (key : List ℕ) (r : Result ℕ Error) → IsCommitted old
    → Executes remove_text (Text key ∷ []) old new r → OnErr r (IsUndone old new)
removes_undone old new key (Ok count) was h = tt
removes_undone old new key (Err e) was h = undone remove_text (Text key ∷ []) old new e was h

-- outside of a transaction the table is committed
pub creates_committed : (old new : State) (r : Result ℕ Error) → old.now.schema ≡ no_schema → old.in_transaction ≡ false
    → Executes create_text [] old new r → OnOk r (IsCommitted new)
creates_committed old new (Err e) has outside h = tt
creates_committed old new (Ok count) has outside h =
    let w = runs_as create_text [] old new no_schema has CreateTable create_is.0 create_plain count h in
    committed_by old new outside w.shown.mode w.shown.committed_is

-- the table that was made has no row
pub creates : (old new : State) (r : Result ℕ Error) → old.now.schema ≡ no_schema → Executes create_text [] old new r
    → OnOk r (IsStore new.now × ((k b : List ℕ) → Holds new.now k b → ⊥))
creates old new (Err e) has h = tt
creates old new (Ok count) has h =
    let w = subst (λ t. Writes old new None CreateTable t [] count) create_is.1
    (runs_as create_text [] old new no_schema has CreateTable create_is.0 create_plain count h) in
    let all = went w.changed in
    let first = went all.1 in
    let made = first.1 in
    let both : Ok made.table ≡ Ok entry = sym made.defined ∙ create_is.2 in
    let same : made.table ≡ entry = cc in
    let schema : first.0.schema ≡ entry_schema = made.is ∙ ap (λ s. created s made.table) has ∙ ap (created no_schema) same in
    let plain : lacks_sequence first.0.schema ≡ false = ap lacks_sequence schema in
    let now : new.now ≡ first.0 = ap (λ (p : Tally × Database). p.1) (same_value all.2) ∙ same_value (rw plain at first.2) in
    let empty : new.now.trees 0 ≡ [] = ap (λ (d : Database). d.trees 0) now
    ∙ subst (λ s. first.0.trees (next_tree s) ≡ []) has made.empty in
    (record { schema = ap (λ (d : Database). d.schema) now ∙ schema; keyed = rw empty tt; rising = rw empty tt }, λ k b h. rw empty at h.1)

-- a database that has the table stays as it is
pub creates_again : (old new : State) (r : Result ℕ Error) → old.now.schema ≡ entry_schema → Executes create_text [] old new r
    → OnOk r (IsUnchanged old new)
creates_again old new (Err e) has h = tt
creates_again old new (Ok count) has h = (runs_as create_text [] old new entry_schema has Nothing again_is again_plain count h).0

-- a query of a plain statement changes nothing
pub shown_same : (sql : List ℕ) (params : Row) (old new : State) (rows : List Row) → IsPlain (understood entry_schema sql)
    → old.now.schema ≡ entry_schema → Shown sql params old new rows → IsUnchanged old new
unfolding Shown
shown_same sql params old new rows plain has h =
    let known = sym h.1.is ∙ ap (λ s. understood s sql) has in
    let bare = subst IsPlain (sym known) plain in
    let it = subst (ShowsRows old new sql h.0 (timed params h.0.formats h.1.now) rows) bare.0 h.2 in
    it.3

-- a query for a key changes nothing
pub gets_same : {sql : List ℕ} {at : ℕ} (q : IsKeyQuery sql at) (old new : State) (key : List ℕ) (row : Row)
    → old.now.schema ≡ entry_schema → QueriesRow sql (Text key ∷ []) old new (Ok row) → IsUnchanged old new
unfolding QueriesRow
gets_same q old new key row has (inl h) = h.1
gets_same {sql} q old new key row has (inr h) = shown_same sql (Text key ∷ []) old new h.0 q.plain has h.1

-- and so if it finds no row
pub gets_none_same : {sql : List ℕ} {at : ℕ} (q : IsKeyQuery sql at) (old new : State) (key : List ℕ) → old.now.schema ≡ entry_schema
    → QueriesRow sql (Text key ∷ []) old new (Err QueryReturnedNoRows) → IsUnchanged old new
unfolding QueriesRow
gets_none_same q old new key has (inl h) = absurd (no_failure q old new key has h)
gets_none_same {sql} q old new key has (inr h) = shown_same sql (Text key ∷ []) old new [] q.plain has h.1
