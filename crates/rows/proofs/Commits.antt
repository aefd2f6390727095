-- What the statements that begin, commit and roll back a transaction do, and what a write does inside of one.
use Rattle.std.proofs.Common.{◌≡◌, ℕ, List, [], ◌∷◌, Bool, true, false, if◌then◌else◌, Ok, Err, Result, OnOk, IsTrue, sym, subst, ◌∙◌}
use Rattle.std.proofs.Common.{true≢false}
use Rattle.sqlite.specs.declared.error.Error.{Error}
use Rattle.sqlite.specs.declared.types.Value.TheVariants.{Text}
use Rattle.sqlite.specs.Command.TheVariants.{Begin, Commit, Rollback}
use Rattle.sqlite.specs.State.{State, Executes, Shows, IsUnchanged}
use Rattle.sqlite.proofs.Callers.{runs_as}
use Rattle.rows.specs.Entries.{put_text, remove_text, begin_text, commit_text, rollback_text, entry_schema}
use Rattle.rows.specs.Entries.{IsBegun, IsCommitted, IsBack, IsStore, IsServing, StaysInside}
use Rattle.rows.proofs.Statements.{begin_is, commit_is, rollback_is, remove_command, remove_is, remove_plain}
use Rattle.rows.proofs.Statements.{put_is, put_plain}
use Rattle.rows.proofs.Puts.{put_command}
use Rattle.rows.proofs.Serving.{executed_open}

pub begins : (old new : State) (r : Result ℕ Error) → old.now.schema ≡ entry_schema → Executes begin_text [] old new r
    → OnOk r (IsBegun old new)
begins old new (Err e) has h = tt
begins old new (Ok count) has h =
    let w = runs_as begin_text [] old new entry_schema has Begin begin_is.0 begin_is.1 count h in
    record { was_outside = w.0; inside = w.1.mode; is_open = w.1.is_open; now = w.1.now_is; committed = w.1.committed_is }

pub begins_open : (old new : State) (r : Result ℕ Error) → old.in_transaction ≡ false → Executes begin_text [] old new r
    → OnOk r (IsTrue old.is_open)
begins_open old new (Err e) outside h = tt
begins_open old new (Ok count) outside h = (executed_open begin_text [] old new count outside h).0

pub commits : (old new : State) (r : Result ℕ Error) → old.now.schema ≡ entry_schema → Executes commit_text [] old new r
    → OnOk r (IsTrue old.in_transaction × IsCommitted new × (new.now ≡ old.now) × IsTrue new.is_open)
commits old new (Err e) has h = tt
commits old new (Ok count) has h =
    let w = runs_as commit_text [] old new entry_schema has Commit commit_is.0 commit_is.1 count h in
    (w.0, (w.1.mode, w.1.committed_is ∙ sym w.1.now_is), w.1.now_is, w.1.is_open)

pub rolls_back : (old new : State) (r : Result ℕ Error) → old.now.schema ≡ entry_schema → Executes rollback_text [] old new r
    → OnOk r (IsTrue old.in_transaction × IsBack old new)
rolls_back old new (Err e) has h = tt
rolls_back old new (Ok count) has h =
    let w = runs_as rollback_text [] old new entry_schema has Rollback rollback_is.0 rollback_is.1 count h in (
      w.0,
      record {
        is_outside = w.1.autocommit;
        was_open = w.1.was_open;
        now = λ live. (w.1.undone live).0;
        committed = λ live. (w.1.undone live).1;
      },
    )

-- a connection that is back at a commit that is a store serves it
pub back_serving : (old new : State) (r : Result ℕ Error) → IsStore old.committed → OnOk r (IsTrue old.in_transaction × IsBack old new)
    → OnOk r (IsServing new)
back_serving old new (Err e) was h = tt
back_serving old new (Ok count) was h =
    (h.1.is_outside, λ live. (h.1.committed live ∙ sym (h.1.now live), subst IsStore (sym (h.1.now live)) was))

-- a write inside of a transaction commits nothing
stays_by : (old new : State) (inside : Bool) → inside ≡ true
    → Shows old new new.now (if inside then old.committed else new.now) inside → StaysInside old new
stays_by old new true is shown =
    record { was_open = shown.was_open; is_open = shown.is_open; inside = shown.mode; committed = shown.committed_is }
stays_by old new false is shown = absurd (true≢false (sym is))

pub puts_inside : (old new : State) (key body : List ℕ) (r : Result ℕ Error) → old.now.schema ≡ entry_schema
    → IsTrue old.in_transaction → Executes put_text (Text key ∷ Text body ∷ []) old new r → OnOk r (StaysInside old new)
puts_inside old new key body (Err e) has inside h = tt
puts_inside old new key body (Ok count) has inside h =
    let w = runs_as put_text (Text key ∷ Text body ∷ []) old new entry_schema has put_command put_is put_plain count h in
    stays_by old new old.in_transaction inside w.shown

pub removes_inside : (old new : State) (key : List ℕ) (r : Result ℕ Error) → old.now.schema ≡ entry_schema
    → IsTrue old.in_transaction → Executes remove_text (Text key ∷ []) old new r → OnOk r (StaysInside old new)
removes_inside old new key (Err e) has inside h = tt
removes_inside old new key (Ok count) has inside h =
    let w = runs_as remove_text (Text key ∷ []) old new entry_schema has remove_command remove_is remove_plain count h in
    stays_by old new old.in_transaction inside w.shown

-- a call that changes nothing leaves the transaction where it is
pub still_inside : (old mid new : State) → StaysInside old mid → IsUnchanged mid new → StaysInside old new
still_inside old mid new stays same = record {
  was_open = stays.was_open;
  is_open = same.0.is_open;
  inside = same.0.mode ∙ stays.inside;
  committed = same.0.committed_is ∙ stays.committed;
}
