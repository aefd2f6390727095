-- What a contract sees of a writer, and the effects of its calls.
use Rattle.std.specs.Prelude.{◌≡◌, ◌≤◌, ℕ, ◌+◌, ◌<◌, List, ◌++◌, length, Bool, true, false, Result, OnOk, OnErr, IsErrOf}
use Rattle.miniserde_model.specs.declared.error.Error.{Error}
use Rattle.miniserde_model.specs.declared.error.Error.TheVariants.{Memory}
use Rattle.miniserde_model.specs.Compact.{compact}
use Rattle.miniserde_model.specs.InRange.{InRange}
use Rattle.miniserde_model.specs.Tree.{Tree}
use Rattle.miniserde_model.specs.Normal.{norm}

-- what a contract sees of a writer
pub record WriterView : Type 0 where
  -- the bytes that are written so far
  pub text : List ℕ
  -- the next element or member is the first of its container
  pub first : Bool
  -- a call failed
  pub refused : Bool
  -- each tree that was written is known to be in normal form
  pub normal : Bool
  -- how many bytes the text has room for
  pub capacity : ℕ

-- the writer after the bytes bs were appended, with room for n bytes in all
abbrev pub after_append : WriterView → List ℕ → ℕ → WriterView
after_append w bs n = record w { text = w.text ++ bs; capacity = n }

-- the writer with its flag `first` set to b
abbrev pub with_first_flag : WriterView → Bool → WriterView
with_first_flag w b = record w { first = b }

-- the writer with its flag `normal` set to b
abbrev pub with_normal : WriterView → Bool → WriterView
with_normal w b = record w { normal = b }

-- the tree t was written: if the writer's flag `normal` is true, it was true before, and t is in normal form
abbrev pub KeepsNormal : WriterView → Tree → WriterView → Type 0
KeepsNormal old t new = new.normal ≡ true → (old.normal ≡ true) × (norm t ≡ t)

-- the writer after a call failed
abbrev pub with_refused : WriterView → WriterView
with_refused w = record w { refused = true }

-- if no call failed before, the text has no room for the bytes bs
abbrev pub LacksRoom : WriterView → List ℕ → Type 0
LacksRoom w bs = w.refused ≡ false → w.capacity < length w.text + length bs

-- The call appends the bytes bs and sets the flag `first` to the argument of that name; or it fails with `Memory`, for
-- lack of room or since a call failed before. If it fails, the text and its capacity are as before, and each later call
-- fails.
pub record Appends (old : WriterView) (bs : List ℕ) (first : Bool) (answer : Result (Unit {0}) Error) (new : WriterView) : Type 0 where
  pub ok : OnOk answer (new ≡ with_first_flag (after_append old bs new.capacity) first)
  pub was_running : OnOk answer (old.refused ≡ false)
  pub memory : OnErr answer (IsErrOf answer Memory)
  pub err : OnErr answer (new ≡ with_refused old)
  pub room : OnErr answer (LacksRoom old bs)
  pub capacity : old.capacity ≤ new.capacity

-- The call appends the compact text of the tree t, which is in range, and of which the writer knows what `KeepsNormal` says;
-- an element or a member right after it is not the first of its container. Or it fails with `Memory`, and each later call
-- fails. If a call failed before, it fails.
pub record WritesTree (old : WriterView) (t : Tree) (answer : Result (Unit {0}) Error) (new : WriterView) : Type 0 where
  pub ok : OnOk answer (new.text ≡ old.text ++ compact t)
  pub in_range : OnOk answer (InRange t)
  pub normal : OnOk answer (KeepsNormal old t new)
  pub first : OnOk answer (new.first ≡ false)
  pub unrefused : OnOk answer (new.refused ≡ false)
  pub was_running : OnOk answer (old.refused ≡ false)
  pub memory : OnErr answer (IsErrOf answer Memory)
  pub err : OnErr answer (new.refused ≡ true)
