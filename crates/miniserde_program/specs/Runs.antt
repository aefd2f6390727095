-- What a run of the program reads, writes and reports.
use Rattle.std.specs.Prelude.{◌≡◌, true, ◌<◌, ◌+◌, ℕ, List, ◌++◌, codes, Option, Result, Ok, Err, OnOk, IfSome, IsErrOf, ◌⊎◌, ⊤}
use Rattle.std.specs.Str.{IsUtf8}
use Rattle.std.specs.Io.KnownBytes.{IsAtEnd, Keeps, Appends}
use Rattle.miniserde_model.specs.Tree.{Tree}
use Rattle.miniserde_model.specs.Value.{IsJson}
use Rattle.miniserde_model.specs.Compact.{compact}
use Rattle.miniserde_model.specs.Distinct.{names_distinct}
use Rattle.miniserde_model.specs.Normal.{norm}
use Rattle.miniserde_model.specs.Size.{size}
use Rattle.miniserde_model.specs.declared.error.Error.{Error}
use Rattle.miniserde_model.specs.declared.error.Error.TheVariants as error
use Rattle.miniserde_program.specs.Counts.{inner_of, failures, flushes}
use Rattle.miniserde_program.specs.declared.canon.counted.Counted.{Counted}
use Rattle.miniserde_program.specs.declared.canon.Fault.{Fault}
use Rattle.miniserde_program.specs.declared.canon.Fault.TheVariants.{Invalid, Memory, Read, Write}

-- ---- the text

-- xs is a text that spells a tree, and ys is its canonical text: the compact text of the tree's normal form
unfoldable pub IsAnswer : List ℕ → List ℕ → Type 0
IsAnswer xs ys = IsUtf8 xs × ((t : Tree) × IsJson xs t × (ys ≡ compact (norm t)))

-- the bytes xs are no UTF-8, or spell no tree
unfoldable pub HasNoAnswer : List ℕ → Type 0
HasNoAnswer xs = (IsUtf8 xs → ⊥) ⊎ ((t : Tree) → IsJson xs t → ⊥)

-- xs is a text that spells a tree without duplicate names, and ys is its canonical text; the normal form has as many
-- values as the tree
unfoldable pub IsAnswerOfUnique : List ℕ → List ℕ → Type 0
IsAnswerOfUnique xs ys =
    IsUtf8 xs × ((t : Tree) × IsJson xs t × (names_distinct t ≡ true) × (size (norm t) ≡ size t)
    × (ys ≡ compact (norm t)))

-- the bytes xs are no UTF-8, or spell no tree without duplicate names
unfoldable pub HasNoAnswerOfUnique : List ℕ → Type 0
HasNoAnswerOfUnique xs = (IsUtf8 xs → ⊥) ⊎ ((t : Tree) → IsJson xs t → names_distinct t ≡ true → ⊥)

-- ---- the calls

-- the fault of a run that failed with the error
abbrev pub fault_of : Error → Fault
fault_of error.Invalid = Invalid
fault_of error.Memory = Memory

-- how many calls of the reader failed in a run with this result
abbrev pub read_faults : {T : Type 0} → Result T Fault → ℕ
read_faults (Ok x) = 0
read_faults (Err Invalid) = 0
read_faults (Err Memory) = 0
read_faults (Err Read) = 1
read_faults (Err Write) = 0

-- how many calls of the writer failed in a run with this result; a write that takes none of its
-- bytes counts as failed
abbrev pub write_faults : {T : Type 0} → Result T Fault → ℕ
write_faults (Ok x) = 0
write_faults (Err Invalid) = 0
write_faults (Err Memory) = 0
write_faults (Err Read) = 0
write_faults (Err Write) = 1

-- p holds if the result says that the reader was read to its end, which `Memory` and `Read` leave open
abbrev pub IfRead : {T : Type 0} → Result T Fault → Type 0 → Type 0
IfRead (Ok x) p = p
IfRead (Err Invalid) p = p
IfRead (Err Memory) p = ⊤
IfRead (Err Read) p = ⊤
IfRead (Err Write) p = p

-- p holds if the result says that nothing was written: it is `Invalid`, `Memory` or `Read`
abbrev pub IfSilent : {T : Type 0} → Result T Fault → Type 0 → Type 0
IfSilent (Ok x) p = ⊤
IfSilent (Err Invalid) p = p
IfSilent (Err Memory) p = p
IfSilent (Err Read) p = p
IfSilent (Err Write) p = ⊤

-- Below, `old` and `new` are the bytes that a writer has before and after, or `None` if its type does not tell them to
-- a contract. If `old` is `None`, nothing is said of `new`.

-- `new` is `old` with a prefix of bs appended
abbrev pub AppendsPart : Option (List ℕ) → Option (List ℕ) → List ℕ → Type 0
AppendsPart old new bs = (front : List ℕ) × (rest : List ℕ) × (bs ≡ front ++ rest) × Appends old new front

-- `new` is `old` with some ys appended such that `is xs ys` holds
abbrev pub AppendsBy : (List ℕ → List ℕ → Type 0) → Option (List ℕ) → Option (List ℕ) → List ℕ → Type 0
AppendsBy is old new xs = (ys : List ℕ) × is xs ys × Appends old new ys

-- `new` is `old` with a prefix of some ys appended such that `is xs ys` holds
abbrev pub AppendsPartBy : (List ℕ → List ℕ → Type 0) → Option (List ℕ) → Option (List ℕ) → List ℕ → Type 0
AppendsPartBy is old new xs = (ys : List ℕ) × is xs ys × AppendsPart old new ys

-- `new` is `old` with an output of `run` for xs appended
abbrev pub AppendsAnswer : Option (List ℕ) → Option (List ℕ) → List ℕ → Type 0
AppendsAnswer = AppendsBy IsAnswer

-- `new` is `old` with a prefix of an output of `run` for xs appended
abbrev pub AppendsPartOfAnswer : Option (List ℕ) → Option (List ℕ) → List ℕ → Type 0
AppendsPartOfAnswer = AppendsPartBy IsAnswer

-- `new` is `old` with an output of `run_unique` for xs appended
abbrev pub AppendsAnswerOfUnique : Option (List ℕ) → Option (List ℕ) → List ℕ → Type 0
AppendsAnswerOfUnique = AppendsBy IsAnswerOfUnique

-- `new` is `old` with a prefix of an output of `run_unique` for xs appended
abbrev pub AppendsPartOfAnswerOfUnique : Option (List ℕ) → Option (List ℕ) → List ℕ → Type 0
AppendsPartOfAnswerOfUnique = AppendsPartBy IsAnswerOfUnique

-- ---- the program

-- the program's exit status after a run with this result
abbrev pub status_of : {T : Type 0} → Result T Fault → ℕ
status_of (Ok x) = 0
status_of (Err Invalid) = 1
status_of (Err Memory) = 3
status_of (Err Read) = 4
status_of (Err Write) = 5

-- the program's line on standard error after a run with this result
abbrev pub line_of : {T : Type 0} → Result T Fault → List ℕ
line_of (Ok x) = codes ""
line_of (Err Invalid) = codes "canon: invalid text"
line_of (Err Memory) = codes "canon: out of memory"
line_of (Err Read) = codes "canon: read failed"
line_of (Err Write) = codes "canon: write failed"

-- What a contract sees of a reader and a writer that count their calls. `left` and `written` are `None` if the type of the
-- reader or the writer does not tell them to a contract.
pub record Streams : Type 0 where
  -- the bytes that the reader has left
  pub left : Option (List ℕ)
  -- how many calls of the reader failed
  pub read_failures : ℕ
  -- the bytes that the writer has taken
  pub written : Option (List ℕ)
  -- how many calls of the writer failed
  pub write_failures : ℕ
  -- how many calls of `flush` the writer had
  pub flushed : ℕ

-- what a contract sees of the reader r and the writer w, of which `remaining` and `contents` tell the bytes
abbrev pub streams : {R W : Type 0} → (R → Option (List ℕ)) → (W → Option (List ℕ)) → Counted R → Counted W → Streams
streams remaining contents r w = record {
  left = remaining (inner_of r);
  read_failures = failures r;
  written = contents (inner_of w);
  write_failures = failures w;
  flushed = flushes w;
}

-- The effects of a run with the result `answer` on a reader and a writer. `is` relates an input to its output; `none`
-- holds of an input without an output.
pub record RunEffects {T : Type 0} (is : List ℕ → List ℕ → Type 0) (none : List ℕ → Type 0) (answer : Result T Fault)
    (old new : Streams) : Type 0 where
  pub ok : OnOk answer (IfSome old.left (AppendsBy is old.written new.written))
  pub flushed : OnOk answer (new.flushed ≡ old.flushed + 1)
  pub read : IfRead answer (IsAtEnd new.left)
  pub read_failed : new.read_failures ≡ old.read_failures + read_faults answer
  pub write_failed : new.write_failures ≡ old.write_failures + write_faults answer
  pub invalid : IsErrOf answer Invalid → IfSome old.left none
  pub silent : IfSilent answer (Keeps old.written new.written)
  pub part : IsErrOf answer Write → IfSome old.left (AppendsPartBy is old.written new.written)
  pub all_written : IsErrOf answer Write → old.flushed < new.flushed → IfSome old.left (AppendsBy is old.written new.written)
