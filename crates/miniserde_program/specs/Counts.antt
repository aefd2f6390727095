-- What a contract sees of a reader or a writer that counts its calls.
use Rattle.std.specs.Prelude.{ℕ}
use Rattle.miniserde_program.specs.declared.canon.counted.Counted.{Counted}

-- the reader or writer whose calls are counted
abbrev pub inner_of : {T : Type 0} → Counted T → T
inner_of c = c.inner

-- how many calls of the reader or writer failed: reads, writes and flushes; a write that takes none
-- of its bytes counts as failed, unless it has none
abbrev pub failures : {T : Type 0} → Counted T → ℕ
failures c = c.failed.value

-- how many calls of `flush` the writer had, also failed ones
abbrev pub flushes : {T : Type 0} → Counted T → ℕ
flushes c = c.flushed.value
