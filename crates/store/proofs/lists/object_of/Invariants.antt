-- The text is the open object of the entries so far.
use Rattle.std.proofs.Common.{◌≡◌, string_bytes}
use Rattle.rows.specs.Entries.{texts_of}
use Rattle.store.proofs.ListLemmas.{Opened}
use Rattle.store.proofs.lists.object_of.Given as goal

abbrev pub invariant-loop-i : goal.invariant-loop-i
invariant-loop-i l = string_bytes l.text ≡ Opened texts_of l.i l.entries
