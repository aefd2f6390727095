-- The keys and bodies so far are those of the rows before this one.
use Rattle.std.proofs.Common.{◌≡◌, map, take}
use Rattle.rows.specs.Entries.{texts_of, words_of}
use Rattle.rows.proofs.Each.{shown}
use Rattle.rows.proofs.texts.all.Given as goal

abbrev pub invariant-loop-row : goal.invariant-loop-row
invariant-loop-row g l = map shown (take l.row-index l.row-items) ≡ map words_of (map texts_of l.listed.items)
