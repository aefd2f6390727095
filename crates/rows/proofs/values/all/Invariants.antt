-- The keys and values so far were read from the rows before this one.
use Rattle.std.proofs.Common.{map, take}
use Rattle.std.specs.List.{AllZip}
use Rattle.rows.specs.Entries.{texts_of}
use Rattle.rows.specs.Values.{IsReadFrom}
use Rattle.rows.proofs.values.all.Given as goal

abbrev pub invariant-loop-row : goal.invariant-loop-row
invariant-loop-row g l =
    AllZip (λ entry read. IsReadFrom g.K.FromJson.means g.K.Serialize.tree g.K.Ranged.valid entry.0 read.0
    × IsReadFrom g.V.FromJson.means g.V.Serialize.tree g.V.Ranged.valid entry.1 read.1)
    (map texts_of (take l.row-index l.row-items)) l.listed.items
