-- Each byte that is taken leaves less of the field.
use Rattle.std.proofs.Common.{length}
use Rattle.grammar_table.proofs.notation.decoded.Given as goal

abbrev pub decreases-loop-byte : goal.decreases-loop-byte
decreases-loop-byte l = length l.rest
