-- The table `NUMBER` has 1 for the bytes of number texts and for no others (`number_at`).
use Rattle.std.proofs.Common.{arith}
use Rattle.miniserde_text.proofs.Tables.{number_at}
use Rattle.miniserde_text.proofs.json.lex.tables.is_number_byte.Goals as goal

pub returns : goal.returns
returns c = number_at c.args.c (omega arith)
