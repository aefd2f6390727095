-- The table `SHORT` has the character of each short escape, and 0 for every other byte (`short_is`); all its entries
-- are ASCII (`short_ascii`).
use Rattle.std.proofs.Common.{arith}
use Rattle.miniserde_text.proofs.Tables.{short_is, short_ascii}
use Rattle.miniserde_text.proofs.json.lex.tables.short.Goals as goal

pub returns-clause-value : goal.returns-clause-value
returns-clause-value c = short_is c.args.letter (omega arith)

pub returns-clause-ascii : goal.returns-clause-ascii
returns-clause-ascii c = short_ascii c.args.letter (omega arith)
