-- The table `HEX` has the value of each hexadecimal digit, and 65536 for every other byte (`hex_at`), and its digits are
-- ASCII (`hex_at_ascii`).
use Rattle.std.proofs.Common.{arith}
use Rattle.miniserde_text.proofs.Tables.{hex_at, hex_at_small, hex_at_ascii}
use Rattle.miniserde_text.proofs.json.lex.tables.hex.Goals as goal

pub returns-clause-value : goal.returns-clause-value
returns-clause-value c = hex_at c.args.c (omega arith)

pub returns-clause-small : goal.returns-clause-small
returns-clause-small c = hex_at_small c.args.c (omega arith)

pub returns-clause-ascii : goal.returns-clause-ascii
returns-clause-ascii c = hex_at_ascii c.args.c (omega arith)
