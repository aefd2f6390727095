-- The table `SPACE` has 1 for whitespace and for no other byte (`space_at`).
use Rattle.std.proofs.Common.{arith}
use Rattle.miniserde_text.proofs.Tables.{space_at}
use Rattle.miniserde_text.proofs.json.lex.bytes.is_space.Goals as goal

pub returns : goal.returns
returns c = space_at c.args.c (omega arith)
