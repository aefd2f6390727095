-- The table `SPECIAL` has 1 for the bytes that must be escaped and for no others (`special_at`).
use Rattle.std.proofs.Common.{arith}
use Rattle.miniserde_text.proofs.Tables.{special_at}
use Rattle.miniserde_text.proofs.scan.is_special.Goals as goal

pub returns : goal.returns
returns c = special_at c.args.c (omega arith)
