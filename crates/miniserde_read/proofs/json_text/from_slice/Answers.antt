-- Bytes that are not UTF-8 spell no tree.
use Rattle.miniserde_model.proofs.Unique.{one_tree}
use Rattle.miniserde_model.proofs.Utf8.{json_utf8}
use Rattle.miniserde_read.proofs.json_text.from_slice.Goals as goal

pub returns-in-Err-clause-invalid : goal.returns-in-Err-clause-invalid
returns-in-Err-clause-invalid g c = λ e t h. absurd (c.in-Err.ensures.cases.0 (json_utf8 c.args.bytes.now t h))

pub returns-in-Err-clause-none : goal.returns-in-Err-clause-none
returns-in-Err-clause-none g c = λ e t h. absurd (c.in-Err.ensures.cases.0 (json_utf8 c.args.bytes.now t h))

pub returns-in-Err-clause-one : goal.returns-in-Err-clause-one
returns-in-Err-clause-one g c = one_tree c.args.bytes.now
