-- Bytes that are no UTF-8 have no tree, since a text with a tree is UTF-8.
use Rattle.miniserde_model.proofs.Utf8.{json_utf8}
use Rattle.miniserde_c.proofs.unique_of_bytes.Goals as goal

pub returns-in_default-clause-invalid : goal.returns-in_default-clause-invalid
returns-in_default-clause-invalid c = λ _ t p _. c.in_default.ensures (json_utf8 c.args.bytes.now t p)
