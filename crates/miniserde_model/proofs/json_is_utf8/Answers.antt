-- The law is `json_utf8`, by recursion over the tree that the text spells.
use Rattle.miniserde_model.proofs.Utf8.{json_utf8}
use Rattle.miniserde_model.proofs.json_is_utf8.Goals as goal

pub returns : goal.returns
returns c = json_utf8
