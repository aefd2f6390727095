-- The law is `one_tree`: both trees are read along the same bytes, and the first byte decides the kind of a value.
use Rattle.miniserde_model.proofs.Unique.{one_tree}
use Rattle.miniserde_model.proofs.text_has_one_tree.Goals as goal

pub returns : goal.returns
returns c = one_tree
