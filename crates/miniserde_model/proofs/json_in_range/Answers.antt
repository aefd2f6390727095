-- The law is `json_tree`, by recursion over the tree that the text spells.
use Rattle.miniserde_model.proofs.Accepted.{json_tree}
use Rattle.miniserde_model.proofs.json_in_range.Goals as goal

pub returns : goal.returns
returns c = json_tree
