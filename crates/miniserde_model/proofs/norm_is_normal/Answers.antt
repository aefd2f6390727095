-- Both clauses are by recursion over the tree: the normal form is idempotent (`norm_twice`) and stays in range
-- (`norm_tree`).
use Rattle.miniserde_model.proofs.Normal.{norm_twice, norm_tree}
use Rattle.miniserde_model.proofs.norm_is_normal.Goals as goal

pub returns-clause-idempotent : goal.returns-clause-idempotent
returns-clause-idempotent c = norm_twice

pub returns-clause-tree : goal.returns-clause-tree
returns-clause-tree c = norm_tree
