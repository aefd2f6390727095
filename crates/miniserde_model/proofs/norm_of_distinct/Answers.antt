-- Both clauses are by recursion over the tree: the normal form has no duplicate name (`norm_distinct`), and without
-- duplicate names it has the size of the tree (`distinct_size`).
use Rattle.miniserde_model.proofs.Distinct.{norm_distinct, distinct_size}
use Rattle.miniserde_model.proofs.norm_of_distinct.Goals as goal

pub returns-clause-distinct : goal.returns-clause-distinct
returns-clause-distinct c = norm_distinct

pub returns-clause-size : goal.returns-clause-size
returns-clause-size c = distinct_size
