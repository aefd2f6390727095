-- The value retains a part of the tree, which has the tree's normal form (`norm_kept`) and the size of that form
-- (`kept_size`).
use Rattle.std.proofs.Common.{ap, ◌∙◌}
use Rattle.miniserde_model.specs.Normal.{norm}
use Rattle.miniserde_model.specs.Size.{size}
use Rattle.miniserde_value.proofs.RetainedTrees.{norm_kept}
use Rattle.miniserde_value.proofs.Sizes.{kept_size}
use Rattle.miniserde_value.proofs.json.value.read_is_normal.Goals as goal

pub returns-clause-tree : goal.returns-clause-tree
returns-clause-tree c = λ t v e. ap norm e ∙ norm_kept t

pub returns-clause-size : goal.returns-clause-size
returns-clause-size c = λ t v e. ap size e ∙ kept_size t
