-- A tree without duplicate names has a normal form of the same size (`distinct_size`).
use Rattle.miniserde_model.proofs.Distinct.{distinct_size}
use Rattle.miniserde_value.specs.Values.{content_of}
use Rattle.miniserde_value.proofs.json.value.size_is_tree_size.Goals as goal

pub returns : goal.returns
returns c = λ v d. distinct_size (content_of v) d
