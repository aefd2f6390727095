-- A new name leaves the labels as they are, so the other members stay (`aliased_rest_is_kept`).
use Rattle.std.proofs.Common.{refl}
use Rattle.test_more.specs.Changes.{with_name}
use Rattle.test_more.proofs.calls.labels_stay.Goals as goal

pub returns : goal.returns
returns c = λ t p name r valid. c.aliased_rest_is_kept.ensures t p (with_name name p) r valid.0 refl
