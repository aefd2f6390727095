-- A new port leaves the rest as it is, so the other members stay (`rest_is_kept`).
use Rattle.std.proofs.Common.{refl}
use Rattle.test_more.specs.Changes.{with_port}
use Rattle.test_more.proofs.calls.others_stay.Goals as goal

pub returns : goal.returns
returns c = λ t s port r valid. c.rest_is_kept.ensures t s (with_port port s) r valid.0 refl
