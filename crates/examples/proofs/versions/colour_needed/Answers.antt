-- The field that may not be missing is.
use Rattle.std.proofs.Common.{codes}
use Rattle.miniserde.specs.Tree.{members}
use Rattle.miniserde.specs.Integers.{unsigned_of, ReadsUnsigned}
use Rattle.examples.proofs.Kept.{says_missing}
use Rattle.examples.proofs.versions.colour_needed.Goals as goal

pub returns : goal.returns
returns c (members ms) lacks v r =
    (says_missing ⊥ (λ t. ReadsUnsigned 32 t v.colour) (unsigned_of 32) (codes "colour") ms lacks).0 r.1.1.1.0
returns c t lacks v r = r
