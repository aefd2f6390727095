-- The events of an optional value's tree give what the tree gives.
use Rattle.std.proofs.Common.{◌≡◌, List, Option, Some, refl, ap}
use Rattle.std.specs.Prelude.{option_map}
use Rattle.miniserde_model.specs.Tree.{Tree, null}
use Rattle.miniserde_model.specs.Step.{Step, events}
use Rattle.miniserde_read.specs.types.Options.{option_of}
use Rattle.miniserde_places.specs.Options.{option_mean}

-- if `mean` gives for the events of a tree what `of` gives for the tree, so do `option_mean` and `option_of`
pub option-meant : {C : Type 0} (mean : List Step → Option C) (of : Tree → Option C)
    → ((t : Tree) → mean (events t) ≡ of t) → (t : Tree) → option_mean mean (events t) ≡ option_of of t
option-meant mean of m null = refl
option-meant mean of m t = ap (option_map Some) (m t)
