-- `1` and `01` are two names of the key 1, and sorting changes which of the two is the last (`unstable-map`).
use Rattle.miniserde_stored.proofs.Twice.{unstable-map}
use Rattle.miniserde_stored.proofs.stable.two_names_of_a_key.Goals as goal

pub returns : goal.returns
returns c = unstable-map
