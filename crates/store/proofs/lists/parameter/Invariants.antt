-- The first pair of the name is among those that are left.
use Rattle.std.proofs.Common.{◌≡◌}
use Rattle.form_urlencoded.specs.Parse.{owned_pairs_left}
use Rattle.store.specs.Lists.{first_value, parameter}
use Rattle.store.proofs.ListLemmas.{texts}
use Rattle.store.proofs.lists.parameter.Given as goal

abbrev pub invariant-loop-pair : goal.invariant-loop-pair
invariant-loop-pair l = first_value l.name (texts (owned_pairs_left l.pair-iterator)) ≡ parameter l.name l.query
