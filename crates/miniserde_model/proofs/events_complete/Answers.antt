-- `one` is by recursion over the tree (`events_complete`), `only` by recursion over the events (`no_longer`).
use Rattle.miniserde_model.proofs.Events.{events_complete, no_longer}
use Rattle.miniserde_model.proofs.events_complete.Goals as goal

pub returns-clause-one : goal.returns-clause-one
returns-clause-one c = events_complete

pub returns-clause-only : goal.returns-clause-only
returns-clause-only c = no_longer
