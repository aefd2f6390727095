-- The events of a tree complete a fresh place, and give what the tree gives. `fresh_gives` is the law before `feed`,
-- and `fed_gives` is the law after it.
use Rattle.miniserde_de.proofs.Fed.{fresh_gives, fed_gives}
use Rattle.miniserde_de.proofs.events.events_give.Goals as goal

pub returns-clause-fresh : goal.returns-clause-fresh
returns-clause-fresh g c = fresh_gives g.V.Visitor.meaning c.events_complete.ensures.one

pub returns-clause-complete : goal.returns-clause-complete
returns-clause-complete g c = λ t p h. (fed_gives g.V.Visitor.meaning c.events_complete.ensures.one t p h).0

pub returns-clause-outcome : goal.returns-clause-outcome
returns-clause-outcome g c = λ t p h. (fed_gives g.V.Visitor.meaning c.events_complete.ensures.one t p h).1
