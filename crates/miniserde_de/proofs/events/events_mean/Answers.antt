-- The place of a type gives for the events of a tree what the tree means by the type. `tied` carries the clauses of
-- `events_give` from the meaning of the place to that of the type: `given_reads` for a value, `none_reads` for none.
use Rattle.std.proofs.Common.{[]}
use Rattle.miniserde_model.specs.Step.{events}
use Rattle.miniserde_de.proofs.Fed.{given_reads, none_reads}
use Rattle.miniserde_de.proofs.events.events_mean.Goals as goal

pub returns-clause-complete : goal.returns-clause-complete
returns-clause-complete g c = c.events_give.ensures.complete

pub returns-clause-value : goal.returns-clause-value
returns-clause-value g c = λ t p h. given_reads g.T.Place.Visitor.meaning g.T.FromJson.means c.tied.ensures t
    (p.outcome []) (c.events_give.ensures.outcome t p h)

pub returns-clause-none : goal.returns-clause-none
returns-clause-none g c = λ t p h. none_reads g.T.Place.Visitor.meaning g.T.FromJson.means c.tied.ensures t
    (p.outcome []) (c.events_give.ensures.outcome t p h)

pub returns-clause-refused : goal.returns-clause-refused
returns-clause-refused g c = λ p f t. none_reads g.T.Place.Visitor.meaning g.T.FromJson.means c.tied.ensures t
    (p.outcome (events t)) (c.events_give.ensures.fresh p f t)
