-- The container's place advances by the event that begins a child, if the child's place is fresh
-- (`PositionAdvances-begin`). If the collector rejects the child, no events from that one on give a value
-- (`PositionRejects-begin`).
use Rattle.std.proofs.Common.{rules}
use Rattle.std.proofs.lemmas.Result.{err_from_is_err_and}
use Rattle.miniserde_read.specs.Events.{event_of}
use Rattle.miniserde_place.specs.Container.{BeginsChild}
use Rattle.miniserde_place.specs.laws.Container.{PositionAdvances-begin, PositionRejects-begin}
use Rattle.miniserde_place.proofs.de.container.ContainerPlace.begin_child_or_end.Goals as goal

pub returns-in_ok-begin_child-in-Element-clause-advances : goal.returns-in_ok-begin_child-in-Element-clause-advances
returns-in_ok-begin_child-in-Element-clause-advances g c =
    let k = g.C.Collect.collector_meaning in
    let b : BeginsChild (event_of c.args.event) = search rules in
    let f = c.in_ok-begin_child-in-Element.ensures.fresh in
    rw f.unrefused (PositionAdvances-begin k.rules (k.state c.args.self.now.collector) (event_of c.args.event) _ _ b f.fresh f.outcome)

pub returns-in_err-begin_child-in-Element-clause-rejects : goal.returns-in_err-begin_child-in-Element-clause-rejects
returns-in_err-begin_child-in-Element-clause-rejects g c = λ e.
    let k = g.C.Collect.collector_meaning in
    let w = err_from_is_err_and c.from_residual.result c.from_residual.ensures.1 in
    let b : BeginsChild (event_of c.args.event) = search rules in
    PositionRejects-begin k.rules (k.state c.args.self.now.collector) (event_of c.args.event) b
    (c.in_err-begin_child-in-Element.ensures.invalid (cc (w.1, w.2, e)))
