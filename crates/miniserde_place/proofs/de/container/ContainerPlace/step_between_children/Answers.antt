-- If no child is open, the contract is that of `begin_child_or_end`. If a child is complete, its value joins the
-- container first, and the place advances by both steps (`PositionAdvances-join`).
use Rattle.std.proofs.Common.{◌≡◌, false, None}
use Rattle.std.proofs.lemmas.Result.{IfOk-weaker}
use Rattle.miniserde_read.specs.Events.{event_of}
use Rattle.miniserde_place.specs.Place.{PositionAdvances}
use Rattle.miniserde_place.specs.Container.{position_in_container, inside_child, between_children}
use Rattle.miniserde_place.specs.laws.Container.{PositionAdvances-join, unrefused_before}
use Rattle.miniserde_place.specs.Stage.{stage_view}
use Rattle.miniserde_place.proofs.de.container.ContainerPlace.step_between_children.Goals as goal

pub returns-in-Between-clause-rejects : goal.returns-in-Between-clause-rejects
returns-in-Between-clause-rejects g c = rw c.in-Between.is (λ e n. c.begin_child_or_end.ensures.rejects e)

pub returns-in_ok-join-in-Child-clause-advances : goal.returns-in_ok-join-in-Child-clause-advances
returns-in_ok-join-in-Child-clause-advances g c =
    let k = g.C.Collect.collector_meaning in
    let q = k.child c.args.self.now.collector in
    let t = stage_view k c.begin_child_or_end-in-Child.new.self.stage c.begin_child_or_end-in-Child.new.self.collector in
    let s = k.state c.join.new.self in
    let p = c.requires.complete c.in-Child.is in
    let o : q.refused ≡ None = unrefused_before q.refused c.in_ok-join-in-Child.field-0 c.in_ok-join-in-Child.ensures.sticky in
    rw (c.in-Child.is, o) (IfOk-weaker c.begin_child_or_end-in-Child.result
    (λ _. PositionAdvances (1, false) (between_children k.rules s) (event_of c.args.event) t.at t.outcome)
    (λ _. PositionAdvances (position_in_container q.at) (inside_child k.rules q.outcome q.at)
    (event_of c.args.event) t.at t.outcome)
    (λ _ l. PositionAdvances-join k.rules q.at q.outcome s (event_of c.args.event) t.at t.outcome p
    c.in_ok-join-in-Child.ensures.joined l) c.begin_child_or_end-in-Child.ensures.advances)
