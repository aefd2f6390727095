-- Moves compose, and if the rest of a text bars every value, the whole text does. Each lemma appends the events of
-- two moves, or carries a bar back over the events of a move.
use Rattle.std.proofs.Common.{List, [], ◌∷◌, ◌++◌, refl, sym, ap, subst, ◌∙◌, append_assoc}
use Rattle.miniserde_model.specs.Step.{Step}
use Rattle.miniserde_model.specs.Position.{Completes}
use Rattle.miniserde_text.specs.private.Moments.{MomentFits}
use Rattle.miniserde_text.specs.private.EventRuns.{TextAt, Consumes, NeverRuns}
use Rattle.miniserde_text.proofs.Consumes.{Consumes-none, Consumes-append}
use Rattle.miniserde_place.specs.Place.{Advances, Rejects}
use Rattle.miniserde_place.specs.private.EngineRuns.{EngineState, text_of_state, Spellable, Moved, RejectsRuns}
use Rattle.miniserde_place.proofs.PositionAdvances.{leads_completes, AdvancesBy-append}

-- what never runs gives no value
pub never_rejects : {C : Type 0} (now : EngineState C) → NeverRuns (text_of_state now) → RejectsRuns now
never_rejects now n es r h c = absurd (n es r h)

-- an event that the text forces, and that the place refuses
pub rejects_one : {C : Type 0} (now : EngineState C) (e : Step) {new : TextAt}
    → Consumes (text_of_state now) (e ∷ []) new → Rejects now.view e → RejectsRuns now
rejects_one now e p b es r h c =
    let a = p.back es r h in
    ap now.view.outcome a.1 ∙ b a.0 (subst (λ z. Completes now.view.at z) a.1 c)

-- what bars the rest bars the whole
pub rejects_more : {C : Type 0} {from to : EngineState C} → Moved from to → RejectsRuns to → RejectsRuns from
rejects_more {from = from} {to = to} p b es r h c =
    let a = p.passed.back es r h in
    let d : Completes from.view.at (p.done ++ a.0) = subst (λ z. Completes from.view.at z) a.1 c in
    ap from.view.outcome a.1 ∙ sym (p.advances a.0 d).1
    ∙ b a.0 r a.2 (leads_completes from.view p.done to.view p.advances a.0 d)

-- two moves, one after the other, are one move
pub Moved-append : {C : Type 0} {from mid to : EngineState C} → Moved from mid → Moved mid to → Moved from to
Moved-append {from = from} {mid = mid} {to = to} p q = record {
  done = p.done ++ q.done;
  passed = Consumes-append p.passed q.passed;
  advances = AdvancesBy-append from.view p.done mid.view q.done to.view p.advances q.advances;
  spellable = λ es h. subst (λ z. Spellable from.moment z from.kinds) (sym (append_assoc p.done q.done es))
      (p.spellable (q.done ++ es) (q.spellable es h));
}

-- passing no event is a move from a state to itself, if the moment fits the open containers
pub Moved-none : {C : Type 0} (now : EngineState C) → MomentFits now.moment now.kinds → Moved now now
Moved-none now l = record {
  done = [];
  passed = Consumes-none l;
  advances = λ rest h. (refl, refl);
  spellable = λ es h. h;
}

-- one event is a move if the text consumes it, the place advances by it, and it is spelled before all later events
pub moved_one : {C : Type 0} (from to : EngineState C) (e : Step)
    → Consumes (text_of_state from) (e ∷ []) (text_of_state to)
    → ((es : List Step) → Spellable to.moment es to.kinds → Spellable from.moment (e ∷ es) from.kinds)
    → Advances from.view e to.view → Moved from to
moved_one from to e p g l = record { done = e ∷ []; passed = p; advances = l; spellable = g }
