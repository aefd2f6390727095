-- A place that was fed the events of a tree is complete, and its outcome is the content of the tree. The events of a
-- tree complete a fresh place (`EventsComplete`), whose outcome agrees with `from_tree`.
use Rattle.std.proofs.Common.{◌≡◌, List, [], ◌∷◌, Option, Some, None, true≢false, sym, ◌∙◌, ap, subst, append-nil}
use Rattle.std.specs.Prelude.{is_some}
use Rattle.miniserde_model.specs.Tree.{Tree}
use Rattle.miniserde_model.specs.Step.{Step, events}
use Rattle.miniserde_model.specs.Position.{Position, complete, next, next_by, Completes}
use Rattle.miniserde_model.specs.Laws.{EventsComplete}
use Rattle.miniserde_place.specs.Place.{PlaceMeaning, PlaceView, IsFresh}
use Rattle.miniserde_read.specs.Meaning.{Meaning}
use Rattle.miniserde_places.specs.Tied.{Agree, type_meaning}
use Rattle.miniserde_de.specs.Fed.{IsFed}

-- events that complete a position lead to the end
ends : (p : Position) (es : List Step) → Completes p es → next_by p es ≡ complete
ends p [] h = h
ends p (e ∷ es) h = ends (next p e) es h.1

module _ {P V : Type 0} (m : PlaceMeaning P V) (w : EventsComplete) where
  pub fresh_gives : (p : PlaceView m.Content) → IsFresh m.from_events p → (t : Tree) → p.outcome (events t) ≡ m.from_tree t
  fresh_gives p f t = f.outcome (events t) (w t) ∙ m.events_agree t

  pub fed_gives : (t : Tree) (p : PlaceView m.Content) → IsFed m t p → (p.at ≡ complete) × (p.outcome [] ≡ m.from_tree t)
  fed_gives t p h =
      let here : Completes h.0.at (events t) = subst (λ q. Completes q (events t)) (sym h.1.fresh) (w t) in
      let r = h.2 [] (subst (λ es. Completes h.0.at es) (sym (append-nil (events t))) here) in
      (r.0 ∙ ends h.0.at (events t) here, r.1 ∙ ap h.0.outcome (append-nil (events t)) ∙ fresh_gives h.0 h.1 t)

-- where the meanings agree, what the place's gives of a tree is what the type's means
module _ {P V : Type 0} (m : PlaceMeaning P V) (n : Meaning V) (a : Agree (type_meaning m) n) (t : Tree)
    (o : Option m.Content) (e : o ≡ m.from_tree t) where
  pub given_reads : (v : V) → o ≡ Some (m.content v) → n.reads t v
  given_reads v h = (a.same t v).0 ((m.reads_agrees t v).1 (sym e ∙ h))

  pub none_reads : o ≡ None → (v : V) → n.reads t v → ⊥
  none_reads h v r = true≢false (ap is_some (sym ((m.reads_agrees t v).0 ((a.same t v).1 r)) ∙ sym e ∙ h))
