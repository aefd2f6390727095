-- If two lists of events advance a place one after the other, the appended list does, and the events of a tree
-- complete a fresh place. By induction over the first list (`next_by-append`, `completes_on`).
use Rattle.std.proofs.Common.{◌≡◌, Option, List, [], ◌∷◌, ◌++◌, refl, sym, ap, subst, ◌∙◌, append_assoc, append-nil}
use Rattle.miniserde_model.specs.Tree.{Tree}
use Rattle.miniserde_model.specs.Step.{Step, events}
use Rattle.miniserde_model.specs.Position.{Position, start, complete, next, next_by, Completes}
use Rattle.miniserde_model.proofs.Events.{events_complete}
use Rattle.miniserde_place.specs.Place.{PlaceView, AdvancesBy, IsFresh}

completes_on : (at : Position) (es rest : List Step) → Completes at (es ++ rest) → Completes (next_by at es) rest
completes_on at [] rest h = h
completes_on at (e ∷ es) rest h = completes_on (next at e) es rest h.1

next_by-append : (at : Position) (es fs : List Step) → next_by at (es ++ fs) ≡ next_by (next_by at es) fs
next_by-append at [] fs = refl
next_by-append at (e ∷ es) fs = next_by-append (next at e) es fs

-- what completes goes on where the events led
pub leads_completes : {C : Type 0} (old : PlaceView C) (es : List Step) (new : PlaceView C) → AdvancesBy old es new
    → (rest : List Step) → Completes old.at (es ++ rest) → Completes new.at rest
leads_completes old es new l rest h = subst (λ z. Completes z rest) (sym (l rest h).0) (completes_on old.at es rest h)

-- a place that advances by es and then by fs advances by es ++ fs
pub AdvancesBy-append : {C : Type 0} (old : PlaceView C) (es : List Step) (mid : PlaceView C) (fs : List Step)
    (new : PlaceView C) → AdvancesBy old es mid → AdvancesBy mid fs new → AdvancesBy old (es ++ fs) new
AdvancesBy-append old es mid fs new f g rest h =
    let i : Completes old.at (es ++ (fs ++ rest)) = subst (λ z. Completes old.at z) (append_assoc es fs rest) h in
    let j = f (fs ++ rest) i in
    let t = g rest (leads_completes old es mid f (fs ++ rest) i) in (
      t.0 ∙ ap (λ z. next_by z fs) j.0 ∙ sym (next_by-append old.at es fs),
      t.1 ∙ j.1 ∙ ap old.outcome (sym (append_assoc es fs rest)),
    )

-- a fresh place that was led by the events of a tree
pub mean_leads : {C : Type 0} (mean : List Step → Option C) (old new : PlaceView C) (t : Tree) → IsFresh mean old
    → AdvancesBy old (events t) new → (new.at ≡ complete) × (new.outcome [] ≡ mean (events t))
mean_leads mean old new t f l =
    let h : Completes old.at (events t ++ []) =
    subst (λ z. Completes z (events t ++ [])) (sym f.fresh)
    (subst (λ z. Completes start z) (sym (append-nil (events t))) (events_complete t)) in
    let r = l [] h in (
      leads_completes old (events t) new l [] h,
      r.1 ∙ ap old.outcome (append-nil (events t)) ∙ f.outcome (events t) (events_complete t),
    )
