-- Each exit of `feed_from` fulfils its contract: success, `Invalid`, and the state of the place after an error. The
-- moves so far (`Moved`) follow the first event (`Fed`), and together they are all events of a tree, or the first of
-- them.
use Rattle.std.proofs.Common.{◌≡◌, ℕ, Bool, true, false, Some, None, is_some, Result, Ok, Err, IfErr, inl}
use Rattle.std.proofs.Common.{inr, ◌⊎◌, List, [], ◌∷◌, ◌++◌, append-nil, refl, sym, ap, subst, ◌∙◌, true≢false}
use Rattle.miniserde_model.proofs.Events.{events_complete}
use Rattle.miniserde_model.specs.Tree.{Tree, null}
use Rattle.miniserde_model.specs.InRange.{InRange}
use Rattle.miniserde_model.specs.Step.{Step, events}
use Rattle.miniserde_model.specs.Position.{Position, start, Completes}
use Rattle.miniserde_model.specs.declared.kind.Kind.{Kind}
use Rattle.miniserde_place.specs.Place.{PlaceView, Advances, Rejects, AdvancesBy, BeginsTree}
use Rattle.miniserde_text.specs.private.Stack.{with_opened, innermost}
use Rattle.miniserde_text.specs.private.Moments.{opened_kind, first_or_after}
use Rattle.miniserde_place.proofs.PositionAdvances.{AdvancesBy-append}
use Rattle.miniserde_text.specs.Lexer.{event_of_token}
use Rattle.miniserde_model.specs.declared.error.Error.{Error}
use Rattle.miniserde_text.specs.declared.json.lex.Event as lexed
use Rattle.miniserde_read.specs.Rest.{ValueAt}
use Rattle.miniserde_text.specs.private.EventRuns.{Runs}
use Rattle.miniserde_place.specs.private.EngineRuns.{EngineState, state_before, after_first, Moved, RejectsRuns}
use Rattle.miniserde_text.proofs.Consumes.{live_opened}
use Rattle.miniserde_read.proofs.Values.{value_later, whole_at}
use Rattle.miniserde_place.proofs.Moved.{Moved-none, rejects_more}
use Rattle.miniserde_place.proofs.Spelled.{Unfinished, more_to_come, more_behind, tree_spelled}

complete_from : (t : Tree) (at : Position) → at ≡ start → Completes at (events t)
complete_from t at f = subst (λ z. Completes z (events t)) (sym f) (events_complete t)

-- The engine handed a place, whose view was `old`, the first event e of a value, and the events of a move from there to
-- the state `now`. s is the text behind the value's first token.
pub record Fed {C : Type 0} (old : PlaceView C) (e : Step) (s : List ℕ) (now : EngineState C) : Type 0 where
  -- the view after e
  pub view : PlaceView C
  pub starts : Advances old e view
  pub moved : Moved (after_first e s view) now

-- if the place, at the start, rejects e, its outcome gives nothing for a value that begins with e
pub first_rejects : {C : Type 0} (old : PlaceView C) (e : Step) (s : List ℕ) → old.at ≡ start → Rejects old e
    → (t : Tree) (r : List ℕ) → ValueAt t e s r → old.outcome (events t) ≡ None
first_rejects old e s f b t r v =
    let l = value_later t e s r v in
    ap old.outcome l.is ∙ b l.later (subst (λ z. Completes old.at z) l.is (complete_from t old.at f))

-- if the place, at the start, was handed events and rejects all that runs behind them, its outcome gives nothing for a
-- value that begins with the first of them
pub later_rejects : {C : Type 0} {old : PlaceView C} {e : Step} {s : List ℕ} {now : EngineState C} → old.at ≡ start
    → Fed old e s now → RejectsRuns now → (t : Tree) (r : List ℕ) → ValueAt t e s r → old.outcome (events t) ≡ None
later_rejects {old = old} {e = e} {s = s} f p b t r v =
    let l = value_later t e s r v in
    let c : Completes old.at (e ∷ l.later) = subst (λ z. Completes old.at z) l.is (complete_from t old.at f) in
    let h = p.starts l.later c in
    ap old.outcome l.is ∙ sym h.1
    ∙ rejects_more p.moved b l.later r l.runs (subst (λ z. Completes z l.later) (sym h.0) c.1)

-- behind the first event e of a value, passing no further event is a move from that state to itself
pub moved_init : {C : Type 0} (e : Step) (f : Bool) (st : List Kind) (s : List ℕ) (p : PlaceView C)
    → f ≡ is_some (opened_kind e) → st ≡ with_opened (opened_kind e) []
    → Moved (after_first e s p) (state_before f st s p)
moved_init e f st s p h q =
    subst (λ z. Moved (after_first e s p) (state_before z st s p)) (sym h)
    (subst (λ z. Moved (after_first e s p)
    (state_before (is_some (opened_kind e)) z s p)) (sym q)
    (Moved-none (after_first e s p) (live_opened e)))

-- if the moves behind the first token leave no container open, they end a tree, by whose events the place advances
pub feed_ok : {C : Type 0} (x : lexed.Event) (scratch : List ℕ) {s s' : List ℕ} {old new : PlaceView C} (f : Bool)
    (st : List Kind) → innermost st ≡ None
    → Fed old (event_of_token x scratch) s (state_before f st s' new)
    → (t : Tree) × ValueAt t (event_of_token x scratch) s s' × AdvancesBy old (events t) new
feed_ok x scratch true [] h p = absurd p.moved.passed.live
feed_ok x scratch {s = s} {s' = s'} {old = old} {new = new} false [] h p =
    let e = event_of_token x scratch in
    let done = p.moved.done in
    let runs : Runs (first_or_after (is_some (opened_kind e))) done (with_opened (opened_kind e) []) s s' =
    subst (λ z. Runs (first_or_after (is_some (opened_kind e))) z (with_opened (opened_kind e) []) s s')
    (append-nil done) (p.moved.passed.on [] s' refl) in
    let w = whole_at x scratch done s s' runs in (
      w.tree,
      w.is_value,
      subst (λ z. AdvancesBy old z new) w.is
          (AdvancesBy-append old (e ∷ []) p.view done new p.starts p.moved.advances),
    )
feed_ok x scratch f (c ∷ st) h p = absurd (true≢false (ap is_some h))

-- ---- where the engine stops early

-- the empty prefix of the events of a tree leaves the place where it is
pub begun_none : {C : Type 0} (p : PlaceView C) → BeginsTree p p
begun_none p = record { done = []; rest = events null; tree = null; in_range = tt; begins = refl; advances = λ rest h. (refl, refl) }

-- if a place advances by all events of a tree in range, it advances by a prefix of them
pub begun_whole : {C : Type 0} (old : PlaceView C) (t : Tree) (new : PlaceView C) → InRange t → AdvancesBy old (events t) new
    → BeginsTree old new
begun_whole old t new i l = record { done = events t; rest = []; tree = t; in_range = i; begins = append-nil (events t); advances = l }

-- what a first token and the moves behind it lead to
pub begun : {C : Type 0} (x : lexed.Event) (scratch : List ℕ) {s : List ℕ} {old : PlaceView C} {now : EngineState C}
    → Fed old (event_of_token x scratch) s now → Unfinished now.moment now.kinds → BeginsTree old now.view
begun x scratch {old = old} {now = now} p u =
    let e = event_of_token x scratch in
    let done = p.moved.done in
    let c = more_to_come now.moment now.kinds p.moved.passed.live u in
    let rest = c.0 ∷ c.1 in
    let t = tree_spelled x scratch (done ++ rest) (more_behind done c.0 c.1) (p.moved.spellable rest c.2) in
    record {
      done = e ∷ done;
      rest = rest;
      tree = t.0;
      in_range = t.2;
      begins = t.1;
      advances = AdvancesBy-append old (e ∷ []) p.view done now.view p.starts p.moved.advances;
    }

-- if P holds of each error, it holds of the error of r, if r is one
pub if_err : {T E : Type 0} (r : Result T E) (P : E → Type 0) → ((e : E) → P e) → IfErr r P
if_err (Ok x) P h = tt
if_err (Err e) P h = h e

-- a call that refused left the place with that refusal, or as it was
module _ {C P : Type 0} (view : P → PlaceView C) (first : PlaceView C) where
  -- a refusal that the place keeps, or a place that has taken some events
  abbrev Left : P → Error → Type 0
  Left p e = ((view p).refused ≡ Some e) ⊎ (((view p).refused ≡ None) × BeginsTree first (view p))

  pub exit_sticky : {T : Type 0} (old new : P) (r : Result T Error) (e : Error) → r ≡ Err e
      → (view old).refused ≡ None → BeginsTree first (view old)
      → (((view new).refused ≡ Some e) ⊎ (new ≡ old)) → IfErr r (Left new)
  exit_sticky old new r e h f b (inl q) = subst (λ z. IfErr z (Left new)) (sym h) (inl q)
  exit_sticky old new r e h f b (inr q) =
      subst (λ z. IfErr z (Left new)) (sym h)
      (inr (
        ap (λ p. (view p).refused) q ∙ f,
        subst (λ z. BeginsTree first (view z)) (sym q) b,
      ))
