-- How an engine goes on in the middle of a text, with the place that it hands events to.
use Rattle.std.specs.Prelude.{◌≡◌, ℕ, Bool, List, [], ◌++◌, None, is_some}
use Rattle.miniserde_model.specs.Step.{Step}
use Rattle.miniserde_model.specs.Position.{Completes}
use Rattle.miniserde_model.specs.declared.kind.Kind.{Kind}
use Rattle.miniserde_model.specs.private.Reading.{Moment, Spells}
use Rattle.miniserde_text.specs.private.EventRuns.{Runs, TextAt, text_at, Consumes}
use Rattle.miniserde_text.specs.private.Stack.{with_opened}
use Rattle.miniserde_text.specs.private.Moments.{opened_kind, first_or_after, due_or_after}
use Rattle.miniserde_place.specs.Place.{PlaceView, AdvancesBy}

-- an engine in the middle of a text; C is the type of content
pub record EngineState (C : Type 0) : Type 0 where
  pub moment : Moment
  -- the kinds of the open containers, innermost first
  pub kinds : List Kind
  -- the rest of the text
  pub rest : List ℕ
  -- the view of the place
  pub view : PlaceView C

-- the moment of the state, with its open containers and the rest of the text
abbrev pub text_of_state : {C : Type 0} → EngineState C → TextAt
text_of_state now = text_at now.moment now.kinds now.rest

-- The engine in an open container, before a child or the closing bracket; `first` says that the opening bracket was
-- just taken. st are the kinds of the open containers, s is the rest of the text and p the view of the place.
abbrev pub state_before : {C : Type 0} → Bool → List Kind → List ℕ → PlaceView C → EngineState C
state_before first st s p = record { moment = first_or_after first; kinds = st; rest = s; view = p }

-- The engine before a value (`due`), or after one that ended. st are the kinds of the open containers, s is the rest of
-- the text and p the view of the place.
abbrev pub after_move : {C : Type 0} → Bool → List Kind → List ℕ → PlaceView C → EngineState C
after_move due st s p = record { moment = due_or_after due; kinds = st; rest = s; view = p }

-- the engine after the first event e of a value: s is the text behind the value's first token, and p the view of the
-- place
abbrev pub after_first : {C : Type 0} → Step → List ℕ → PlaceView C → EngineState C
after_first e s p = record {
  moment = first_or_after (is_some (opened_kind e));
  kinds = with_opened (opened_kind e) [];
  rest = s;
  view = p;
}

-- from the moment m on, inside the open containers st, some text spells the events es and closes
-- all containers
abbrev pub Spellable : Moment → List Step → List Kind → Type 0
Spellable m es st = (b : List ℕ) × Spells m es st b

-- The text between the two states spells some events, by which the place advances. If some text
-- spells further events from the state `to` on, then some text spells, from the state `from` on,
-- the events up to `to` and then the further ones.
pub record Moved {C : Type 0} (from to : EngineState C) : Type 0 where
  pub done : List Step
  pub passed : Consumes (text_of_state from) done (text_of_state to)
  pub advances : AdvancesBy from.view done to.view
  pub spellable : (es : List Step) → Spellable to.moment es to.kinds → Spellable from.moment (done ++ es) from.kinds

-- from the state on, the place's outcome gives nothing for any events that a prefix of the text
-- spells and that complete the place's position
abbrev pub RejectsRuns : {C : Type 0} → EngineState C → Type 0
RejectsRuns now = (es : List Step) (r : List ℕ) → Runs now.moment es now.kinds now.rest r → Completes now.view.at es
    → now.view.outcome es ≡ None
