-- How a text goes on event by event, with the hole that the events fill.
use Rattle.std.specs.Prelude.{◌≡◌, ℕ, Bool, true, false, List, [], ◌∷◌, ◌++◌, Option, None}
use Rattle.miniserde_model.specs.Tree.{Tree}
use Rattle.miniserde_model.specs.Step.{Step}
use Rattle.miniserde_model.specs.declared.kind.Kind.{Kind}
use Rattle.miniserde_model.specs.declared.kind.Kind.TheVariants.{Seq, Map}
use Rattle.miniserde_model.specs.private.Reading.{Moment, due, first, after}
use Rattle.miniserde_text.specs.private.EventRuns.{Runs, TextAt, text_at, Consumes}
use Rattle.miniserde_text.specs.private.Moments.{first_or_after}
use Rattle.miniserde_value.specs.Hole.{Hole, outside, in_list, in_members, after_close, outcome}

-- the kinds of the open containers, innermost first
abbrev pub kinds : Hole → List Kind
kinds (outside ts) = []
kinds (in_list ts h) = Seq ∷ kinds h
kinds (in_members ms n h) = Map ∷ kinds h

-- whether the moment is `due`: a value must come next
abbrev pub is_due : Moment → Bool
is_due due = true
is_due first = false
is_due after = false

-- the hole if a container was just opened in it, and else the hole after its innermost container closes
abbrev pub closed_unless : Bool → Hole → Hole
closed_unless true h = h
closed_unless false h = after_close h

-- a reader in the middle of a text
pub record ReaderState : Type 0 where
  pub moment : Moment
  pub hole : Hole
  -- the rest of the text
  pub rest : List ℕ

-- the moment of the state, with the kinds of its open containers and the rest of the text
abbrev pub text_of_state : ReaderState → TextAt
text_of_state now = text_at now.moment (kinds now.hole) now.rest

-- The reader in an open container, before a child or the closing bracket; `opened` says that the opening bracket was
-- just taken. h is the hole and s the rest of the text.
abbrev pub state_before : Bool → Hole → List ℕ → ReaderState
state_before opened h s = record { moment = first_or_after opened; hole = h; rest = s }

-- the reader before a value, with the hole h and the rest s of the text
abbrev pub state_due : Hole → List ℕ → ReaderState
state_due h s = record { moment = due; hole = h; rest = s }

-- what the events to come make of the state's hole; with `once`, a duplicate name gives nothing
abbrev pub outcome_at : Bool → ReaderState → List Step → Option Tree
outcome_at once now es = outcome once (is_due now.moment) now.hole es

-- The events `done` lead from the state `from` to `to`: whatever events follow, `done` and these give
-- from the hole of `from` what these alone give from that of `to`. With `once`, a duplicate name gives
-- nothing.
abbrev pub HoleAdvancesBy : Bool → ReaderState → List Step → ReaderState → Type 0
HoleAdvancesBy once from done to = (es : List Step) → outcome_at once from (done ++ es) ≡ outcome_at once to es

-- The text between the states `from` and `to` spells the events `done`, and any events that a prefix
-- of the text spells until no container is open begin with them (`passed`). They lead from the one
-- state to the other, if duplicate names are allowed (`makes`), and by `once` (`repeats_none`).
pub record Builds (once : Bool) (from to : ReaderState) : Type 0 where
  pub done : List Step
  pub passed : Consumes (text_of_state from) done (text_of_state to)
  pub makes : HoleAdvancesBy false from done to
  pub repeats_none : HoleAdvancesBy once from done to

-- from the state on, no events that a prefix of the text spells give a tree; with `once`, a
-- duplicate name gives nothing
abbrev pub NeverGives : Bool → ReaderState → Type 0
NeverGives once now = (es : List Step) (r : List ℕ) → Runs now.moment es (kinds now.hole) now.rest r → outcome_at once now es ≡ None
