-- How a text goes on event by event, for an engine that reads a value from the middle of a text on. A whole text is a
-- run whose rest is whitespace (`proofs/Wholes.antt`).
use Rattle.std.specs.Prelude.{◌≡◌, ℕ, true, false, is_some, List, [], ◌∷◌, ◌++◌}
use Rattle.miniserde_model.specs.Step.{Step, element, key, finish}
use Rattle.miniserde_model.specs.Lexing.{Starts, Names, Follows}
use Rattle.miniserde_model.specs.declared.kind.Kind.{Kind}
use Rattle.miniserde_model.specs.declared.kind.Kind.TheVariants.{Seq, Map}
use Rattle.miniserde_model.specs.private.Reading.{Moment, due, first, after}
use Rattle.miniserde_text.specs.private.Stack.{with_opened}
use Rattle.miniserde_text.specs.private.Moments.{opened_kind, first_or_after, MomentFits}

-- From the moment on, inside the open containers st (innermost first), the text from s to r spells the events, after
-- which no container is open. s is the text that is left now, and r what is left of it at the end. In
-- `Follows k f c s b` f says that the opening bracket was just taken, and c that the closing one is taken.
abbrev pub Runs : Moment → List Step → List Kind → List ℕ → List ℕ → Type 0
Runs due (e ∷ es) st s r = (b : List ℕ) × Starts s e b × Runs (first_or_after (is_some (opened_kind e))) es
    (with_opened (opened_kind e) st) b r
Runs first (element ∷ es) (Seq ∷ st) s r = (b : List ℕ) × Follows Seq true false s b × Runs due es (Seq ∷ st) b r
Runs first (key n ∷ es) (Map ∷ st) s r = (b c : List ℕ) × Follows Map true false s b × Names b n c × Runs due es (Map ∷ st) c r
Runs first (finish ∷ es) (k ∷ st) s r = (b : List ℕ) × Follows k true true s b × Runs after es st b r
Runs after [] [] s r = r ≡ s
Runs after (element ∷ es) (Seq ∷ st) s r = (b : List ℕ) × Follows Seq false false s b × Runs due es (Seq ∷ st) b r
Runs after (key n ∷ es) (Map ∷ st) s r = (b c : List ℕ) × Follows Map false false s b × Names b n c × Runs due es (Map ∷ st) c r
Runs after (finish ∷ es) (k ∷ st) s r = (b : List ℕ) × Follows k false true s b × Runs after es st b r
Runs _ _ _ _ _ = ⊥

-- a moment in a text: `stack` has the kinds of the open containers, innermost first, and `rest` is the text that is left
pub record TextAt : Type 0 where
  pub moment : Moment
  pub stack : List Kind
  pub rest : List ℕ

-- the moment m inside the open containers st, with the text s left
abbrev pub text_at : Moment → List Kind → List ℕ → TextAt
text_at m st s = record { moment = m; stack = st; rest = s }

-- the moment behind e, the first event of a value that stands in no container, with the text s left
abbrev pub behind_first : Step → List ℕ → TextAt
behind_first e s = text_at (first_or_after (is_some (opened_kind e))) (with_opened (opened_kind e) []) s

-- The text between `old` and `new` spells the events `done`, and leads from the one to the other. Any events that the
-- text at `old` spells until no container is open begin with `done`. If no container is open at `new`, its moment is not
-- the one after an opening bracket.
pub record Consumes (old : TextAt) (done : List Step) (new : TextAt) : Type 0 where
  pub on : (es : List Step) (r : List ℕ) → Runs new.moment es new.stack new.rest r
      → Runs old.moment (done ++ es) old.stack old.rest r
  pub back : (es : List Step) (r : List ℕ) → Runs old.moment es old.stack old.rest r
      → (rest : List Step) × (es ≡ done ++ rest) × Runs new.moment rest new.stack new.rest r
  pub live : MomentFits new.moment new.stack

-- the text between `old` and `new` spells some events, and leads from the one to the other (`Consumes`)
pub record Reaches (old new : TextAt) : Type 0 where
  pub done : List Step
  pub passed : Consumes old done new

-- from `old` on, no prefix of the text that is left spells events after which no container is open
abbrev pub NeverRuns : TextAt → Type 0
NeverRuns old = (es : List Step) (r : List ℕ) → Runs old.moment es old.stack old.rest r → ⊥
