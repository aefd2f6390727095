-- The rest of a text inside open containers, and the events that it spells.
use Rattle.std.specs.Prelude.{◌≡◌, ℕ, List, [], ◌∷◌, ◌++◌}
use Rattle.miniserde_model.specs.Ascii.{begin_array, end_array, begin_object, end_object, value_separator}
use Rattle.miniserde_model.specs.Tree.{null, truth, nonneg, neg, num, str}
use Rattle.miniserde_model.specs.Whitespace.{IsWhitespace}
use Rattle.miniserde_model.specs.Value.{IsValue}
use Rattle.miniserde_model.specs.Step.{Step, boolean, string, negative, nonnegative, float, seq, element, map, key, finish}
use Rattle.miniserde_model.specs.Step as step
use Rattle.miniserde_model.specs.Lexing.{IsByte, IsName}
use Rattle.miniserde_model.specs.declared.kind.Kind.{Kind}
use Rattle.miniserde_model.specs.declared.kind.Kind.TheVariants.{Seq, Map}

-- where a reader stands: a value is due, a container was just opened, or a value just ended
pub data Moment : Type 0 where
  due : Moment
  first : Moment
  after : Moment

-- the bytes b are whitespace, then `part`, of which P holds, then `rest`, of which K holds
pub record StandsThen (P K : List ℕ → Type 0) (b : List ℕ) : Type 0 where
  pub space : List ℕ
  pub part : List ℕ
  pub rest : List ℕ
  pub text : b ≡ space ++ (part ++ rest)
  pub white : IsWhitespace space
  pub is_part : P part
  pub is_rest : K rest

-- from the moment on, inside the open containers st (innermost first), the text b spells the events
-- up to its end, where no container is open any more
abbrev pub Spells : Moment → List Step → List Kind → List ℕ → Type 0
Spells due (step.null ∷ es) st b = StandsThen (IsValue null) (Spells after es st) b
Spells due (boolean x ∷ es) st b = StandsThen (IsValue (truth x)) (Spells after es st) b
Spells due (string s ∷ es) st b = StandsThen (IsValue (str s)) (Spells after es st) b
Spells due (negative n ∷ es) st b = StandsThen (IsValue (neg n)) (Spells after es st) b
Spells due (nonnegative n ∷ es) st b = StandsThen (IsValue (nonneg n)) (Spells after es st) b
Spells due (float x ∷ es) st b = StandsThen (IsValue (num x)) (Spells after es st) b
Spells due (seq ∷ es) st b = StandsThen (IsByte begin_array) (Spells first es (Seq ∷ st)) b
Spells due (map ∷ es) st b = StandsThen (IsByte begin_object) (Spells first es (Map ∷ st)) b
Spells first (element ∷ es) (Seq ∷ st) b = Spells due es (Seq ∷ st) b
Spells first (finish ∷ es) (Seq ∷ st) b = StandsThen (IsByte end_array) (Spells after es st) b
Spells first (key s ∷ es) (Map ∷ st) b = StandsThen (IsName s) (Spells due es (Map ∷ st)) b
Spells first (finish ∷ es) (Map ∷ st) b = StandsThen (IsByte end_object) (Spells after es st) b
Spells after [] [] b = IsWhitespace b
Spells after (element ∷ es) (Seq ∷ st) b = StandsThen (IsByte value_separator) (Spells due es (Seq ∷ st)) b
Spells after (finish ∷ es) (Seq ∷ st) b = StandsThen (IsByte end_array) (Spells after es st) b
Spells after (key s ∷ es) (Map ∷ st) b = StandsThen (IsByte value_separator) (StandsThen (IsName s) (Spells due es (Map ∷ st))) b
Spells after (finish ∷ es) (Map ∷ st) b = StandsThen (IsByte end_object) (Spells after es st) b
Spells _ _ _ _ = ⊥
