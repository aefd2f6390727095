-- The positions among the events of one value, and the lists of events that complete a position.
use Rattle.std.specs.Prelude.{◌≡◌, ℕ, ◌+◌, ◌-◌, ◌<◌, Bool, true, false, List, [], ◌∷◌, refl}
use Rattle.std.proofs.Common.{arith, ap}
use Rattle.miniserde_model.specs.Step.{Step, boolean, string, negative, nonnegative, float, seq, element, map, key, finish}
use Rattle.miniserde_model.specs.Step as step

-- how many containers are open, and whether a value is due
abbrev pub Position : Type 0
Position = ℕ × Bool

-- the position before the events of one value
abbrev pub start : Position
start = (0, true)

-- the position after the events of one value
abbrev pub complete : Position
complete = (0, false)

-- at the position p the event may come: the first event of a value if a value is due, and `element`, a name or
-- `finish` if none is due and a container is open
abbrev pub Allowed : Position → Step → Type 0
Allowed p step.null = p.1 ≡ true
Allowed p (boolean _) = p.1 ≡ true
Allowed p (string _) = p.1 ≡ true
Allowed p (negative _) = p.1 ≡ true
Allowed p (nonnegative _) = p.1 ≡ true
Allowed p (float _) = p.1 ≡ true
Allowed p seq = p.1 ≡ true
Allowed p map = p.1 ≡ true
Allowed p element = (p.1 ≡ false) × (0 < p.0)
Allowed p (key _) = (p.1 ≡ false) × (0 < p.0)
Allowed p finish = (p.1 ≡ false) × (0 < p.0)

-- the position after one event at the position p, whether the event may come there or not
abbrev pub next : Position → Step → Position
next p step.null = (p.0, false)
next p (boolean _) = (p.0, false)
next p (string _) = (p.0, false)
next p (negative _) = (p.0, false)
next p (nonnegative _) = (p.0, false)
next p (float _) = (p.0, false)
next p seq = (p.0 + 1, false)
next p map = (p.0 + 1, false)
next p element = (p.0, true)
next p (key _) = (p.0, true)
next p finish = (p.0 - 1, false)

-- the position after a list of events, from the position p on
abbrev pub next_by : Position → List Step → Position
next_by p [] = p
next_by p (e ∷ es) = next_by (next p e) es

-- each of the events may come at its position, from p on, and the position after them is `complete`
abbrev pub Completes : Position → List Step → Type 0
Completes p [] = p ≡ complete
Completes p (e ∷ es) = Allowed p e × Completes (next p e) es

-- Worked cases: the events of `[null]` complete a value, and those of `[null` do not.
pub list_completes : Completes start (seq ∷ element ∷ step.null ∷ finish ∷ [])
list_completes = (refl, ((refl, omega arith), (refl, ((refl, omega arith), refl))))

pub open_list : Completes start (seq ∷ element ∷ step.null ∷ []) → ⊥
open_list h = let e : (1, false) ≡ (0, false) = h.1.1.1 in omega (arith, ap (λ p. p.0) e)
