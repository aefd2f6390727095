-- The events for Rust's `Step`, and the leaf that an event is.
use Rattle.std.specs.Prelude.{◌≡◌, ℕ, Bool, List, Option, Some, None, option_and_then, ⊤, pos, ◌≤ℤ◌}
use Rattle.miniserde_model.specs.Tree.{Tree, null, truth, nonneg, neg, num, str, list, members, Trees, Members}
use Rattle.miniserde_model.specs.Number.{IsNumber}
use Rattle.miniserde_model.specs.Step.{boolean, string, negative, nonnegative, float, seq, element, map, key, finish}
use Rattle.miniserde_model.specs.Step as model
use Rattle.miniserde_read.specs.declared.step.Step.{Step}
use Rattle.miniserde_read.specs.declared.step.Step.TheVariants as step

-- the event for a `Step` of Rust
abbrev pub event_of : Step → model.Step
event_of step.Null = model.null
event_of (step.Bool b) = boolean b
event_of (step.Str s) = string s.now
event_of (step.Negative n) = negative n
event_of (step.Nonnegative n) = nonnegative n
event_of (step.Float t) = float t.now
event_of step.Seq = seq
event_of step.Element = element
event_of step.Map = map
event_of (step.Key k) = key k.now
event_of step.Finish = finish

-- An event of a text: an integer that is written with a minus is at most 0, and the text of a `float` is a number
-- (RFC 8259, section 6) with a fraction or an exponent, or an integer below -2^63 or above 2^64-1. The bounds of the
-- other integers are those of Rust's types.
abbrev pub EventInRange : model.Step → Type 0
EventInRange (negative n) = n ≤ℤ pos 0
EventInRange (float x) = IsNumber x (num x)
EventInRange _ = ⊤

-- the event is a string
abbrev pub IsStringEvent : model.Step → Type 0
IsStringEvent (string s) = ⊤
IsStringEvent _ = ⊥

-- the leaf whose only event this is, if there is such a leaf
abbrev pub leaf_of : model.Step → Option Tree
leaf_of model.null = Some null
leaf_of (boolean b) = Some (truth b)
leaf_of (string s) = Some (str s)
leaf_of (negative n) = Some (neg n)
leaf_of (nonnegative n) = Some (nonneg n)
leaf_of (float x) = Some (num x)
leaf_of _ = None

-- what f returns for the leaf whose only event this is, if there is such a leaf
abbrev pub on_leaf : {C : Type 0} → (Tree → Option C) → model.Step → Option C
on_leaf f e = option_and_then f (leaf_of e)

-- f returns no content for any list and for any object
abbrev pub OnlyLeaves : {C : Type 0} → (Tree → Option C) → Type 0
OnlyLeaves f = ((ts : Trees) → f (list ts) ≡ None) × ((ms : Members) → f (members ms) ≡ None)

-- f returns no content for any tree but an integer
abbrev pub OnlyIntegers : {C : Type 0} → (Tree → Option C) → Type 0
OnlyIntegers f =
    (f null ≡ None) × ((b : Bool) → f (truth b) ≡ None) × ((x : List ℕ) → f (num x) ≡ None)
    × ((s : List ℕ) → f (str s) ≡ None) × OnlyLeaves f
