-- The kinds of the open containers, innermost first, and the words whose bits hold them.
use Rattle.std.specs.Prelude.{◌≡◌, ◌≢◌, ℕ, zero, suc, ◌<◌, ◌/◌, ◌%◌, List, [], ◌∷◌, get_or, Option, Some, None}
use Rattle.std.specs.Int.{bit_at}
use Rattle.miniserde_model.specs.declared.kind.Kind.{Kind}
use Rattle.miniserde_model.specs.declared.kind.Kind.TheVariants.{Seq, Map}

-- the bit for a kind: 0 for an array, and 1 for an object
abbrev pub bit_of : Kind → ℕ
bit_of Seq = 0
bit_of Map = 1

-- the kind for a bit
abbrev pub kind_by : ℕ → Kind
kind_by zero = Seq
kind_by (suc b) = Map

-- the kind that the bit at index n of the words ws holds, if each word has 64 bits; a bit beyond the
-- words counts as 0
abbrev pub kind_at : List ℕ → ℕ → Kind
kind_at ws n = kind_by (bit_at (get_or ws (n / 64) 0) (n % 64))

-- the kinds that the first bits of the words ws hold, as many as the number says, with the last
-- bit's kind first
abbrev pub stack_of : List ℕ → ℕ → List Kind
stack_of ws zero = []
stack_of ws (suc n) = kind_at ws n ∷ stack_of ws n

-- the word w is the word x with its bit i set to that of the kind, and the other bits of the 64 unchanged
pub record SetsBit (x i : ℕ) (k : Kind) (w : ℕ) : Type 0 where
  pub here : bit_at w i ≡ bit_of k
  pub others : (j : ℕ) → j < 64 → j ≢ i → bit_at w j ≡ bit_at x j

-- the kinds of the open containers after a container of the kind opens inside those of kinds st; without a kind, st
abbrev pub with_opened : Option Kind → List Kind → List Kind
with_opened None st = st
with_opened (Some k) st = k ∷ st

-- the kind of the innermost open container, if one is open
abbrev pub innermost : List Kind → Option Kind
innermost [] = None
innermost (k ∷ st) = Some k

-- the kinds of the open containers without the innermost one, if one is open
abbrev pub outer : List Kind → List Kind
outer [] = []
outer (k ∷ st) = st
