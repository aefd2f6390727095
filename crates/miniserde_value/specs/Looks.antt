-- The size of a value, and what a drop does to a list of values.
use Rattle.std.specs.Prelude.{◌≡◌, ℕ, List, ◌∷◌}
use Rattle.miniserde_model.specs.Size.{size}
use Rattle.miniserde_value.specs.declared.json.value.Value.{Value}
use Rattle.miniserde_value.specs.Values.{content_of}

-- the size of the value: how many values it has, itself counted
abbrev pub value_size : Value → ℕ
value_size v = size (content_of v)

-- the list `old` begins with x, and `new` is `old` with v instead of x
abbrev pub ReplacesFirst : Value → Value → List Value → List Value → Type 0
ReplacesFirst v x old new = (rest : List Value) × (old ≡ x ∷ rest) × (new ≡ v ∷ rest)
