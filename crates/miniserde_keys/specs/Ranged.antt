-- Valid optional values.
use Rattle.std.specs.Prelude.{Option, Some, None, ⊤}

-- the option is valid: it is `None`, or P holds of the value in it
abbrev pub OptionValid : {T : Type 0} → (T → Type 0) → Option T → Type 0
OptionValid P None = ⊤
OptionValid P (Some x) = P x
