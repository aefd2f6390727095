-- What somebody does.
use Rattle.std.specs.Prelude.{ℕ, List, Option, Some, None, string_bytes}
use Rattle.examples.specs.declared.action.Action.{Action}
use Rattle.examples.specs.declared.action.Action.TheVariants.{Say}

-- the text that is said
abbrev pub said_in : Action → Option (List ℕ)
said_in (Say x) = Some (string_bytes x.text)
said_in a = None
