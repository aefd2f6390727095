-- The message that an error prints.
use Rattle.std.specs.Prelude.{ℕ, List, codes}
use Rattle.miniserde_model.specs.declared.error.Error.{Error}
use Rattle.miniserde_model.specs.declared.error.Error.TheVariants.{Invalid, Memory}

-- the text that the error prints
abbrev pub message : Error → List ℕ
message Invalid = codes "miniserde error"
message Memory = codes "out of memory"
