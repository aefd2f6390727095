-- What the errors of calls on rows are, and what they print.
use Rattle.std.specs.Prelude.{ℕ, List, Option, Some, None, ⊤}
use Rattle.miniserde.specs.Error.{message}
use Rattle.miniserde.specs.declared.Error as json
use Rattle.miniserde.specs.declared.Error.TheVariants as json_variants
use Rattle.sqlite.specs.declared.error.Error.TheVariants.{SqliteFailure}
use Rattle.sqlite.specs.declared.error.ErrorCode.TheVariants.{OutOfMemory}
use Rattle.rows.specs.declared.error.Error.{Error}
use Rattle.rows.specs.declared.error.Error.TheVariants.{Database, Invalid, Memory}

-- the error for an error of the JSON
abbrev pub of_json : json.Error → Error
of_json json_variants.Invalid = Invalid
of_json json_variants.Memory = Memory

-- an allocation failed, in the database or outside of it
abbrev pub IsMemory : Error → Type 0
IsMemory (Database (SqliteFailure OutOfMemory)) = ⊤
IsMemory Memory = ⊤
IsMemory _ = ⊥

-- the text of an error, if a clause says it: `sqlite` states no text of its errors
abbrev pub error_text : Error → Option (List ℕ)
error_text (Database e) = None
error_text Invalid = Some (message json_variants.Invalid)
error_text Memory = Some (message json_variants.Memory)
