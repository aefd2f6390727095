-- Texts that are versions.
use Rattle.std.specs.Prelude.{ℕ, List, Option, Some, None, Result, Ok, Err}
use Rattle.semver.specs.Parse.{version_parts}

-- the text, if it was parsed
abbrev pub if_parsed : {P E : Type 0} → List ℕ → Result P E → Option (List ℕ)
if_parsed text (Ok parts) = Some text
if_parsed text (Err error) = None

-- the text, if it is a version
abbrev pub if_version : List ℕ → Option (List ℕ)
if_version text = if_parsed text (version_parts text)
