-- Two lists of entries that have at each code the same text and tree.
use Rattle.std.proofs.Common.{◌≡◌, ℕ, List, Option}
use Rattle.std.specs.Prelude.{option_map}
use Rattle.miniserde_model.specs.Tree.{Tree}
use Rattle.miniserde_keys.specs.Keys.{Key}
use Rattle.miniserde_read.specs.types.Maps.{entry_at}

module _ {K V : Type 0} (code : K → Key) (text : K → List ℕ) (f : V → Tree) where
  -- what is written of an entry
  abbrev pub written : Option (K × V) → Option (List ℕ × Tree)
  written o = option_map (λ e. (text e.0, f e.1)) o

  -- at each code
  abbrev pub Agree : List (K × V) → List (K × V) → Type 0
  Agree es fs = (q : Key) → written (entry_at code q es) ≡ written (entry_at code q fs)
