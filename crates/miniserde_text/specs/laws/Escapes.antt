-- The escapes of two texts, one behind the other.
use Rattle.std.proofs.Common.{◌≡◌, ℕ, List, ◌++◌}
use Rattle.std.proofs.lemmas.Grind.{flat_map-append}
use Rattle.miniserde_text.specs.private.Escape.{escape, escapes}

pub escapes-append : (xs ys : List ℕ) → escapes (xs ++ ys) ≡ escapes xs ++ escapes ys
unfolding escapes
escapes-append xs ys = flat_map-append escape xs ys
