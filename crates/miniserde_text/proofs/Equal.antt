-- Equality of texts, either way round.
use Rattle.std.proofs.Common.{◌≡◌, ℕ, List, sym}
use Rattle.std.specs.Prelude.{bytes_eq}
use Rattle.std.proofs.lemmas.Bool.Decides.{same_from_decides, Decides-like}
use Rattle.std.proofs.lemmas.Slice.Eq.{bytes_eq-Decides}

-- `bytes_eq` of a and b is `bytes_eq` of b and a
pub bytes_eq-flips : (a b : List ℕ) → bytes_eq a b ≡ bytes_eq b a
bytes_eq-flips a b = same_from_decides _ _ (bytes_eq-Decides a b) (Decides-like _ (λ e. sym e) (λ e. sym e) (bytes_eq-Decides b a))
