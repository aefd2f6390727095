-- The index of the first byte that is no whitespace is where the whitespace ends.
use Rattle.std.proofs.Common.{◌≡◌, ℕ, ◌+◌, ◌≤◌, Bool, true, false, not, List, length, drop, refl, arith, length-drop}
use Rattle.std.specs.List.{position_or_len}
use Rattle.std.proofs.lemmas.List.Sums.{prefix_len-le-length}
use Rattle.miniserde_model.specs.Bytes.{is_space}
use Rattle.miniserde_text.specs.private.Reading.{after_run, is_not_space}
use Rattle.miniserde_text.proofs.Lanes.{run_from}

not_not : (b : Bool) → b ≡ not (not b)
not_not true = refl
not_not false = refl

-- if j is the index of the first byte from i on that is no whitespace, the whitespace from i on ends at j
pub space_from : (s : List ℕ) (i j : ℕ) → j ≡ i + position_or_len is_not_space (drop i s) → drop j s ≡ after_run is_space (drop i s)
space_from = run_from is_not_space is_space (λ c. not_not (is_space c))

-- and j is at most the length
pub space_within : (s : List ℕ) (i j : ℕ) → i ≤ length s → j ≡ i + position_or_len is_not_space (drop i s) → j ≤ length s
space_within s i j h e = omega (arith, prefix_len-le-length (λ c. not (is_not_space c)) (drop i s), length-drop i s)
