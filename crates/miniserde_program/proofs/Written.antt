-- What a loop over `write` has appended.
use Rattle.std.proofs.Common.{◌≡◌, ℕ, ◌+◌, ◌-◌, ◌≤◌, length, List, take, drop, Option, arith, take-add, length-drop}
use Rattle.std.proofs.lemmas.List.{take_all}
use Rattle.std.proofs.KnownBytes.{Appends-trans}
use Rattle.std.specs.Io.KnownBytes.{Appends}

-- the bytes from a place on, as a slice
rest_of : (xs : List ℕ) (i : ℕ) → take (length xs - i) (drop i xs) ≡ drop i xs
rest_of xs i = take_all (length xs - i) (drop i xs) (omega (arith, length-drop i xs))

-- if there are at least n bytes from the index i on, `i + n` is at most the length of the text
pub fits_on : (xs : List ℕ) (i n : ℕ) → i ≤ length xs → n ≤ length (take (length xs - i) (drop i xs)) → i + n ≤ length xs
fits_on xs i n h m = let q = rw rest_of at m in omega (arith, length-drop i xs, q)

-- if the bytes up to the index i are appended, and then the next n, the bytes up to `i + n` are
pub Appends_on : (a b c : Option (List ℕ)) (xs : List ℕ) (i n : ℕ) → Appends a b (take i xs)
    → Appends b c (take n (take (length xs - i) (drop i xs))) → Appends a c (take (i + n) xs)
Appends_on a b c xs i n p q = rw take-add (Appends-trans a b c (take i xs) (take n (drop i xs)) p (rw rest_of at q))
