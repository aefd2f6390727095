-- The laws of the keys in lower case.
use Rattle.std.proofs.Common.{◌≡◌, arith, ◌∙◌, ℕ, Bool, true, false, ◌&&◌, nat_lt, List, [], ◌∷◌, length, map, Some, refl, sym, ap, ap₂}
use Rattle.std.specs.List.{list_all}
use Rattle.std.specs.Str.{bytes_eq}
use Rattle.std.specs.Char.{is_ascii_alphabetic, to_ascii_lowercase}
use Rattle.std.proofs.lemmas.Str.Ascii.{lowercase-lowercase}
use Rattle.std.proofs.lemmas.List.{length-map}
use Rattle.std.proofs.lemmas.Bool.Decides.{nat_tests}
use Rattle.test_types.specs.Letters.{are_letters, AreLower, read_letters}

-- equal in lower case is equal, of letters in lower case
pub lower-alike : (a b : List ℕ) → AreLower a → AreLower b → bytes_eq a b ≡ bytes_eq (map to_ascii_lowercase a) (map to_ascii_lowercase b)
lower-alike a b la lb = ap₂ bytes_eq (sym la.1) (sym lb.1)

-- such letters are read as themselves
pub own-back : (s : List ℕ) → AreLower s → read_letters s ≡ Some s
own-back s l = rw (l.0, l.1) refl

-- a name of lower-case letters, mapped to lower case, is read as itself
pub lower-back : (s : List ℕ) → AreLower s → read_letters (map to_ascii_lowercase s) ≡ Some s
lower-back s l = ap read_letters l.1 ∙ own-back s l

letter : (c : ℕ) → is_ascii_alphabetic c ≡ true → is_ascii_alphabetic (to_ascii_lowercase c) ≡ true
letter c h = grind (arith, nat_tests)

letters : (s : List ℕ) → list_all is_ascii_alphabetic s ≡ true → list_all is_ascii_alphabetic (map to_ascii_lowercase s) ≡ true
letters [] h = refl
letters (c ∷ cs) h = grind (arith, letter c, letters cs)

twice : (s : List ℕ) → map to_ascii_lowercase (map to_ascii_lowercase s) ≡ map to_ascii_lowercase s
twice [] = refl
twice (c ∷ cs) = ap₂ (λ x xs. x ∷ xs) (lowercase-lowercase c) (twice cs)

-- letters in lower case
pub lowered : (s : List ℕ) → are_letters s ≡ true → AreLower (map to_ascii_lowercase s)
lowered s h = (grind (arith, letters s, length-map s to_ascii_lowercase), twice s)
