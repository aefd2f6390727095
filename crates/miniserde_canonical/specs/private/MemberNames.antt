-- The names of members, and their first bytes as a number, by which they are compared.
use Rattle.std.specs.Prelude.{◌≡◌, ◌<◌, ◌+◌, ◌*◌, ◌^◌, ℕ, zero, suc, List, [], ◌∷◌, string_bytes, get_or}
use Rattle.miniserde_canonical.specs.declared.member.Name.{Name}
use Rattle.miniserde_canonical.specs.declared.member.Name.TheVariants.{Input, Decoded}

-- the text of the name, borrowed from the input or decoded
abbrev pub name_of : Name → List ℕ
name_of (Input s) = s.now
name_of (Decoded s) = string_bytes s.value

-- the first n bytes of s as a number, the first byte the highest; a byte that s does not have counts as 0
abbrev pub leading_number : ℕ → List ℕ → ℕ
leading_number zero s = 0
leading_number (suc n) [] = 0
leading_number (suc n) (c ∷ s) = c * 256 ^ n + leading_number n s

-- p is the number that the first 8 bytes of s are, and each byte of s is below 256
pub record IsLeadingBytes (p : ℕ) (s : List ℕ) : Type 0 where
  pub value : p ≡ leading_number 8 s
  pub small : (i : ℕ) → get_or s i 0 < 256
