-- Texts that begin with a string that contains a backslash (RFC 8259, section 7).
use Rattle.std.specs.Prelude.{◌≡◌, ◌≢◌, ℕ, List, ◌∷◌, ◌++◌}
use Rattle.std.specs.List.{AllByRecursion}
use Rattle.miniserde_model.specs.Whitespace.{IsWhitespace}

-- the text j is whitespace, a quote, bytes without a quote, a backslash, and any rest
abbrev pub BeginsWithEscapedString : List ℕ → Type 0
BeginsWithEscapedString j = (space inside rest : List ℕ) × IsWhitespace space × AllByRecursion (λ c. c ≢ 34) inside
    × (j ≡ space ++ 34 ∷ (inside ++ 92 ∷ rest))
