-- Whitespace (RFC 8259, section 2).
use Rattle.std.specs.Prelude.{◌≡◌, ◌⊎◌, ℕ, List, [], ◌∷◌}
use Rattle.std.specs.List.{AllByRecursion}
use Rattle.std.proofs.Common.{inl, inr, refl, arith}

-- the byte is a space, a tab, a line feed or a carriage return
abbrev pub IsSpace : ℕ → Type 0
IsSpace c = (c ≡ 0x20) ⊎ ((c ≡ 0x09) ⊎ ((c ≡ 0x0A) ⊎ (c ≡ 0x0D)))

-- each byte of the text is whitespace; the text may be empty
abbrev pub IsWhitespace : List ℕ → Type 0
IsWhitespace b = AllByRecursion IsSpace b

-- Worked cases: a space and a line feed are whitespace; a form feed is none.
pub space_and_line_feed : IsWhitespace (0x20 ∷ 0x0A ∷ [])
space_and_line_feed = (inl refl, (inr (inr (inl refl)), tt))

-- a form feed is no space
no_form_feed : IsSpace 0x0C → ⊥
no_form_feed (inl e) = omega (arith, e)
no_form_feed (inr (inl e)) = omega (arith, e)
no_form_feed (inr (inr (inl e))) = omega (arith, e)
no_form_feed (inr (inr (inr e))) = omega (arith, e)

pub form_feed : IsWhitespace (0x0C ∷ []) → ⊥
form_feed h = no_form_feed h.0
