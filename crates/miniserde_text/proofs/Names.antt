-- A name is a string, whitespace and a colon: put together from what was read, and taken apart to show that none
-- stands there. A string ends at one place, so the colon can stand at no other.
use Rattle.std.proofs.Common.{◌≡◌, ℕ, List, [], ◌∷◌, ◌++◌, drop, refl, ap, sym, ◌∙◌, append_assoc}
use Rattle.std.specs.Prelude.{slice_index}
use Rattle.miniserde_model.specs.Bytes.{is_space}
use Rattle.miniserde_model.specs.String.{IsString}
use Rattle.miniserde_model.specs.Lexing.{IsByte, BeforeColon, IsName, Stands, Names}
use Rattle.miniserde_model.proofs.Strings.{same_string}
use Rattle.miniserde_text.specs.private.Reading.{after_run}
use Rattle.miniserde_text.specs.private.LexerParts.{SpellsUpToQuote, BeginsWith, TakesName}
use Rattle.miniserde_text.proofs.ByteRuns.{stands_of, stands_only}
use Rattle.miniserde_text.proofs.FirstEvents.{name_no_space}
use Rattle.miniserde_text.proofs.Options.{first_byte}
use Rattle.miniserde_text.proofs.Strings.{string_chars}

-- if s begins with bytes of which P holds, and a colon follows them after whitespace, s begins with a `BeforeColon P`
pub colon_leads : (P : List ℕ → Type 0) (s rest r : List ℕ) → BeginsWith P s rest → Stands (IsByte 58) rest r
    → BeginsWith (BeforeColon P) s r
colon_leads P s rest r (b, h, j) c = (
  b ++ (c.space ++ 58 ∷ []),
  record { spelled = b; space = c.space; text = refl; is_spelled = h; white = c.white },
  j ∙ ap (λ x. b ++ x) (c.text ∙ ap (λ x. c.space ++ (x ++ r)) c.is_part ∙ sym (append_assoc c.space (58 ∷ []) r))
      ∙ sym (append_assoc b (c.space ++ 58 ∷ []) r),
)

-- if t is s after its whitespace, and t is a colon and then r, that colon stands in s after whitespace
pub colon_of : (s t r : List ℕ) → t ≡ after_run is_space s → slice_index t 0 ≡ 58 → r ≡ drop 1 t → Stands (IsByte 58) s r
colon_of s t r e at d = stands_of (IsByte 58) s t r e (58 ∷ [], refl, first_byte t 57 at ∙ ap (λ x. 58 ∷ x) (sym d))

-- if t is s after its whitespace, and s has a colon after whitespace, t begins with it
pub colon_only : (s t r : List ℕ) → t ≡ after_run is_space s → Stands (IsByte 58) s r → slice_index t 0 ≡ 58
colon_only s t r e h =
    let b = stands_only (IsByte 58) s t r (λ b i. rw i refl) e h in
    ap (λ x. slice_index x 0) (b.2 ∙ ap (λ x. x ++ r) b.1)

name_split : (s r b : List ℕ) (P : List ℕ → Type 0) (h : BeforeColon P b) → s ≡ b ++ r → s ≡ h.spelled ++ (h.space ++ 58 ∷ r)
name_split s r b P h j =
    j ∙ ap (λ x. x ++ r) h.text ∙ append_assoc h.spelled (h.space ++ 58 ∷ []) r ∙ ap (λ x. h.spelled ++ x)
    (append_assoc h.space (58 ∷ []) r)

-- a text that begins with a name begins with a quote
pub name_quote : (s n r : List ℕ) → TakesName s n r → slice_index s 0 ≡ 34
name_quote s n r (b, h, j) =
    ap (λ x. slice_index x 0) (name_split s r b _ h j) ∙ ap (λ x. slice_index (x ++ (h.space ++ 58 ∷ r)) 0) h.is_spelled.text

-- if no string goes on after the first byte of s, s does not begin with a name
pub no_string-no_name : (s n r : List ℕ) → TakesName s n r → ((cs u : List ℕ) → SpellsUpToQuote cs (drop 1 s) u → ⊥) → ⊥
no_string-no_name s n r (b, h, j) never =
    never h.is_spelled.characters (h.space ++ 58 ∷ r) (string_chars h.spelled n s (h.space ++ 58 ∷ r) h.is_spelled (name_split s r b _ h j))

-- if s begins with a name, and with a string, the colon of the name stands after that string
pub colon_behind : (s n r m rest : List ℕ) → TakesName s n r → BeginsWith (λ b. IsString b m) s rest → Stands (IsByte 58) rest r
colon_behind s n r m rest (b, h, j) (c, k, l) =
    let same = same_string m n c h.spelled rest (h.space ++ 58 ∷ r) k h.is_spelled (sym l ∙ name_split s r b _ h j) in
    record { space = h.space; part = 58 ∷ []; text = same.1; white = h.white; is_part = refl }

-- if t is s after its whitespace, and t begins with a name, s has that name after whitespace
pub names_of : (s t n r : List ℕ) → t ≡ after_run is_space s → TakesName t n r → Names s n r
names_of s t n r e h = stands_of (IsName n) s t r e h

-- if t is s after its whitespace, and s has a name after whitespace, t begins with that name
pub names_only : (s t n r : List ℕ) → t ≡ after_run is_space s → Names s n r → TakesName t n r
names_only s t n r e h = stands_only (IsName n) s t r (λ b. name_no_space n b r) e h
