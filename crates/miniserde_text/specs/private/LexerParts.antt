-- What the parts of a lexer take from a text, for private clauses alone (RFC 8259, sections 6 and 7).
use Rattle.std.specs.Prelude.{◌≡◌, ℕ, false, List, [], ◌∷◌, ◌++◌, ⊤}
use Rattle.std.specs.List.{AllByRecursion}
use Rattle.std.specs.Str.{encode_utf8_all}
use Rattle.miniserde_model.specs.Bytes.{is_special}
use Rattle.miniserde_model.specs.String.{IsPiece}
use Rattle.miniserde_model.specs.Value.{Between}
use Rattle.miniserde_model.specs.Step as tree
use Rattle.miniserde_model.specs.Lexing.{Piece, Ends, IsName, BeforeColon}
use Rattle.miniserde_text.specs.declared.json.lex.Text.{Text}
use Rattle.miniserde_text.specs.declared.json.lex.Event.{Event}
use Rattle.miniserde_text.specs.declared.json.lex.Event.TheVariants as event
use Rattle.miniserde_text.specs.Lexer.{BorrowedIfPlain}

-- the text t is a piece (`IsPiece`) for each of the characters, in order, then a quote, then r
abbrev pub SpellsUpToQuote : List ℕ → List ℕ → List ℕ → Type 0
SpellsUpToQuote [] t r = t ≡ 34 ∷ r
SpellsUpToQuote (c ∷ cs) t r = (p : List ℕ) × (t' : List ℕ) × IsPiece p c × (t ≡ p ++ t') × SpellsUpToQuote cs t' r

-- The text t spells the characters ds before t'. `on`: if t' spells some characters up to a quote, t
-- spells ds and then those, up to the same quote. `back`: if t spells some characters up to a quote,
-- they begin with ds, and t' spells the rest of them, up to the same quote.
pub record PassesCharacters (ds t t' : List ℕ) : Type 0 where
  pub on : (cs r : List ℕ) → SpellsUpToQuote cs t' r → SpellsUpToQuote (ds ++ cs) t r
  pub back : (cs r : List ℕ) → SpellsUpToQuote cs t r → (es : List ℕ) × (cs ≡ ds ++ es) × SpellsUpToQuote es t' r

-- `new` is `old` with `spelled` of a text appended, whose characters t spells before t' (`PassesCharacters`)
abbrev pub Adds : (List ℕ → List ℕ) → List ℕ → List ℕ → List ℕ → List ℕ → Type 0
Adds spelled old new t t' = (ds : List ℕ) × PassesCharacters ds t t' × (new ≡ old ++ spelled (encode_utf8_all ds))

-- the text t is some bytes, of which P holds, and then r
abbrev pub BeginsWith : (List ℕ → Type 0) → List ℕ → List ℕ → Type 0
BeginsWith P t r = (b : List ℕ) × P b × (t ≡ b ++ r)

-- ---- after whitespace

-- the text t begins with the token of the event e, and r is the text after it; if e is a number, r
-- does not begin with a byte that a number can have (`Ends`)
abbrev pub TakesToken : List ℕ → tree.Step → List ℕ → Type 0
TakesToken t e r = BeginsWith (Piece e) t r × Ends e r

-- the text t begins with the name n and its colon, and r is the text after them
abbrev pub TakesName : List ℕ → List ℕ → List ℕ → Type 0
TakesName t n r = BeginsWith (IsName n) t r

-- if the token is a string, t begins with it, r is the text after it, and the token's text is
-- decoded if the string has a backslash, and else borrowed
abbrev pub TokenTakesText : Event → List ℕ → List ℕ → Type 0
TokenTakesText (event.Str x) t r = BeginsWith (Between 34 (BorrowedIfPlain x) 34) t r
TokenTakesText _ t r = ⊤

-- t begins with a name and its colon, r is the text after them, and the name's text x is decoded if
-- the name has a backslash, and else borrowed
abbrev pub NameTakesText : Text → List ℕ → List ℕ → Type 0
NameTakesText x t r = BeginsWith (BeforeColon (Between 34 (BorrowedIfPlain x) 34)) t r

-- ---- after a quote

-- s is some bytes `inside`, a quote and r, and the text x of a string is decoded if `inside` has a
-- backslash, and else borrowed and equal to `inside`
abbrev pub TakesText : Text → List ℕ → List ℕ → Type 0
TakesText x s r = (inside : List ℕ) × (s ≡ inside ++ 34 ∷ r) × BorrowedIfPlain x inside

-- the text s is bytes that need no escape, then a backslash, then any bytes
abbrev pub ReachesBackslash : List ℕ → Type 0
ReachesBackslash s = (p q : List ℕ) × AllByRecursion (λ c. is_special c ≡ false) p × (s ≡ p ++ 92 ∷ q)
