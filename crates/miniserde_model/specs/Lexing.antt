-- What each call of a lexer takes from a text, by the grammar of whole texts (RFC 8259, section 2).
use Rattle.std.specs.Prelude.{◌≡◌, ℕ, Bool, true, false, List, [], ◌∷◌, ◌++◌, ⊤, refl}
use Rattle.std.proofs.Common.{ap, sym, get_or}
use Rattle.miniserde_model.specs.Ascii.{begin_array, end_array, begin_object, end_object, name_separator, value_separator}
use Rattle.miniserde_model.specs.Tree.{null, truth, nonneg, neg, num, str}
use Rattle.miniserde_model.specs.String.{IsString}
use Rattle.miniserde_model.specs.Whitespace.{IsWhitespace}
use Rattle.miniserde_model.specs.Value.{IsValue}
use Rattle.miniserde_model.specs.Step.{Step, boolean, string, negative, nonnegative, float, seq, element, map, key, finish}
use Rattle.miniserde_model.specs.Step as step
use Rattle.miniserde_model.specs.declared.kind.Kind.{Kind}
use Rattle.miniserde_model.specs.declared.kind.Kind.TheVariants.{Seq, Map}
use Rattle.miniserde_model.specs.Bytes.{is_space, is_number_byte, StopsAt}

-- `part` is the one byte c
abbrev pub IsByte : ℕ → List ℕ → Type 0
IsByte c part = part ≡ c ∷ []

-- `part` is `spelled`, of which P holds, then whitespace, then a colon
pub record BeforeColon (P : List ℕ → Type 0) (part : List ℕ) : Type 0 where
  pub spelled : List ℕ
  pub space : List ℕ
  pub text : part ≡ spelled ++ (space ++ name_separator ∷ [])
  pub is_spelled : P spelled
  pub white : IsWhitespace space

-- `part` is a string whose text is the name, then whitespace, then a colon
abbrev pub IsName : List ℕ → List ℕ → Type 0
IsName name part = BeforeColon (λ b. IsString b name) part

-- the text s is whitespace, then `part`, of which P holds, then the rest r
pub record Stands (P : List ℕ → Type 0) (s r : List ℕ) : Type 0 where
  pub space : List ℕ
  pub part : List ℕ
  pub text : s ≡ space ++ (part ++ r)
  pub white : IsWhitespace space
  pub is_part : P part

-- the event is the first of a value, and the bytes b are the value's first token: a whole leaf or an opening bracket
abbrev pub Piece : Step → List ℕ → Type 0
Piece step.null b = IsValue null b
Piece (boolean x) b = IsValue (truth x) b
Piece (string s) b = IsValue (str s) b
Piece (negative n) b = IsValue (neg n) b
Piece (nonnegative n) b = IsValue (nonneg n) b
Piece (float x) b = IsValue (num x) b
Piece seq b = IsByte begin_array b
Piece map b = IsByte begin_object b
Piece element b = ⊥
Piece (key s) b = ⊥
Piece finish b = ⊥

-- if the event is a number, the text r after its token does not begin with a byte that a number can have
abbrev pub Ends : Step → List ℕ → Type 0
Ends (negative n) r = StopsAt is_number_byte r
Ends (nonnegative n) r = StopsAt is_number_byte r
Ends (float x) r = StopsAt is_number_byte r
Ends _ r = ⊤

-- after whitespace, the text s begins with the token of the event e, and r is the text after it
abbrev pub Starts : List ℕ → Step → List ℕ → Type 0
Starts s e r = Stands (Piece e) s r × Ends e r

-- after whitespace, the text s begins with the name n and its colon, and r is the text after them
abbrev pub Names : List ℕ → List ℕ → List ℕ → Type 0
Names s n r = Stands (IsName n) s r

-- the closing bracket of a container of the kind
abbrev pub closing : Kind → ℕ
closing Seq = end_array
closing Map = end_object

-- the text r begins with a byte that is neither whitespace nor a closing bracket
pub record Begins (r : List ℕ) : Type 0 where
  pub byte : ℕ
  pub more : List ℕ
  pub text : r ≡ byte ∷ more
  pub no_space : is_space byte ≡ false
  pub no_list_end : byte ≡ end_array → ⊥
  pub no_members_end : byte ≡ end_object → ⊥

-- Inside a container of the kind k, the text s goes on, after whitespace, with what the lexer
-- takes, and r is the text after that. If the third argument is true, it takes the closing bracket.
-- If not, a child is next, and it takes the comma before the child, or nothing if `first` says that
-- the opening bracket was just taken.
abbrev pub Follows : Kind → Bool → Bool → List ℕ → List ℕ → Type 0
Follows k first true s r = Stands (IsByte (closing k)) s r
Follows k true false s r = Stands (λ b. b ≡ []) s r × Begins r
Follows k false false s r = Stands (IsByte value_separator) s r

-- Worked cases: `]` ends an array, and it does not begin an element.
pub end_of_array : Follows Seq true true (end_array ∷ []) []
end_of_array = record { space = []; part = end_array ∷ []; text = refl; white = tt; is_part = refl }

pub no_element : Begins (end_array ∷ []) → ⊥
no_element h = h.no_list_end (sym (ap (λ x. get_or x 0 0) h.text))
