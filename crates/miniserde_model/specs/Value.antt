-- The texts that spell a tree (RFC 8259, sections 2 to 5).
use Rattle.std.specs.Prelude.{◌≡◌, ℕ, Bool, true, false, List, [], ◌∷◌, ◌++◌, codes, refl, length}
use Rattle.std.proofs.Common.{ap, arith, inl}
use Rattle.miniserde_model.specs.Ascii.{begin_array, end_array, begin_object, end_object, name_separator, value_separator}
use Rattle.miniserde_model.specs.Tree.{Tree, null, truth, nonneg, neg, num, str, list, members, Trees, no_trees}
use Rattle.miniserde_model.specs.Tree.{tree, Members, no_members, member}
use Rattle.miniserde_model.specs.Number.{IsNumber}
use Rattle.miniserde_model.specs.String.{IsString}
use Rattle.miniserde_model.specs.Whitespace.{IsWhitespace}

-- the bytes b are whitespace, then `inner`, of which P holds, then whitespace
pub record Spaced (P : List ℕ → Type 0) (b : List ℕ) : Type 0 where
  pub before : List ℕ
  pub inner : List ℕ
  pub after : List ℕ
  pub text : b ≡ before ++ (inner ++ after)
  pub is_before : IsWhitespace before
  pub is_inner : P inner
  pub is_after : IsWhitespace after

-- the bytes b are a name, of which N holds, a colon, and a value, of which V holds, with whitespace around both
pub record Named (N V : List ℕ → Type 0) (b : List ℕ) : Type 0 where
  pub name : List ℕ
  pub value : List ℕ
  pub text : b ≡ name ++ name_separator ∷ value
  pub is_name : Spaced N name
  pub is_value : Spaced V value

-- the bytes b are `first`, of which P holds, and then `rest`, of which R holds
pub record Then (P R : List ℕ → Type 0) (b : List ℕ) : Type 0 where
  pub first : List ℕ
  pub rest : List ℕ
  pub text : b ≡ first ++ rest
  pub is_first : P first
  pub is_rest : R rest

-- the bytes b are the byte `left`, then `inside`, of which P holds, then the byte `right`
pub record Between (left : ℕ) (P : List ℕ → Type 0) (right : ℕ) (b : List ℕ) : Type 0 where
  pub inside : List ℕ
  pub text : b ≡ left ∷ (inside ++ right ∷ [])
  pub is_inside : P inside

-- the word for a boolean: `true` or `false`
abbrev pub word : Bool → List ℕ
word true = codes "true"
word false = codes "false"

abbrev mutual
  -- the bytes b, without whitespace around them, spell the tree
  pub IsValue : Tree → List ℕ → Type 0
  IsValue null b = b ≡ codes "null"
  IsValue (truth x) b = b ≡ word x
  IsValue (nonneg n) b = IsNumber b (nonneg n)
  IsValue (neg n) b = IsNumber b (neg n)
  IsValue (num x) b = IsNumber b (num x)
  IsValue (str s) b = IsString b s
  IsValue (list ts) b = Between begin_array (AreElements ts) end_array b
  IsValue (members ms) b = Between begin_object (AreMembers ms) end_object b

  -- the bytes b, which stand between the brackets of an array, spell the elements with commas
  -- between them, or are whitespace alone if there are no elements
  pub AreElements : Trees → List ℕ → Type 0
  AreElements no_trees b = IsWhitespace b
  AreElements (tree t ts) b = Then (Spaced (IsValue t)) (AreMoreElements ts) b

  -- the bytes b spell further elements, with a comma before each
  pub AreMoreElements : Trees → List ℕ → Type 0
  AreMoreElements no_trees b = b ≡ []
  AreMoreElements (tree t ts) b = (c : List ℕ) × (b ≡ value_separator ∷ c) × Then (Spaced (IsValue t)) (AreMoreElements ts) c

  -- the bytes b, which stand between the brackets of an object, spell the members with commas
  -- between them, or are whitespace alone if there are no members
  pub AreMembers : Members → List ℕ → Type 0
  AreMembers no_members b = IsWhitespace b
  AreMembers (member name t ms) b = Then (Named (λ n. IsString n name) (IsValue t)) (AreMoreMembers ms) b

  -- the bytes b spell further members, with a comma before each
  pub AreMoreMembers : Members → List ℕ → Type 0
  AreMoreMembers no_members b = b ≡ []
  AreMoreMembers (member name t ms) b = (c : List ℕ) × (b ≡ value_separator ∷ c)
      × Then (Named (λ n. IsString n name) (IsValue t)) (AreMoreMembers ms) c

-- the bytes b, a whole text, spell the tree t
abbrev pub IsJson : List ℕ → Tree → Type 0
IsJson b t = Spaced (IsValue t) b

-- the text b spells no tree
abbrev pub HasNoTree : List ℕ → Type 0
HasNoTree b = (t : Tree) → IsJson b t → ⊥

-- Worked cases: ` null` spells null, and `nul` does not.
pub null_after_space : IsJson (codes " null") null
null_after_space = record {
  before = codes " ";
  inner = codes "null";
  after = [];
  text = refl;
  is_before =
      (inl refl, tt);
  is_inner = refl;
  is_after = tt;
}

pub cut_short : IsValue null (codes "nul") → ⊥
cut_short h = omega (arith, ap length h)
