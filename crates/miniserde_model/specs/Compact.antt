-- The compact text of a tree: no whitespace, and no byte of a string is escaped without need (RFC 8259, section 7).
use Rattle.std.specs.Prelude.{ℕ, ◌/◌, ◌%◌, List, [], ◌∷◌, ◌++◌, codes, decimal, unsigned_abs, ◌==◌, ◌||◌, nat_lt}
use Rattle.std.specs.Prelude.{if◌then◌else◌, flat_map, ◌≡◌, refl, true}
use Rattle.std.specs.Char.{digit_char}
use Rattle.miniserde_model.specs.Ascii.{begin_array, end_array, begin_object, end_object, name_separator}
use Rattle.miniserde_model.specs.Ascii.{value_separator, quotation_mark, reverse_solidus, minus_sign, digit_0}
use Rattle.miniserde_model.specs.Ascii.{letter_b, letter_f, letter_n, letter_r, letter_t, letter_u}
use Rattle.miniserde_model.specs.Tree.{Tree, null, truth, nonneg, neg, num, str, list, members, Trees, no_trees}
use Rattle.miniserde_model.specs.Tree.{tree, Members, no_members, member}
use Rattle.miniserde_model.specs.Value.{word}
use Rattle.std.proofs.Common.{ap, arith, get_or}

-- the bytes that stand inside a string for one byte of its text: its shortest escape, with hexadecimal digits in lower
-- case, if the byte needs one, or else itself
abbrev pub escape_text : ℕ → List ℕ
escape_text x =
    if x == 0x08 then reverse_solidus ∷ letter_b ∷ [] else
    if x == 0x09 then reverse_solidus ∷ letter_t ∷ [] else
    if x == 0x0A then reverse_solidus ∷ letter_n ∷ [] else
    if x == 0x0C then reverse_solidus ∷ letter_f ∷ [] else
    if x == 0x0D then reverse_solidus ∷ letter_r ∷ [] else
    if (x == quotation_mark) || (x == reverse_solidus) then reverse_solidus ∷ x ∷ [] else
    if nat_lt x 0x20 then reverse_solidus ∷ letter_u ∷ digit_0 ∷ digit_0 ∷ digit_char (x / 16) ∷ digit_char (x % 16) ∷ [] else
    x ∷ []

-- the string for a text: the text with its escapes, between quotation marks
unfoldable pub string_text : List ℕ → List ℕ
string_text s = quotation_mark ∷ (flat_map escape_text s ++ quotation_mark ∷ [])

abbrev mutual
  -- the compact text of a tree
  pub compact : Tree → List ℕ
  compact null = codes "null"
  compact (truth x) = word x
  compact (nonneg n) = decimal n
  compact (neg n) = minus_sign ∷ decimal (unsigned_abs n)
  compact (num x) = x
  compact (str s) = string_text s
  compact (list ts) = begin_array ∷ (compact_children ts ++ end_array ∷ [])
  compact (members ms) = begin_object ∷ (compact_members ms ++ end_object ∷ [])

  -- the compact texts of a list's children, with commas between them
  pub compact_children : Trees → List ℕ
  compact_children no_trees = []
  compact_children (tree t ts) = compact t ++ compact_more ts

  -- the compact texts of further elements, with a comma before each
  pub compact_more : Trees → List ℕ
  compact_more no_trees = []
  compact_more (tree t ts) = value_separator ∷ (compact t ++ compact_more ts)

  -- the compact text of an object's members, each with its name, with commas between them
  pub compact_members : Members → List ℕ
  compact_members no_members = []
  compact_members (member name t ms) = (string_text name ++ name_separator ∷ compact t) ++ compact_more_members ms

  -- the compact text of further members, with a comma before each
  pub compact_more_members : Members → List ℕ
  compact_more_members no_members = []
  compact_more_members (member name t ms) = value_separator ∷ ((string_text name ++ name_separator ∷ compact t) ++ compact_more_members ms)

-- Worked cases: `[null,true]` is the compact text of its tree, and `[null, true]` is not.
pub two_words : compact (list (tree null (tree (truth true) no_trees))) ≡ codes "[null,true]"
two_words = refl

pub no_space : compact (list (tree null (tree (truth true) no_trees))) ≡ codes "[null, true]" → ⊥
no_space e = omega (arith, ap (λ x. get_or x 6 0) e)
