-- The tokens of a tree (RFC 8259, section 2): its leaves, its brackets and the names of its members in the tree's own
-- order, and one token at the beginning of each element of an array. Commas and colons are part of a token's text.
use Rattle.std.specs.Prelude.{◌≡◌, ℕ, pos, Bool, true, false, List, [], ◌∷◌, ◌++◌, codes, refl}
use Rattle.miniserde_model.specs.Ascii.{begin_array, end_array, begin_object, end_object, name_separator, value_separator}
use Rattle.miniserde_model.specs.Tree.{Tree, nonneg, neg, list, members, Trees, no_trees, tree, Members, no_members, member}
use Rattle.miniserde_model.specs.Compact.{compact, string_text}
use Rattle.miniserde_model.specs.Normal.{norm}

-- a token: a leaf, a bracket, the name of a member, or the beginning of an element
pub data Token : Type 0 where
  -- a tree that is no container
  leaf : Tree → Token
  name : List ℕ → Token
  array : Token
  element : Token
  array_end : Token
  object : Token
  object_end : Token

abbrev mutual
  -- the tokens of a tree, and then those in `rest`
  pub tokens : Tree → List Token → List Token
  tokens (list ts) rest = array ∷ child_tokens ts (array_end ∷ rest)
  tokens (members ms) rest = object ∷ member_tokens ms (object_end ∷ rest)
  tokens t rest = leaf t ∷ rest

  -- the tokens of a list's children, with `element` before each, and then those in `rest`
  pub child_tokens : Trees → List Token → List Token
  child_tokens no_trees rest = rest
  child_tokens (tree t ts) rest = element ∷ tokens t (child_tokens ts rest)

  -- the tokens of an object's members, with the name before each, and then those in `rest`
  pub member_tokens : Members → List Token → List Token
  member_tokens no_members rest = rest
  member_tokens (member n t ms) rest = name n ∷ tokens t (member_tokens ms rest)

-- the comma before an element or a member, unless it is the first of its container
abbrev pub comma_before : Bool → List ℕ
comma_before true = []
comma_before false = value_separator ∷ []

-- the text of one token: a leaf in its normal form, a name with its colon, or a bracket; before an element or a name
-- stands a comma, unless `first` says that it is the first of its container
abbrev pub token_text : Bool → Token → List ℕ
token_text first (leaf t) = compact (norm t)
token_text first (name n) = comma_before first ++ string_text n ++ name_separator ∷ []
token_text first array = begin_array ∷ []
token_text first element = comma_before first
token_text first array_end = end_array ∷ []
token_text first object = begin_object ∷ []
token_text first object_end = end_object ∷ []

-- Worked cases: the tokens of `[1,{"a":-0}]`, in which the leaf of `-0` keeps its sign, and an element that is not the
-- first of its array does not begin without a comma.
pub array_of_two : tokens (list (tree (nonneg 1) (tree (members (member (codes "a") (neg (pos 0)) no_members)) no_trees))) []
    ≡ array ∷ element ∷ leaf (nonneg 1) ∷ element ∷ object ∷ name (codes "a") ∷ leaf (neg (pos 0)) ∷ object_end ∷ array_end ∷ []
array_of_two = refl

pub second_without_comma : token_text false element ≡ [] → ⊥
second_without_comma e = cc
