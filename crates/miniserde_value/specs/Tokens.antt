-- What the tokens of a tree write and what a builder makes of them: their text, and the hole after them.
use Rattle.std.specs.Prelude.{ℕ, Bool, true, false, List, [], ◌∷◌, ◌++◌, None, IsUtf8, ⊤}
use Rattle.miniserde_model.specs.Tree.{Tree, list, members, Trees, no_trees, tree, Members, no_members, member}
use Rattle.miniserde_model.specs.InRange.{InRange}
use Rattle.miniserde_model.specs.Normal.{norm, Rise}
use Rattle.miniserde_model.specs.Tokens.{Token, leaf, name, array, element, array_end, object, object_end, token_text}
use Rattle.miniserde_value.specs.Hole.{Hole, with_tree, with_name, after_close, in_list, in_members}

abbrev mutual
  -- in the tree, the names of each object strictly rise by their bytes
  pub IsOrdered : Tree → Type 0
  IsOrdered (list ts) = AreOrdered ts
  IsOrdered (members ms) = Rise ms × AreOrderedMembers ms
  IsOrdered _ = ⊤

  -- in each of the trees, the names of each object strictly rise by their bytes
  pub AreOrdered : Trees → Type 0
  AreOrdered no_trees = ⊤
  AreOrdered (tree t ts) = IsOrdered t × AreOrdered ts

  -- in the tree of each member, the names of each object strictly rise by their bytes
  pub AreOrderedMembers : Members → Type 0
  AreOrderedMembers no_members = ⊤
  AreOrderedMembers (member n t ms) = IsOrdered t × AreOrderedMembers ms

-- ---- tokens as a text: `first` says that the next element or member is the first of its container

-- the flag after the tokens: whether the next element or member is then the first of its container;
-- `first` is the flag before them
abbrev pub first_flag_after : Bool → List Token → Bool
first_flag_after first [] = first
first_flag_after first (leaf t ∷ ks) = first_flag_after first ks
first_flag_after first (array ∷ ks) = first_flag_after true ks
first_flag_after first (object ∷ ks) = first_flag_after true ks
first_flag_after first (_ ∷ ks) = first_flag_after false ks

-- the text that the tokens write; `first` says that the next element or member is the first of its container
abbrev pub tokens_text : Bool → List Token → List ℕ
tokens_text first [] = []
tokens_text first (k ∷ ks) = token_text first k ++ tokens_text (first_flag_after first (k ∷ [])) ks

-- the tokens have leaves whose normal forms are in range, and names that are UTF-8
abbrev pub TokensInRange : List Token → Type 0
TokensInRange [] = ⊤
TokensInRange (leaf t ∷ ks) = InRange (norm t) × TokensInRange ks
TokensInRange (name n ∷ ks) = IsUtf8 n × TokensInRange ks
TokensInRange (_ ∷ ks) = TokensInRange ks

-- ---- tokens as a hole

-- the hole after the tokens, from the hole h on
abbrev pub hole_after : Hole → List Token → Hole
hole_after h [] = h
hole_after h (leaf t ∷ ks) = hole_after (with_tree t h) ks
hole_after h (array ∷ ks) = hole_after (in_list [] h) ks
hole_after h (element ∷ ks) = hole_after h ks
hole_after h (array_end ∷ ks) = hole_after (after_close h) ks
hole_after h (object ∷ ks) = hole_after (in_members no_members None h) ks
hole_after h (name n ∷ ks) = hole_after (with_name n h) ks
hole_after h (object_end ∷ ks) = hole_after (after_close h) ks
