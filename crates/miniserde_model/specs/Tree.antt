-- The tree of a JSON text: its value, without the spelling (RFC 8259, section 3).
-- Strings, names and number texts are lists of their bytes, in UTF-8.
use Rattle.std.specs.Prelude.{ℕ, ℤ, Bool, List}

mutual
  -- a JSON value: a leaf, a list of children, or an object of members
  pub data Tree : Type 0 where
    null : Tree
    truth : Bool → Tree
    -- an integer that is written without a minus, and below 2 ^ 64 if the tree is in range (`InRange`)
    nonneg : ℕ → Tree
    -- an integer that is written with a minus, at most 0 and at least - 2 ^ 63 if the tree is in range
    neg : ℤ → Tree
    -- any other number, as its text
    num : List ℕ → Tree
    -- a string, as the text that it stands for
    str : List ℕ → Tree
    list : Trees → Tree
    members : Members → Tree

  -- the children of a list, in order
  pub data Trees : Type 0 where
    no_trees : Trees
    tree : Tree → Trees → Trees

  -- the members of an object in order, each with its name and its tree; names may be duplicates
  pub data Members : Type 0 where
    no_members : Members
    member : List ℕ → Tree → Members → Members
