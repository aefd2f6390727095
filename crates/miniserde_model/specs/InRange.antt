-- Trees in range, which are those that a text can spell (RFC 8259, sections 6 and 8.1).
use Rattle.std.specs.Prelude.{◌-◌, ◌^◌, ◌<◌, ◌≤◌, pos, unsigned_abs, ◌≤ℤ◌, IsUtf8, ⊤}
use Rattle.miniserde_model.specs.Tree.{Tree, null, truth, nonneg, neg, num, str, list, members, Trees, no_trees}
use Rattle.miniserde_model.specs.Tree.{tree, Members, no_members, member}
use Rattle.miniserde_model.specs.Number.{IsNumber}
use Rattle.std.proofs.Common.{arith}

abbrev mutual
  -- the tree is in range: its integers are, each number text is a number that is no integer in range, and each string
  -- and name is UTF-8
  pub InRange : Tree → Type 0
  InRange null = ⊤
  InRange (truth x) = ⊤
  InRange (nonneg n) = n < 2 ^ 64
  InRange (neg z) = (z ≤ℤ pos 0) × (unsigned_abs z ≤ 2 ^ 63)
  InRange (num x) = IsNumber x (num x)
  InRange (str s) = IsUtf8 s
  InRange (list ts) = AllInRange ts
  InRange (members ms) = MembersInRange ms

  -- each of the children is in range
  pub AllInRange : Trees → Type 0
  AllInRange no_trees = ⊤
  AllInRange (tree t ts) = InRange t × AllInRange ts

  -- each member's name is UTF-8, and its tree is in range
  pub MembersInRange : Members → Type 0
  MembersInRange no_members = ⊤
  MembersInRange (member name t ms) = IsUtf8 name × InRange t × MembersInRange ms

-- Worked cases: 2 ^ 64 - 1 without a minus is an integer in range, and 2 ^ 64 is none.
pub largest : InRange (nonneg (2 ^ 64 - 1))
largest = omega arith

pub too_large : InRange (nonneg (2 ^ 64)) → ⊥
too_large h = omega (arith, h)
