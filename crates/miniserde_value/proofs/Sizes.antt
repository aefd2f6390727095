-- The tree that a value keeps has as many values as the normal form of the tree that was read. By recursion over the
-- tree: the members of both have the same names in the same order, with trees of equal size (`Alike`).
use Rattle.std.proofs.Common.{◌≡◌, ℕ, ◌+◌, List, refl, ap, ap₂}
use Rattle.std.specs.Prelude.{⊤, ℤ, pos, negsuc}
use Rattle.std.specs.declared.cmp.Ordering.{Ordering}
use Rattle.std.specs.declared.cmp.Ordering.TheVariants.{Less, Equal, Greater}
use Rattle.std.specs.Ordering.{match_ordering}
use Rattle.miniserde_model.specs.Tree.{Tree, null, truth, nonneg, neg, num, str, list, members, Trees, no_trees}
use Rattle.miniserde_model.specs.Tree.{tree, Members, no_members, member}
use Rattle.miniserde_model.specs.Size.{size, size_of_children, size_of_members}
use Rattle.miniserde_model.specs.Normal.{with_if_absent, norm, norm_children, norm_members, norm_neg, text_cmp}
use Rattle.miniserde_value.specs.Retained.{retained_tree, retained_children, retained_members}

-- the same names in the same order, each with as many values
abbrev Alike : Members → Members → Type 0
Alike no_members no_members = ⊤
Alike (member n t ms) (member o u ns) = (n ≡ o) × (size t ≡ size u) × Alike ms ns
Alike _ _ = ⊥

-- two trees of equal size
record SameSize : Type 0 where
  pub one : Tree
  pub two : Tree
  pub same : size one ≡ size two

-- two lists of members that are alike
record BothAlike : Type 0 where
  pub one : Members
  pub two : Members
  pub same : Alike one two

-- if the trees and the members are alike in pairs, so are the members with the name put before or among them
placed_alike : (o : Ordering) (name other : List ℕ) (t u : SameSize) (ms more : BothAlike)
    → Alike (match_ordering o (member name t.one (member other u.one ms.one)) (member other u.one ms.one)
    (member other u.one more.one)) (match_ordering o (member name t.two (member other u.two ms.two)) (member other u.two ms.two)
    (member other u.two more.two))
placed_alike Less name other t u ms more = (refl, t.same, (refl, u.same, ms.same))
placed_alike Equal name other t u ms more = (refl, u.same, ms.same)
placed_alike Greater name other t u ms more = (refl, u.same, more.same)

with_first_alike : (name : List ℕ) (t t' : Tree) (ms ms' : Members) → size t ≡ size t' → Alike ms ms'
    → Alike (with_if_absent name t ms) (with_if_absent name t' ms')
with_first_alike name t t' no_members no_members p h = (refl, p, tt)
with_first_alike name t t' (member o u ms) (member o' u' ms') p h =
    rw h.0 (placed_alike (text_cmp name o') name o' (record { one = t; two = t'; same = p }) (record { one = u; two = u'; same = h.1 })
    (record { one = ms; two = ms'; same = h.2 })
    (record {
      one = with_if_absent name t ms;
      two = with_if_absent name t' ms';
      same = with_first_alike name t t' ms ms' p h.2;
    }))
with_first_alike name t t' no_members (member o u ms) p h = absurd h
with_first_alike name t t' (member o u ms) no_members p h = absurd h

members_alike : (ms ns : Members) → Alike ms ns → size_of_members ms ≡ size_of_members ns
members_alike no_members no_members h = refl
members_alike (member n t ms) (member o u ns) h = ap₂ (λ (a b : ℕ). a + b) h.1 (members_alike ms ns h.2)
members_alike no_members (member o u ns) h = absurd h
members_alike (member n t ms) no_members h = absurd h

neg_size : (z : ℤ) → 1 ≡ size (norm_neg z)
neg_size (pos n) = refl
neg_size (negsuc n) = refl

mutual
  pub kept_size : (t : Tree) → size (retained_tree t) ≡ size (norm t)
  kept_size null = refl
  kept_size (truth b) = refl
  kept_size (nonneg n) = refl
  kept_size (neg z) = neg_size z
  kept_size (num x) = refl
  kept_size (str s) = refl
  kept_size (list ts) = ap (λ (n : ℕ). 1 + n) (kept_children_size ts)
  kept_size (members ms) = ap (λ (n : ℕ). 1 + n) (members_alike (retained_members ms) (norm_members ms) (kept_members_alike ms))

  kept_children_size : (ts : Trees) → size_of_children (retained_children ts) ≡ size_of_children (norm_children ts)
  kept_children_size no_trees = refl
  kept_children_size (tree t ts) = ap₂ (λ (a b : ℕ). a + b) (kept_size t) (kept_children_size ts)

  kept_members_alike : (ms : Members) → Alike (retained_members ms) (norm_members ms)
  kept_members_alike no_members = tt
  kept_members_alike (member name t ms) = with_first_alike name (retained_tree t) (norm t) (retained_members ms)
      (norm_members ms) (kept_size t) (kept_members_alike ms)
