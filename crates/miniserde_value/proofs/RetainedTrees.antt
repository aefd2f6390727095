-- The tree that a value keeps has the normal form of the tree that was read, and is that tree if its names are in
-- order. The first is `norm_after`, the second is by recursion over the tree: a name below all others stays first.
use Rattle.std.proofs.Common.{◌≡◌, ℤ, pos, negsuc, sym, refl, ap, ap₂, ◌∙◌}
use Rattle.miniserde_model.specs.Tree.{Tree, neg, list, members, Trees, no_trees, tree, Members, no_members, member}
use Rattle.miniserde_model.specs.Normal.{with_if_absent, norm_neg, norm, Rise}
use Rattle.miniserde_model.proofs.Lookups.{first_of_all}
use Rattle.miniserde_model.proofs.Normal.{norm_after}
use Rattle.miniserde_value.specs.Retained.{retained_tree, retained_children, retained_members}
use Rattle.miniserde_value.specs.Tokens.{IsOrdered, AreOrdered, AreOrderedMembers}

-- the normal form of the retained tree is the normal form of the tree
pub norm_kept : (t : Tree) → norm (retained_tree t) ≡ norm t
norm_kept = norm_after norm_neg neg norm_neg (λ z. refl)

neg_kept : (z : ℤ) → retained_tree (norm_neg z) ≡ norm_neg z
neg_kept (pos n) = refl
neg_kept (negsuc n) = refl

-- a normal form is kept as it is
pub kept_norm : (t : Tree) → norm t ≡ retained_tree (norm t)
kept_norm t = sym (norm_after neg norm_neg norm_neg neg_kept t)

mutual
  pub kept_ordered : (t : Tree) → IsOrdered t → retained_tree t ≡ t
  kept_ordered (list ts) h = ap list (kept_children_ordered ts h)
  kept_ordered (members ms) h = ap members (kept_members_ordered ms h.0 h.1)
  kept_ordered _ h = refl

  pub kept_children_ordered : (ts : Trees) → AreOrdered ts → retained_children ts ≡ ts
  kept_children_ordered no_trees h = refl
  kept_children_ordered (tree t ts) h = ap₂ tree (kept_ordered t h.0) (kept_children_ordered ts h.1)

  pub kept_members_ordered : (ms : Members) → Rise ms → AreOrderedMembers ms → retained_members ms ≡ ms
  kept_members_ordered no_members r h = refl
  kept_members_ordered (member name t ms) r h =
      ap₂ (with_if_absent name) (kept_ordered t h.0) (kept_members_ordered ms r.1 h.1) ∙ first_of_all name t ms r.0
