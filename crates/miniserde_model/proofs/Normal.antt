-- The normal form is idempotent, and it keeps numbers in range and strings in UTF-8 (`InRange`). By recursion over the
-- tree; two lists of members are equal if their names ascend and they have the same last tree at each name
-- (`one_rising`).
use Rattle.std.proofs.Common.{◌≡◌, ℕ, ◌^◌, ◌≤◌, ℤ, pos, negsuc, unsigned_abs, ◌≤ℤ◌, List, IsUtf8, option_map, refl}
use Rattle.std.proofs.Common.{sym, ap, ap₂, ◌∙◌, arith, Ordering, Less, Equal, Greater}
use Rattle.std.proofs.lemmas.Int.{ints}
use Rattle.std.specs.Ordering.{match_ordering}
use Rattle.miniserde_model.specs.Tree.{Tree, null, truth, nonneg, neg, num, str, list, members, Trees, no_trees}
use Rattle.miniserde_model.specs.Tree.{tree, Members, no_members, member}
use Rattle.miniserde_model.specs.InRange.{InRange, AllInRange, MembersInRange}
use Rattle.miniserde_model.specs.Normal.{text_cmp, with_if_absent, norm_neg, norm_by}
use Rattle.miniserde_model.specs.Normal.{norm_children_by, norm_members_by, norm, norm_children, norm_members}
use Rattle.miniserde_model.proofs.Lookups.{last_with_first, norm_keeps_last, norm_rises}
use Rattle.miniserde_model.proofs.OneNormal.{one_rising}

-- a member in its place and one in front have one normal form
norm_with_first : (f : ℤ → Tree) (name : List ℕ) (t : Tree) (ms : Members)
    → norm_members_by f (with_if_absent name t ms) ≡ with_if_absent name (norm_by f t) (norm_members_by f ms)
norm_with_first f name t ms =
    one_rising (norm_members_by f (with_if_absent name t ms)) (norm_members_by f (member name t ms))
    (norm_rises f (with_if_absent name t ms)) (norm_rises f (member name t ms))
    (λ q. norm_keeps_last f q (with_if_absent name t ms) ∙ ap (option_map (norm_by f)) (last_with_first q name t ms)
    ∙ sym (norm_keeps_last f q (member name t ms)))

-- the form by f of the one by g is the one by h, where it is so of negative numbers
mutual
  pub norm_after : (f g h : ℤ → Tree) → ((z : ℤ) → norm_by f (g z) ≡ h z) → (t : Tree) → norm_by f (norm_by g t) ≡ norm_by h t
  norm_after f g h e (neg z) = e z
  norm_after f g h e (list ts) = ap list (children_after f g h e ts)
  norm_after f g h e (members ms) = ap members (members_after f g h e ms)
  norm_after f g h e _ = refl

  children_after : (f g h : ℤ → Tree) → ((z : ℤ) → norm_by f (g z) ≡ h z) → (ts : Trees)
      → norm_children_by f (norm_children_by g ts) ≡ norm_children_by h ts
  children_after f g h e no_trees = refl
  children_after f g h e (tree t ts) = ap₂ tree (norm_after f g h e t) (children_after f g h e ts)

  members_after : (f g h : ℤ → Tree) → ((z : ℤ) → norm_by f (g z) ≡ h z) → (ms : Members)
      → norm_members_by f (norm_members_by g ms) ≡ norm_members_by h ms
  members_after f g h e no_members = refl
  members_after f g h e (member name t ms) = norm_with_first f name (norm_by g t) (norm_members_by g ms)
      ∙ ap₂ (with_if_absent name) (norm_after f g h e t) (members_after f g h e ms)

neg_twice : (z : ℤ) → norm (norm_neg z) ≡ norm_neg z
neg_twice (pos n) = refl
neg_twice (negsuc n) = refl

-- the normal form is idempotent
pub norm_twice : (t : Tree) → norm (norm t) ≡ norm t
norm_twice = norm_after norm_neg norm_neg norm_neg neg_twice

-- ---- a tree of Rust's values stays one

-- `with_if_absent` keeps members in range, if the name is UTF-8 and the tree is in range
pub trees_with_first : (name : List ℕ) (t : Tree) (ms : Members) → IsUtf8 name → InRange t → MembersInRange ms
    → MembersInRange (with_if_absent name t ms)
trees_with_first name t no_members n h k = (n, h, tt)
trees_with_first name t (member other u ms) n h k = go (text_cmp name other) _ (trees_with_first name t ms n h k.2)
  where
    go : (o : Ordering) (more : Members) → MembersInRange more
        → MembersInRange (match_ordering o (member name t (member other u ms)) (member other u ms) (member other u more))
    go Less more m = (n, h, k)
    go Equal more m = k
    go Greater more m = (k.0, k.1, m)

tree_neg : (z : ℤ) → z ≤ℤ pos 0 → unsigned_abs z ≤ 2 ^ 63 → InRange (norm_neg z)
tree_neg (pos n) h k = omega (arith, ints)
tree_neg (negsuc n) h k = (h, k)

mutual
  pub norm_tree : (t : Tree) → InRange t → InRange (norm t)
  norm_tree null h = tt
  norm_tree (truth x) h = tt
  norm_tree (nonneg n) h = h
  norm_tree (neg z) h = tree_neg z h.0 h.1
  norm_tree (num x) h = h
  norm_tree (str s) h = h
  norm_tree (list ts) h = norm_trees ts h
  norm_tree (members ms) h = norm_named ms h

  norm_trees : (ts : Trees) → AllInRange ts → AllInRange (norm_children ts)
  norm_trees no_trees h = tt
  norm_trees (tree t ts) h = (norm_tree t h.0, norm_trees ts h.1)

  norm_named : (ms : Members) → MembersInRange ms → MembersInRange (norm_members ms)
  norm_named no_members h = tt
  norm_named (member name t ms) h = trees_with_first name (norm t) (norm_members ms) h.0 (norm_tree t h.1) (norm_named ms h.2)
