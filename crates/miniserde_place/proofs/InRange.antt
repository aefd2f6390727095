-- A value that stands in a text is a tree in range.
use Rattle.std.proofs.Common.{ℕ, Bool, true, false, List, subst}
use Rattle.miniserde_model.specs.Tree.{Tree, null, truth, nonneg, neg, num, str, list, members, Trees, no_trees}
use Rattle.miniserde_model.specs.Tree.{tree, Members, no_members, member}
use Rattle.miniserde_model.specs.InRange.{InRange, AllInRange, MembersInRange}
use Rattle.miniserde_model.specs.Step.{Step, string, negative, nonnegative, float}
use Rattle.miniserde_model.specs.Lexing.{Starts}
use Rattle.miniserde_model.proofs.Accepted.{value_tree}
use Rattle.miniserde_read.specs.Rest.{ValueAt, ElementsAt, MembersAt}

mutual
  pub value_in_range : (t : Tree) (e : Step) (j s r : List ℕ) → Starts j e s → ValueAt t e s r → InRange t
  value_in_range null e j s r k v = tt
  value_in_range (truth b) e j s r k v = tt
  value_in_range (nonneg n) e j s r k v = let p : Starts j (nonnegative n) s = subst (λ z. Starts j z s) v.0 k in
      value_tree (nonneg n) p.0.part p.0.is_part
  value_in_range (neg n) e j s r k v = let p : Starts j (negative n) s = subst (λ z. Starts j z s) v.0 k in
      value_tree (neg n) p.0.part p.0.is_part
  value_in_range (num x) e j s r k v = let p : Starts j (float x) s = subst (λ z. Starts j z s) v.0 k in
      value_tree (num x) p.0.part p.0.is_part
  value_in_range (str x) e j s r k v = let p : Starts j (string x) s = subst (λ z. Starts j z s) v.0 k in
      value_tree (str x) p.0.part p.0.is_part
  value_in_range (list ts) e j s r k v = elements_in_range ts true s r v.1
  value_in_range (members ms) e j s r k v = members_in_range ms true s r v.1

  elements_in_range : (ts : Trees) (f : Bool) (s r : List ℕ) → ElementsAt ts f s r → AllInRange ts
  elements_in_range no_trees f s r p = tt
  elements_in_range (tree t ts) f s r p = (
    value_in_range t p.event p.begin p.behind p.rest p.starts p.is_value,
    elements_in_range ts false p.rest r
        p.is_rest,
  )

  members_in_range : (ms : Members) (f : Bool) (s r : List ℕ) → MembersAt ms f s r → MembersInRange ms
  members_in_range no_members f s r p = tt
  members_in_range (member n t ms) f s r p = (
    value_tree (str n) p.names.is_part.spelled p.names.is_part.is_spelled,
    value_in_range t p.event p.named
        p.behind p.rest p.starts p.is_value,
    members_in_range ms false p.rest r p.is_rest,
  )
