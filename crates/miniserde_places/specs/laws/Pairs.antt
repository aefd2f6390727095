-- The events of a pair's tree give what its two children give, and that is what the tree means.
use Rattle.std.proofs.Common.{◌≡◌, List, Option, Some, None, refl, ap, ◌∙◌}
use Rattle.std.specs.Prelude.{option_and_then, option_map, false}
use Rattle.miniserde_model.specs.Tree.{Tree, list, no_trees, tree}
use Rattle.miniserde_model.specs.Step.{Step, events}
use Rattle.miniserde_place.specs.Container.{between_children, after_opening}
use Rattle.miniserde_places.specs.Children.{after_children, after_all_children}
use Rattle.miniserde_places.specs.laws.Children.{after_all_children-meant}
use Rattle.miniserde_read.specs.types.Pairs.{both, pair_of}
use Rattle.miniserde_places.specs.Pairs.{pair_next, pair_rules}

-- ---- two children, one by one

module _ {A B : Type 0} (f : Tree → Option A) (g : Tree → Option B) where
  one_child : (t : Tree) → after_all_children (pair_next f g) both (None, None) (list (tree t no_trees)) ≡ None
  one_child t = elim (f t)
      as (λ o. option_and_then (both {A = A} {B = B})
      (option_and_then (λ r. Some r) (option_map (λ a. (Some a, None)) o)) ≡ None) [ None ↦ refl | Some a ↦ refl ]

  pair-after_all_children : (t : Tree) → after_all_children (pair_next f g) both (None, None) t ≡ pair_of f g t
  pair-after_all_children (list no_trees) = refl
  pair-after_all_children (list (tree t no_trees)) = one_child t
  pair-after_all_children (list (tree t (tree u no_trees))) =
      elim (f t) as (λ o. option_and_then (both {A = A} {B = B})
      (option_and_then (λ r. option_and_then (λ q. Some q) (pair_next f g r u))
      (option_map (λ a. (Some a, None)) o)) ≡ both (o, g u)) [
        | None ↦ refl
        | Some a ↦ elim (g u) as (λ o. option_and_then (both {A = A} {B = B})
            (option_and_then (λ q. Some q) (option_map (λ b. (Some a, Some b)) o)) ≡ option_map (λ b. (a, b)) o)
            [ None ↦ refl | Some b ↦ refl ]
      ]
  pair-after_all_children (list (tree t (tree u (tree v ts)))) =
      elim (f t) as (λ o. option_and_then (both {A = A} {B = B})
      (option_and_then (λ r. option_and_then
      (λ q. option_and_then (λ p. after_children (pair_next f g) p ts) (pair_next f g q v))
      (pair_next f g r u)) (option_map (λ a. (Some a, None)) o)) ≡ None) [
        | None ↦ refl
        | Some a ↦ elim (g u) as (λ o. option_and_then (both {A = A} {B = B})
            (option_and_then (λ q. option_and_then (λ p. after_children (pair_next f g) p ts)
            (pair_next f g q v)) (option_map (λ b. (Some a, Some b)) o)) ≡ None)
            [ None ↦ refl | Some b ↦ refl ]
      ]
  pair-after_all_children t = refl

module _ {A B : Type 0} (mean_a : List Step → Option A) (mean_b : List Step → Option B) (of_a : Tree → Option A)
    (of_b : Tree → Option B) (meant_a : (t : Tree) → mean_a (events t) ≡ of_a t)
    (meant_b : (t : Tree) → mean_b (events t) ≡ of_b t) where
  pair-next : (s : Option A × Option B) (t : Tree) → pair_next mean_a mean_b s (events t) ≡ pair_next of_a of_b s t
  pair-next (None, b) t = ap (option_map (λ a. (Some a, b))) (meant_a t)
  pair-next (Some a, None) t = ap (option_map (λ b. (Some a, Some b))) (meant_b t)
  pair-next (Some a, Some b) t = refl

  pub pair-meant : (t : Tree) → after_opening false (between_children (pair_rules mean_a mean_b) (None, None))
      (events t) ≡ pair_of of_a of_b t
  pair-meant t = after_all_children-meant (pair_rules mean_a mean_b) (pair_next of_a of_b) pair-next (None, None) t
      ∙ pair-after_all_children of_a of_b t
