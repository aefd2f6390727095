-- The events of a list's tree give the list of what its children give, and that is what the tree means.
use Rattle.std.proofs.Common.{◌≡◌, List, [], ◌∷◌, ◌++◌, Option, Some, None, refl, sym, ap, ◌∙◌, append_assoc, append-nil}
use Rattle.std.specs.Prelude.{option_and_then, false}
use Rattle.miniserde_model.specs.Tree.{Tree, list, Trees, no_trees, tree}
use Rattle.miniserde_model.specs.Step.{Step, events}
use Rattle.miniserde_place.specs.Container.{between_children, after_opening}
use Rattle.miniserde_read.specs.types.Lists.{each, list_of}
use Rattle.miniserde_places.specs.Lists.{list_rules}
use Rattle.miniserde_places.specs.Children.{after_children, with_last, after_all_children}
use Rattle.miniserde_places.specs.laws.Children.{after_all_children-meant}

-- ---- what a list gives

module _ {C : Type 0} (of : Tree → Option C) where
  each-added : (xs : List C) (ts : Trees) → after_children (with_last of) xs ts ≡ option_and_then (λ ys. Some (xs ++ ys)) (each of ts)
  each-added xs no_trees = ap Some (sym (append-nil xs))
  each-added xs (tree t ts) =
      elim (of t) as (λ o. option_and_then (λ r. after_children (with_last of) r ts)
      (option_and_then (λ c. Some (xs ++ c ∷ [])) o) ≡ option_and_then (λ ys. Some (xs ++ ys))
      (option_and_then (λ x. option_and_then (λ ys. Some (x ∷ ys)) (each of ts)) o)) [
        | None ↦ refl
        | Some x ↦ each-added (xs ++ x ∷ []) ts
            ∙ (elim (each of ts) as (λ o. option_and_then (λ ys. Some ((xs ++ x ∷ []) ++ ys)) o ≡ option_and_then
            (λ ys. Some (xs ++ ys)) (option_and_then (λ ys. Some (x ∷ ys)) o))
            [ None ↦ refl | Some ys ↦ ap Some (append_assoc xs (x ∷ []) ys) ])
      ]

  list-after_all_children : (t : Tree) → after_all_children (with_last of) (λ ys. Some ys) [] t ≡ list_of of t
  list-after_all_children (list ts) = ap (option_and_then (λ ys. Some ys)) (each-added [] ts)
      ∙ (elim (each of ts) as (λ o. option_and_then (λ ys. Some ys) (option_and_then (λ ys. Some ys) o) ≡ o)
      [ None ↦ refl | Some ys ↦ refl ])
  list-after_all_children t = refl

module _ {C : Type 0} (mean : List Step → Option C) (of : Tree → Option C) (meant : (t : Tree) → mean (events t) ≡ of t) where
  added-same : (xs : List C) (t : Tree) → with_last mean xs (events t) ≡ with_last of xs t
  added-same xs t = rw (meant t) refl

  pub list-meant : (t : Tree) → after_opening false (between_children (list_rules mean) []) (events t) ≡ list_of of t
  list-meant t = after_all_children-meant (list_rules mean) (with_last of) added-same [] t ∙ list-after_all_children of t
