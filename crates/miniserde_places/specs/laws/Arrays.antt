-- The events of an array's tree give the list of what its children give, and that is what the tree means.
use Rattle.std.proofs.Common.{◌≡◌, ℕ, List, [], ◌∷◌, ◌++◌, length, nat_eq, nat_lt, cond, true, false, Option, Some}
use Rattle.std.proofs.Common.{None, refl, sym, ap, ◌∙◌, append_assoc, append-nil, arith}
use Rattle.std.specs.Prelude.{option_and_then}
use Rattle.std.proofs.lemmas.Bool.Decides.{nat_tests}
use Rattle.std.proofs.lemmas.List.{length-append}
use Rattle.miniserde_model.specs.Tree.{Tree, list, Trees, no_trees, tree}
use Rattle.miniserde_model.specs.Step.{Step, element, events}
use Rattle.miniserde_place.specs.Container.{between_children, after_opening}
use Rattle.miniserde_read.specs.types.Lists.{each}
use Rattle.miniserde_places.specs.Lists.{list_child}
use Rattle.miniserde_places.specs.Children.{after_children, with_last, after_all_children}
use Rattle.miniserde_places.specs.laws.Children.{after_all_children-meant}
use Rattle.miniserde_read.specs.types.Arrays.{exactly, array_of}
use Rattle.miniserde_places.specs.Arrays.{array_next, array_child, array_rules}

module _ {C : Type 0} (n : ℕ) where
  -- if a list has no such child, an array of n items has none
  pub no_item : (f : List Step → Option C) (xs : List C) (e : Step) (es : List Step) → list_child f xs e es ≡ None
      → array_child n f xs e es ≡ None
  no_item f xs element es h = elim (nat_lt (length xs) n) as (λ b. cond b (with_last f xs es) None ≡ None) [ true ↦ h | false ↦ refl ]
  no_item f xs e es h = refl

  -- a list of n items or more, with one more appended, does not have exactly n
  too_many : (xs ys : List C) (c : C) → nat_lt (length xs) n ≡ false → nat_eq (length (xs ++ (c ∷ ys))) n ≡ false
  too_many xs ys c h = rw (length-append xs (c ∷ ys)) (grind (arith, nat_tests))

  module _ (f : Tree → Option C) where
    array-each : (xs : List C) (ts : Trees) → option_and_then (exactly n) (after_children (array_next n f) xs ts)
        ≡ option_and_then (λ ys. exactly n (xs ++ ys)) (each f ts)
    array-each xs no_trees = ap (exactly n) (sym (append-nil xs))
    array-each xs (tree t ts) =
        elim (nat_lt (length xs) n)
        as (λ b. nat_lt (length xs) n ≡ b
        → option_and_then (exactly n)
        (option_and_then (λ r. after_children (array_next n f) r ts)
        (cond b (option_and_then (λ c. Some (xs ++ c ∷ [])) (f t)) None)) ≡ option_and_then
        (λ ys. exactly n (xs ++ ys))
        (option_and_then (λ x. option_and_then (λ ys. Some (x ∷ ys)) (each f ts)) (f t))) [
          | true ↦ λ b. elim (f t)
              as (λ o. option_and_then (exactly n)
              (option_and_then (λ r. after_children (array_next n f) r ts)
              (option_and_then (λ c. Some (xs ++ c ∷ [])) o)) ≡ option_and_then (λ ys. exactly n (xs ++ ys))
              (option_and_then (λ x. option_and_then (λ ys. Some (x ∷ ys)) (each f ts)) o)) [
                | None ↦ refl
                | Some c ↦ array-each (xs ++ c ∷ []) ts
                    ∙ (elim (each f ts) as (λ o. option_and_then (λ ys. exactly n ((xs ++ c ∷ []) ++ ys)) o
                    ≡ option_and_then (λ ys. exactly n (xs ++ ys)) (option_and_then (λ ys. Some (c ∷ ys)) o))
                    [ None ↦ refl | Some ys ↦ ap (exactly n) (append_assoc xs (c ∷ []) ys) ])
              ]
          | false ↦ λ b. elim (f t)
              as (λ o. None ≡ option_and_then (λ ys. exactly n (xs ++ ys))
              (option_and_then (λ x. option_and_then (λ ys. Some (x ∷ ys)) (each f ts)) o)) [
                | None ↦ refl
                | Some c ↦ elim (each f ts)
                    as (λ o. None ≡ option_and_then (λ ys. exactly n (xs ++ ys))
                    (option_and_then (λ ys. Some (c ∷ ys)) o))
                    [ None ↦ refl | Some ys ↦ rw (too_many xs ys c b) refl ]
              ]
        ] refl

    array-after_all_children : (t : Tree) → after_all_children (array_next n f) (exactly n) [] t ≡ array_of n f t
    array-after_all_children (list ts) = array-each [] ts
    array-after_all_children t = refl

  module _ (mean : List Step → Option C) (of : Tree → Option C) (meant : (t : Tree) → mean (events t) ≡ of t) where
    array-next : (xs : List C) (t : Tree) → array_next n mean xs (events t) ≡ array_next n of xs t
    array-next xs t = rw (meant t) refl

    pub array-meant : (t : Tree) → after_opening false (between_children (array_rules n mean) []) (events t) ≡ array_of n of t
    array-meant t = after_all_children-meant (array_rules n mean) (array_next n of) array-next [] t ∙ array-after_all_children of t
