-- The events of a list's tree give what its children give one by one.
use Rattle.std.proofs.Common.{◌≡◌, List, [], ◌∷◌, ◌++◌, Option, Some, None, refl, ap, ◌∙◌, append_assoc}
use Rattle.std.specs.Prelude.{option_and_then, false}
use Rattle.miniserde_model.specs.Tree.{Tree, list, Trees, no_trees, tree}
use Rattle.miniserde_model.specs.Step.{Step, element, finish, events, child_events}
use Rattle.miniserde_model.specs.Position.{start}
use Rattle.miniserde_model.proofs.Events.{events_complete}
use Rattle.miniserde_place.specs.Leaf.{nothing_more}
use Rattle.miniserde_place.specs.Container.{Rules, between_children, inside_child, after_opening}
use Rattle.miniserde_place.specs.laws.Container.{inside-split}
use Rattle.miniserde_places.specs.Children.{after_children, after_all_children}

-- the events of the children and of the end begin with some event
begins : (ts : Trees) → (e : Step) × (es : List Step) × (child_events ts ++ finish ∷ [] ≡ e ∷ es)
begins no_trees = (finish, [], refl)
begins (tree t ts) = (element, (events t ++ child_events ts) ++ finish ∷ [], refl)

module _ {S R : Type 0} (rules : Rules S R) (f : S → Tree → Option S)
    (same : (s : S) (t : Tree) → rules.child s element (events t) ≡ f s t) where
  children-give : (s : S) (ts : Trees) → between_children rules s (child_events ts ++ finish ∷ []) ≡ option_and_then
      rules.end (after_children f s ts)
  children-give s no_trees = elim (rules.end s) as (λ o. option_and_then (λ r. nothing_more r []) o ≡ o) [ None ↦ refl | Some r ↦ refl ]
  children-give s (tree t ts) =
      let l = begins ts in
      let split : inside_child rules (rules.child s element) start (events t ++ (child_events ts ++ finish ∷ []))
      ≡ option_and_then (λ r. between_children rules r (child_events ts ++ finish ∷ []))
      (rules.child s element (events t)) =
      rw l.2 (inside-split rules start (rules.child s element) (events t) l.0 l.1 (events_complete t)) in
      ap (inside_child rules (rules.child s element) start) (append_assoc (events t) (child_events ts) (finish ∷ []))
      ∙ split ∙ rw (same s t) (elim (f s t)
      as (λ o. option_and_then (λ r. between_children rules r (child_events ts ++ finish ∷ [])) o
      ≡ option_and_then rules.end (option_and_then (λ r. after_children f r ts) o)) [
        | None ↦ refl
        | Some r ↦ children-give r ts
      ])

  pub after_all_children-meant : (s : S) (t : Tree) → after_opening false (between_children rules s) (events t)
      ≡ after_all_children f rules.end s t
  after_all_children-meant s (list ts) = children-give s ts
  after_all_children-meant s t = refl
