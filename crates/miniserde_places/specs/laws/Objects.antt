-- The events of an object's tree give what its members give one by one.
use Rattle.std.proofs.Common.{◌≡◌, true, List, [], ◌∷◌, ◌++◌, Option, Some, None, refl, ap, ◌∙◌, append_assoc}
use Rattle.std.specs.Prelude.{option_and_then}
use Rattle.miniserde_model.specs.Tree.{Tree, members, Members, no_members, member}
use Rattle.miniserde_model.specs.Step.{Step, key, finish, events, member_events}
use Rattle.miniserde_model.specs.Position.{start}
use Rattle.miniserde_model.proofs.Events.{events_complete}
use Rattle.miniserde_place.specs.Container.{between_children, inside_child, after_opening}
use Rattle.miniserde_place.specs.laws.Container.{inside-split}
use Rattle.miniserde_read.specs.types.Objects.{Name, MemberStep, after_members, object_of}
use Rattle.miniserde_places.specs.Objects.{object_rules}

-- the events of the members and of the end begin with some event
begins : (ms : Members) → (e : Step) × (es : List Step) × (member_events ms ++ finish ∷ [] ≡ e ∷ es)
begins no_members = (finish, [], refl)
begins (member k t ms) = (key k, (events t ++ member_events ms) ++ finish ∷ [], refl)

module _ {S R : Type 0} (child : MemberStep S (List Step)) (child_of : MemberStep S Tree)
    (ends : S → Option R) (same : (s : S) (k : Name) (t : Tree) → child s k (events t) ≡ child_of s k t) where
  between-events : (s : S) (ms : Members)
      → between_children (object_rules child ends) s (member_events ms ++ finish ∷ []) ≡ option_and_then ends
      (after_members child_of s ms)
  between-events s no_members = elim (ends s) as (λ o. option_and_then (λ r. Some r) o ≡ o) [ None ↦ refl | Some r ↦ refl ]
  between-events s (member k t ms) =
      let rules = object_rules child ends in
      let l = begins ms in
      let split : inside_child rules (child s k) start (events t ++ (member_events ms ++ finish ∷ []))
      ≡ option_and_then (λ r. between_children rules r (member_events ms ++ finish ∷ []))
      (child s k (events t)) =
      rw l.2 (inside-split rules start (child s k) (events t) l.0 l.1 (events_complete t)) in
      ap (inside_child rules (child s k) start) (append_assoc (events t) (member_events ms) (finish ∷ []))
      ∙ split ∙ rw (same s k t)
      (elim (child_of s k t) as (λ o.
      option_and_then (λ r. between_children rules r (member_events ms ++ finish ∷ [])) o ≡ option_and_then
      ends (option_and_then (λ r. after_members child_of r ms) o)) [
        | None ↦ refl
        | Some r ↦ between-events r ms
      ])

  -- an object's events give what f returns for its members, if f returns what the members' trees give one by one
  pub object-meant : (s : S) (f : Members → Option R)
      → ((ms : Members) → option_and_then ends (after_members child_of s ms) ≡ f ms) → (t : Tree)
      → after_opening true (between_children (object_rules child ends) s) (events t) ≡ object_of f t
  object-meant s f h (members ms) = between-events s ms ∙ h ms
  object-meant s f h t = refl
