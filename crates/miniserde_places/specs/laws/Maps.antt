-- The events of a map's tree give what its members give one by one, and that is what the tree means.
use Rattle.std.proofs.Common.{◌≡◌, true, List, Option, Some, None, refl}
use Rattle.std.specs.Prelude.{option_and_then}
use Rattle.miniserde_model.specs.Tree.{Tree}
use Rattle.miniserde_model.specs.Step.{Step, events}
use Rattle.miniserde_keys.specs.Keys.{Key}
use Rattle.miniserde_place.specs.Container.{between_children, after_opening}
use Rattle.miniserde_read.specs.types.Objects.{Name, after_members}
use Rattle.miniserde_places.specs.Objects.{object_rules}
use Rattle.miniserde_places.specs.laws.Objects.{object-meant}
use Rattle.miniserde_read.specs.types.Maps.{MapContent, no_entries, map_member, map_of}

-- ---- the events

module _ {C : Type 0} (read : Name → Option Key) (code : Key → Key) (mean : List Step → Option C)
    (of : Tree → Option C) (meant : (t : Tree) → mean (events t) ≡ of t) where
  member-meant : (m : MapContent C) (k : Name) (t : Tree) → map_member read code mean m k (events t) ≡ map_member read code of m k t
  member-meant m k t = rw (meant t) refl

  pub map-meant : (t : Tree)
      → after_opening true (between_children (object_rules (map_member read code mean) (λ m. Some m)) no_entries)
      (events t) ≡ map_of read code of t
  map-meant = object-meant (map_member read code mean) (map_member read code of) (λ m. Some m) member-meant
      no_entries (after_members (map_member read code of) no_entries)
      (λ ms. elim (after_members (map_member read code of) no_entries ms)
      as (λ o. option_and_then (λ m. Some m) o ≡ o) [ None ↦ refl | Some m ↦ refl ])
