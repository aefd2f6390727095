-- Members with aliases give one by one what the members with the fields' names give.
use Rattle.std.proofs.Common.{◌≡◌, List, Option, Some, None, refl, ap}
use Rattle.std.specs.Prelude.{option_and_then}
use Rattle.miniserde_model.specs.Tree.{Tree, Members, no_members, member}
use Rattle.miniserde_read.specs.types.Objects.{Name, after_members}
use Rattle.miniserde_record.specs.Aliases.{field_name_of, with_field_names}

module _ {S : Type 0} (ps : List (Name × Name)) (next : S → Name → Tree → Option S) where
  one-by-one : (s : S) (ms : Members) → after_members (λ s k t. next s (field_name_of ps k) t) s ms
      ≡ after_members next s (with_field_names ps ms)
  one-by-one s no_members = refl
  one-by-one s (member k t ms) =
      elim (next s (field_name_of ps k) t)
      as (λ p. option_and_then (λ r. after_members (λ s k t. next s (field_name_of ps k) t) r ms) p
      ≡ option_and_then (λ r. after_members next r (with_field_names ps ms)) p) [
        | None ↦ refl
        | Some r ↦ one-by-one r ms
      ]

  pub alias-apart : {C : Type 0} (end : S → Option C) (s : S) (ms : Members)
      → option_and_then end (after_members (λ s k t. next s (field_name_of ps k) t) s ms) ≡ option_and_then end
      (after_members next s (with_field_names ps ms))
  alias-apart end s ms = ap (option_and_then end) (one-by-one s ms)
