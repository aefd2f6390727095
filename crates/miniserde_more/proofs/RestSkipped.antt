-- A field skips the member of a name that neither it nor a later field has.
use Rattle.std.proofs.Common.{◌≡◌, true, false, cond, ◌||◌, ◌&&◌, List, [], ◌∷◌, Option, Some, None, ap}
use Rattle.std.specs.Prelude.{option_map, bytes_eq, is_some}
use Rattle.miniserde_read.specs.types.Objects.{Name}
use Rattle.miniserde_record.specs.Fields.{MemberRule, field_member}
use Rattle.miniserde_record.specs.Marks.{is_among}

pub field_open : {C S X : Type 0} (rule : MemberRule C S X)
    → ((ns : List Name) (s : S) (k : Name) (x : X) → is_among ns k ≡ false → rule.later ns s k x ≡ Some s)
    → (ns : List Name) (s : Option C × S) (k : Name) (x : X) → is_among ns k ≡ false → field_member rule ns s k x ≡ Some s
field_open rule later [] s k x h = ap (option_map (λ r. (s.0, r))) (later [] s.1 k x h)
field_open {C} {S} rule later (n ∷ ns) s k x h =
    elim (bytes_eq k n) as (λ b. (b || is_among ns k) ≡ false
    → ◌≡◌ {A = Option (Option C × S)} (cond b (cond (rule.once && is_some s.0) None (option_map (λ c. (Some c, s.1)) (rule.of x)))
    (option_map (λ r. (s.0, r)) (rule.later ns s.1 k x))) (Some s)) [
      | true ↦ λ h. absurd (cc)
      | false ↦ λ h. ap (option_map (λ r. (s.0, r))) (later ns s.1 k x h)
    ] h
