-- Fields that skip the members of a tag's name take the other members.
use Rattle.std.proofs.Common.{◌≡◌, Bool, true, false, cond, List, [], ◌∷◌, ◌++◌, Option, Some, None, refl, sym, subst}
use Rattle.std.specs.Prelude.{◌↔◌, option_and_then, bytes_eq}
use Rattle.miniserde_model.specs.Tree.{Tree, Members, no_members, member}
use Rattle.miniserde_read.specs.types.Objects.{Name, after_members}
use Rattle.miniserde_record.specs.Fields.{other_members}
use Rattle.miniserde_record.specs.laws.Left.{left, left-append}

-- if `taken` is `None` for each refused member, a member that is refused and not skipped gives `None`
pub beside-refused : {A : Type 0} {refuses : Bool} {taken : Option A} (b : Bool) (skipped : Option A) → (refuses ≡ true → taken ≡ None)
    → cond b false refuses ≡ true → cond b skipped taken ≡ None
beside-refused true skipped f h = absurd (cc)
beside-refused false skipped f h = f h

module _ {S D : Type 0} (tag : Name) (next : S → Name → Tree → Option S) (end : S → Option D) where
  pub beside-apart : (s : S) (ms : Members)
      → option_and_then end (after_members (λ s k t. cond (bytes_eq k tag) (Some s) (next s k t)) s ms)
      ≡ option_and_then end (after_members next s (other_members tag ms))
  beside-apart s no_members = refl
  beside-apart s (member k t ms) =
      let skip : S → Name → Tree → Option S = λ s k t. cond (bytes_eq k tag) (Some s) (next s k t) in
      elim (bytes_eq k tag) as (λ b.
      option_and_then end (option_and_then (λ r. after_members skip r ms) (cond b (Some s) (next s k t)))
      ≡ option_and_then end (after_members next s
      (cond b (other_members tag ms) (member k t (other_members tag ms))))) [
        | true ↦ beside-apart s ms
        | false ↦ elim (next s k t)
            as (λ o. option_and_then end (option_and_then (λ r. after_members skip r ms) o) ≡ option_and_then end
            (option_and_then (λ r. after_members next r (other_members tag ms)) o))
            [ None ↦ refl | Some r ↦ beside-apart r ms ]
      ]

-- what is said of the members that the names and the tag leave is said of those that the tag leaves of the names' rest
pub beside-given : {P : Type 0} (tag : Name) (before : List Name) (ms : Members) (says : Members → Type 0)
    → P ↔ says (left (before ++ tag ∷ []) ms) → P ↔ says (other_members tag (left before ms))
beside-given tag before ms says r = let e = left-append before tag ms in (λ h. subst says e (r.0 h), λ h. r.1 (subst says (sym e) h))
