-- Names behind names, as those of the fields behind the further names: both are the names that are taken.
use Rattle.std.proofs.Common.{◌≡◌, true, false, ◌||◌, List, [], ◌∷◌, ◌++◌, refl}
use Rattle.std.specs.Prelude.{bytes_eq}
use Rattle.miniserde_read.specs.types.Objects.{Name}
use Rattle.miniserde_record.specs.Marks.{is_among}

-- a field's name is taken
pub named : (fs ns : List Name) (k : Name) → is_among ns k ≡ true → is_among (fs ++ ns) k ≡ true
named [] ns k h = h
named (f ∷ fs) ns k h = elim (bytes_eq k f) as (λ b. (b || is_among (fs ++ ns) k) ≡ true) [ true ↦ refl | false ↦ named fs ns k h ]

-- a name that is no field's is taken exactly if it is a further name
pub further_only : (fs ns : List Name) (k : Name) → is_among ns k ≡ false → is_among (fs ++ ns) k ≡ is_among fs k
further_only [] ns k h = h
further_only (f ∷ fs) ns k h = elim (bytes_eq k f) as (λ b. (b || is_among (fs ++ ns) k) ≡ (b || is_among fs k))
    [ true ↦ refl | false ↦ further_only fs ns k h ]

-- a name that is not taken is no field's
pub not_named : (fs ns : List Name) (k : Name) → is_among (fs ++ ns) k ≡ false → is_among ns k ≡ false
not_named [] ns k h = h
not_named (f ∷ fs) ns k h = elim (bytes_eq k f) as (λ b. (b || is_among (fs ++ ns) k) ≡ false → is_among ns k ≡ false)
    [ true ↦ λ h. absurd (cc) | false ↦ λ h. not_named fs ns k h ] h

-- nor a further name
pub not_further : (fs ns : List Name) (k : Name) → is_among (fs ++ ns) k ≡ false → is_among fs k ≡ false
not_further [] ns k h = refl
not_further (f ∷ fs) ns k h = elim (bytes_eq k f) as (λ b. (b || is_among (fs ++ ns) k) ≡ false → (b || is_among fs k) ≡ false)
    [ true ↦ λ h. absurd (cc) | false ↦ λ h. not_further fs ns k h ] h

-- a further name is taken
pub front : (fs ns : List Name) (k : Name) → is_among fs k ≡ true → is_among (fs ++ ns) k ≡ true
front [] ns k h = absurd (cc)
front (f ∷ fs) ns k h = elim (bytes_eq k f) as (λ b. (b || is_among fs k) ≡ true → (b || is_among (fs ++ ns) k) ≡ true)
    [ true ↦ λ h. refl | false ↦ λ h. front fs ns k h ] h

-- a name that is none of those in front is one of all exactly if it is one of those behind
pub behind_only : (fs ns : List Name) (k : Name) → is_among fs k ≡ false → is_among (fs ++ ns) k ≡ is_among ns k
behind_only [] ns k h = refl
behind_only (f ∷ fs) ns k h = elim (bytes_eq k f) as (λ b. (b || is_among fs k) ≡ false → (b || is_among (fs ++ ns) k) ≡ is_among ns k)
    [ true ↦ λ h. absurd (cc) | false ↦ λ h. behind_only fs ns k h ] h
