-- Members that are written by distinct names.
use Rattle.std.proofs.Common.{◌≡◌, Bool, true, false, not, ◌&&◌, List, [], ◌∷◌, Option, Some, None, refl, ◌∙◌}
use Rattle.std.specs.Prelude.{bytes_eq}
use Rattle.std.proofs.lemmas.Slice.Eq.{bytes_eq-Decides}
use Rattle.miniserde_model.specs.Tree.{Tree, no_members}
use Rattle.miniserde_text.proofs.Equal.{bytes_eq-flips}
use Rattle.miniserde_read.specs.types.Objects.{Name}
use Rattle.miniserde_record.specs.Fields.{count_named}
use Rattle.miniserde_record.specs.Structs.{is_new, with_names, members_text}

-- a name is equal to itself
pub same : (n : Name) → bytes_eq n n ≡ true
same n = (bytes_eq-Decides n n).1 refl

-- both tests hold where their conjunction does
pub both : (a b : Bool) → (a && b) ≡ true → (a ≡ true) × (b ≡ true)
both true b h = (refl, h)
both false b h = absurd (cc)

-- a new name's test, at a name and the later ones
pub apart : (n k : Name) (ks : List Name) → is_new n (k ∷ ks) ≡ true → (bytes_eq k n ≡ false) × (is_new n ks ≡ true)
apart n k ks h =
    let p = both (not (bytes_eq n k)) (is_new n ks) h in
    (bytes_eq-flips k n ∙ elim (bytes_eq n k) as (λ b. not b ≡ true → b ≡ false) [ true ↦ λ e. absurd (cc) | false ↦ λ e. refl ] p.0, p.1)

-- of a new name no member counts
pub count_new : (n : Name) (ns : List Name) (ts : List (Option Tree)) → is_new n ns ≡ true → count_named n (with_names ns ts) ≡ 0
count_new n [] ts h = refl
count_new n (k ∷ ks) [] h = refl
count_new n (k ∷ ks) (None ∷ ts) h = count_new n ks ts (apart n k ks h).1
count_new n (k ∷ ks) (Some t ∷ ts) h = let p = apart n k ks h in rw p.0 (count_new n ks ts p.1)

-- without trees there are no members
pub with_names_none : (ns : List Name) → with_names ns [] ≡ no_members
with_names_none [] = refl
with_names_none (n ∷ ns) = refl

-- no members have no text
pub no_text : (first : Bool) → members_text first no_members ≡ []
no_text true = refl
no_text false = refl
