-- The content of a map with integer keys can change in normal form. `1` and `01` are two names of the key 1, and
-- sorting them changes which of them is the last: both contents are computed, and they differ.
use Rattle.std.proofs.Common.{◌≡◌, ℤ, pos, [], ◌∷◌, Option, Some, None, refl, sym, ap, ◌∙◌}
use Rattle.std.specs.Prelude.{option_and_then}
use Rattle.std.proofs.lemmas.Option.{same_Some}
use Rattle.miniserde_model.specs.Tree.{Tree, nonneg, Members, members, no_members, member}
use Rattle.miniserde_model.specs.Normal.{norm}
use Rattle.miniserde_keys.specs.Keys.{Key, of_nat, read_unsigned}
use Rattle.miniserde_read.specs.types.Integers.{unsigned_of}
use Rattle.miniserde_read.specs.types.Maps.{MapContent, map_of}
use Rattle.miniserde_stored.specs.Stable.{IsStable}

-- `1` and `01`
abbrev two_names : Members
two_names = member (49 ∷ []) (nonneg 1) (member (48 ∷ 49 ∷ []) (nonneg 2) no_members)

abbrev read : Tree → Option (MapContent ℤ)
read = map_of (read_unsigned 8) (λ c. c) (unsigned_of 8)

abbrev at_one : Option (MapContent ℤ) → Option (Key × ℤ)
at_one o = option_and_then (λ m. m (of_nat 1)) o

first : at_one (read (members two_names)) ≡ Some (of_nat 1, pos 2)
unfolding read_unsigned
first = refl

second : at_one (read (norm (members two_names))) ≡ Some (of_nat 1, pos 1)
unfolding read_unsigned
second = refl

taken : (o : Option (MapContent ℤ)) → at_one o ≡ Some (of_nat 1, pos 2) → (c : MapContent ℤ) × (o ≡ Some c)
taken None e = absurd (cc)
taken (Some c) e = (c, refl)

differ : ◌≡◌ {A = Option (Key × ℤ)} (Some (of_nat 1, pos 1)) (Some (of_nat 1, pos 2)) → ⊥
differ e = let one : ◌≡◌ {A = ℤ} (pos 1) (pos 2) = ap (λ z. z.1) (same_Some _ _ e) in absurd (cc)

-- the content of a map from 8-bit unsigned integers to 8-bit unsigned integers is not stable
pub unstable-map : IsStable (map_of (read_unsigned 8) (λ c. c) (unsigned_of 8)) → ⊥
unstable-map stable =
    let c = taken (read (members two_names)) first in
    let same = stable (members two_names) c.0 c.1 in
    differ (sym second ∙ ap at_one (same ∙ sym c.1) ∙ first)
