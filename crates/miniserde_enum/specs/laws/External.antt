-- A tree is an externally tagged variant by `IsExternal` exactly if `external_variant` returns its name and data.
use Rattle.std.proofs.Common.{◌≡◌, Option, Some, None, refl, ap}
use Rattle.std.specs.Prelude.{◌↔◌}
use Rattle.std.proofs.lemmas.Option.{same_Some}
use Rattle.miniserde_model.specs.Tree.{Tree, str, members, no_members, member}
use Rattle.miniserde_read.specs.types.Objects.{Name}
use Rattle.miniserde_enum.specs.External.{IsExternal, external_variant}

-- the name of a variant, and its data if it has any
abbrev Found : Type 0
Found = Name × Option Tree

str-agrees : (k n : Name) (o : Option Tree) → IsExternal (str k) n o ↔ (◌≡◌ {A = Option Found} (Some (k, None)) (Some (n, o)))
str-agrees k n None = (
  λ e. let i : k ≡ n = cc in ap (λ z. Some (z, None)) i,
  λ e. ap (λ z. str z.0) (same_Some _ _ e),
)
str-agrees k n (Some u) = (λ e. absurd (cc), λ e. let i = ap (λ z. z.1) (same_Some _ _ e) in absurd (cc))

member-agrees : (k n : Name) (t : Tree) (o : Option Tree) → IsExternal (members (member k t no_members)) n o
    ↔ (◌≡◌ {A = Option Found} (Some (k, Some t)) (Some (n, o)))
member-agrees k n t None = (λ e. absurd (cc), λ e. let i = ap (λ z. z.1) (same_Some _ _ e) in absurd (cc))
member-agrees k n t (Some u) = (
  λ e. let i : k ≡ n = cc in let j : t ≡ u = cc in rw (i, j) refl,
  λ e.
      let p = same_Some _ _ e in
      let i : k ≡ n = ap (λ z. z.0) p in
      let j : t ≡ u = same_Some _ _ (ap (λ z. z.1) p) in
      rw (i, j) refl,
)

other-agrees : (t : Tree) (n : Name) (o : Option Tree) → ((k : Name) → t ≡ str k → ⊥)
    → ((k : Name) (u : Tree) → t ≡ members (member k u no_members) → ⊥) → IsExternal t n o
    ↔ (◌≡◌ {A = Option Found} None (Some (n, o)))
other-agrees t n None s m = (λ e. absurd (s n e), λ e. absurd (cc))
other-agrees t n (Some u) s m = (λ e. absurd (m n u e), λ e. absurd (cc))

-- t is the externally tagged variant of the name n and the data o exactly if `external_variant` returns n and o
pub external-agrees : (t : Tree) (n : Name) (o : Option Tree) → IsExternal t n o ↔ (external_variant t ≡ Some (n, o))
external-agrees (str k) n o = str-agrees k n o
external-agrees (members (member k t no_members)) n o = member-agrees k n t o
external-agrees t n o = other-agrees t n o (λ k e. cc) (λ k u e. cc)
