-- A tree is an internally tagged variant by `IsInternal` exactly if `internal_variant` returns its name and data.
use Rattle.std.proofs.Common.{◌≡◌, false, List, Option, Some, None, refl, sym, ap, ◌∙◌}
use Rattle.std.specs.Prelude.{◌↔◌, ℕ, option_map, option_and_then}
use Rattle.std.specs.Option.{option_or}
use Rattle.std.proofs.lemmas.Option.{same_Some}
use Rattle.miniserde_model.specs.Tree.{Tree, str, members, Members}
use Rattle.miniserde_read.specs.Meaning.{Meaning}
use Rattle.miniserde_read.specs.Meanings.{string_meaning}
use Rattle.miniserde_read.specs.types.Objects.{Name}
use Rattle.miniserde_read.specs.types.Words.{string_of}
use Rattle.miniserde_record.specs.Fields.{other_members, last_content, LastMemberReads}
use Rattle.miniserde_record.specs.laws.Meanings.{read-given, given-read}
use Rattle.miniserde_enum.specs.Internal.{IsInternal, tag_of, internal_variant}

-- the name of a variant, and its data if it has any
abbrev Found : Type 0
Found = Name × Option Tree

-- the meaning of a name: the string of a name means it
abbrev names : Meaning (List ℕ)
names = string_meaning (λ s. s)

no-default : (n : Name) → ⊥ ↔ (◌≡◌ {A = Option Name} None (Some n))
no-default n = (λ h. absurd h, λ e. absurd (cc))

or-none : (o : Option Name) → option_or o None ≡ o
or-none None = refl
or-none (Some n) = refl

flat : (o : Option (Option Name)) → option_and_then (λ o. option_or o None) o ≡ option_and_then (λ o. o) o
flat None = refl
flat (Some o) = or-none o

-- each member of the tag's name is a string and the last one is n, exactly if `tag_of` returns n
pub tag-agrees : (tag n : Name) (ms : Members) → LastMemberReads ⊥ (λ t. t ≡ str n) string_of tag ms ↔ (tag_of tag ms ≡ Some n)
tag-agrees tag n ms =
    let o = last_content false string_of tag None ms in (
      λ h. sym (flat o) ∙ read-given names None (λ _. ⊥) no-default false tag ms n h,
      λ e. given-read names None (λ _. ⊥) no-default false tag ms n (flat o ∙ e),
    )

tagged : (o : Option Name) (u v : Tree) (n : Name) → ◌≡◌ {A = Option Found} (option_map (λ n. (n, Some u)) o)
    (Some (n, Some v)) → (o ≡ Some n) × (v ≡ u)
tagged None u v n e = absurd (cc)
tagged (Some k) u v n e =
    let p = same_Some _ _ e in
    (ap (λ z. Some z.0) p, same_Some _ _ (sym (ap (λ z. z.1) p)))

no-data : (o : Option Name) (u : Tree) (n : Name) → ◌≡◌ {A = Option Found} (option_map (λ n. (n, Some u)) o) (Some (n, None)) → ⊥
no-data None u n e = cc
no-data (Some k) u n e = let i = ap (λ z. z.1) (same_Some _ _ e) in cc

-- t is the internally tagged variant of the name n and the data o exactly if `internal_variant` returns n and o
pub internal-agrees : (tag : Name) (t : Tree) (n : Name) (o : Option Tree) → IsInternal tag t n o ↔ (internal_variant tag t ≡ Some (n, o))
internal-agrees tag (members ms) n None = (λ h. absurd h, λ e. absurd (no-data (tag_of tag ms) (members (other_members tag ms)) n e))
internal-agrees tag (members ms) n (Some u) =
    let is = tag-agrees tag n ms in (
      λ h. rw (is.0 h.0, h.1) refl,
      λ e. let p = tagged (tag_of tag ms) (members (other_members tag ms)) u n e in (is.1 p.0, p.1),
    )
internal-agrees tag t n o = (λ h. absurd h, λ e. absurd (cc))
