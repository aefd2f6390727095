-- If a tree has a content, its normal form has the same content, for the types of std that are one token, and for
-- values that are skipped. By cases on the tree (`stable-by`), as the normal form changes only negated zeros, lists and
-- members.
use Rattle.std.proofs.Common.{◌≡◌, ℕ, ℤ, pos, negsuc, Option, Some, refl}
use Rattle.miniserde_model.specs.Tree.{Tree, null, truth, nonneg, neg, num, str, list, members, Trees, Members}
use Rattle.miniserde_model.specs.Normal.{norm, norm_neg, norm_children, norm_members}
use Rattle.miniserde_read.specs.types.Words.{unit_of, boolean_of, string_of}
use Rattle.miniserde_read.specs.types.Integers.{unsigned_of, signed_of}
use Rattle.miniserde_stored.specs.Stable.{IsStable}

-- the normal form changes nothing but a zero with a minus, lists and members
pub stable-by : {C : Type 0} (of : Tree → Option C)
    → ((z : ℤ) (c : C) → of (neg z) ≡ Some c → of (norm_neg z) ≡ Some c)
    → ((ts : Trees) (c : C) → of (list ts) ≡ Some c → of (list (norm_children ts)) ≡ Some c)
    → ((ms : Members) (c : C) → of (members ms) ≡ Some c → of (members (norm_members ms)) ≡ Some c) → IsStable of
stable-by of n l m null c e = e
stable-by of n l m (truth b) c e = e
stable-by of n l m (nonneg k) c e = e
stable-by of n l m (neg z) c e = n z c e
stable-by of n l m (num x) c e = e
stable-by of n l m (str s) c e = e
stable-by of n l m (list ts) c e = l ts c e
stable-by of n l m (members ms) c e = m ms c e

-- the content of the unit is stable
pub stable-unit : IsStable unit_of
stable-unit = stable-by unit_of (λ z c e. absurd (cc)) (λ ts c e. e) (λ ms c e. e)

-- the content of a boolean is stable
pub stable-boolean : IsStable boolean_of
stable-boolean = stable-by boolean_of (λ z c e. absurd (cc)) (λ ts c e. e) (λ ms c e. e)

-- the content of a string is stable
pub stable-string : IsStable string_of
stable-string = stable-by string_of (λ z c e. absurd (cc)) (λ ts c e. e) (λ ms c e. e)

-- the content of an unsigned integer of so many bits is stable
pub stable-unsigned : (bits : ℕ) → IsStable (unsigned_of bits)
stable-unsigned bits = stable-by (unsigned_of bits) (λ z c e. absurd (cc)) (λ ts c e. e) (λ ms c e. e)

signed-neg : (bits : ℕ) (z c : ℤ) → signed_of bits (neg z) ≡ Some c → signed_of bits (norm_neg z) ≡ Some c
signed-neg bits (pos n) c e = e
signed-neg bits (negsuc n) c e = e

-- the content of a signed integer of so many bits is stable
pub stable-signed : (bits : ℕ) → IsStable (signed_of bits)
stable-signed bits = stable-by (signed_of bits) (signed-neg bits) (λ ts c e. e) (λ ms c e. e)

-- every tree gives the content of a value that is skipped
pub stable-ignored : {C : Type 0} (c : C) → IsStable (λ _. Some c)
stable-ignored c t d e = e
