-- An integer's tree gives the number that it means.
use Rattle.std.proofs.Common.{◌≡◌, ◌<◌, ◌^◌, ℕ, ℤ, pos, Bool, true, false, cond, Some, None, nat_lt, refl, sym, ap, subst, ltb-true, arith}
use Rattle.std.specs.Prelude.{◌↔◌, negsuc, Result, OkIff, MatchResult, FitsSigned}
use Rattle.std.specs.Bool.{Decides}
use Rattle.std.proofs.lemmas.Bool.Decides.{nat_tests, Decides-like, Decides-ltb}
use mir.Syntax.{Width}
use mir.Val.{hbits}
use Rattle.miniserde_keys.specs.laws.Bits.{HasBits}
use Rattle.miniserde_keys.specs.laws.Keys.{as_read, reads_if}
use Rattle.miniserde_model.specs.Tree.{Tree, null, truth, nonneg, neg, num, str, list, members}
use Rattle.miniserde_read.specs.types.Integers.{fits_signed, unsigned_of, signed_of, ReadsUnsigned, ReadsSigned}

some_if : (b : Bool) (x y : ℤ) → cond b (Some x) None ≡ Some y → (b ≡ true) × (x ≡ y)
some_if true x y e = (refl, cc)
some_if false x y e = cc

module _ (bits : ℕ) where
  fitting : (y z : ℤ) → y ≡ z → fits_signed bits z ≡ true → cond (fits_signed bits y) (Some y) None ≡ Some z
  fitting y z e h = subst (λ x. cond (fits_signed bits x) (Some x) None ≡ Some z) (sym e) (ap (λ b. cond b (Some z) None) h)

  reads_unsigned : (t : Tree) (n : ℕ) → ReadsUnsigned bits t n → unsigned_of bits t ≡ Some (pos n)
  reads_unsigned t n h =
      let fits : nat_lt n (2 ^ bits) ≡ true = grind (arith, nat_tests, h.1) in
      rw (h.0, fits) refl

  unsigned_reads : (t : Tree) (n : ℕ) → unsigned_of bits t ≡ Some (pos n) → ReadsUnsigned bits t n
  unsigned_reads null n e = absurd (cc)
  unsigned_reads (truth b) n e = absurd (cc)
  unsigned_reads (nonneg m) n e =
      let p = some_if (nat_lt m (2 ^ bits)) (pos m) (pos n) e in
      let same : m ≡ n = cc (p.1) in
      (ap nonneg same, subst (λ k. k < 2 ^ bits) same (ltb-true m (2 ^ bits) p.0))
  unsigned_reads (neg m) n e = absurd (cc)
  unsigned_reads (num x) n e = absurd (cc)
  unsigned_reads (str s) n e = absurd (cc)
  unsigned_reads (list ts) n e = absurd (cc)
  unsigned_reads (members ms) n e = absurd (cc)

  pub unsigned-given : (t : Tree) (n : ℕ) → ReadsUnsigned bits t n ↔ (unsigned_of bits t ≡ Some (pos n))
  unsigned-given t n = (reads_unsigned t n, unsigned_reads t n)

  reads_signed : (t : Tree) (z : ℤ) → ReadsSigned bits t z → signed_of bits t ≡ Some z
  reads_signed null z h = absurd h
  reads_signed (truth b) z h = absurd h
  reads_signed (nonneg n) z h = fitting (pos n) z h.0 h.1
  reads_signed (neg m) z h = fitting m z h.0 h.1
  reads_signed (num x) z h = absurd h
  reads_signed (str s) z h = absurd h
  reads_signed (list ts) z h = absurd h
  reads_signed (members ms) z h = absurd h

  signed_reads : (t : Tree) (z : ℤ) → signed_of bits t ≡ Some z → ReadsSigned bits t z
  signed_reads null z e = absurd (cc)
  signed_reads (truth b) z e = absurd (cc)
  signed_reads (nonneg n) z e = let p = some_if (fits_signed bits (pos n)) (pos n) z e in
      (p.1, subst (λ y. fits_signed bits y ≡ true) p.1 p.0)
  signed_reads (neg m) z e = let p = some_if (fits_signed bits m) m z e in (p.1, subst (λ y. fits_signed bits y ≡ true) p.1 p.0)
  signed_reads (num x) z e = absurd (cc)
  signed_reads (str s) z e = absurd (cc)
  signed_reads (list ts) z e = absurd (cc)
  signed_reads (members ms) z e = absurd (cc)

  pub signed-given : (t : Tree) (z : ℤ) → ReadsSigned bits t z ↔ (signed_of bits t ≡ Some z)
  signed-given t z = (reads_signed t z, signed_reads t z)

-- ---- what std's `try_from` returns is what the tree means

unsigned_decides : (bits n : ℕ) → Decides (nat_lt n (2 ^ bits)) (n < 2 ^ bits)
unsigned_decides bits n = Decides-ltb n (2 ^ bits)

signed_decides : {bits : ℕ} {w : Width} → HasBits w bits → (z : ℤ) → Decides (fits_signed bits z) (FitsSigned w z)
signed_decides {w = w} has (pos n) =
    rw (sym has.besides_sign) (Decides-like _ (λ h. record { sfits = h }) (λ f. f.sfits) (Decides-ltb n (2 ^ hbits w)))
signed_decides {w = w} has (negsuc n) =
    rw (sym has.besides_sign) (Decides-like _ (λ h. record { sfits = h }) (λ f. f.sfits) (Decides-ltb n (2 ^ hbits w)))

-- an unsigned type takes a number without a minus as `try_from` does
pub unsigned-gives : {E : Type 0} (bits n : ℕ) (r : Result ℕ E) → OkIff r (n < 2 ^ bits) n
    → MatchResult r (λ v. unsigned_of bits (nonneg n) ≡ Some (pos v)) (λ _. unsigned_of bits (nonneg n) ≡ None)
unsigned-gives bits n r gives = as_read (λ v. pos v) r (reads_if _ _ (unsigned_decides bits n)) gives

-- a signed type takes a number without a minus as `try_from` does
pub signed-gives : {E : Type 0} {bits : ℕ} {w : Width} → HasBits w bits → (n : ℕ) (r : Result ℤ E)
    → OkIff r (FitsSigned w (pos n)) (pos n)
    → MatchResult r (λ v. signed_of bits (nonneg n) ≡ Some v) (λ _. signed_of bits (nonneg n) ≡ None)
signed-gives has n r gives = as_read (λ v. v) r (reads_if _ _ (signed_decides has (pos n))) gives

-- and so it takes a number with a minus
pub signed-minus_gives : {E : Type 0} {bits : ℕ} {w : Width} → HasBits w bits → (z : ℤ) (r : Result ℤ E)
    → OkIff r (FitsSigned w z) z
    → MatchResult r (λ v. signed_of bits (neg z) ≡ Some v) (λ _. signed_of bits (neg z) ≡ None)
signed-minus_gives has z r gives = as_read (λ v. v) r (reads_if _ _ (signed_decides has z)) gives
