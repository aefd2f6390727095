-- If the keys of some entries have distinct codes, the entry at a code is the only one with that code, whatever the
-- order of the entries. By recursion over the entries (`found`, `at-contained`), which together give the result for a
-- permutation (`at-permuted`).
use Rattle.std.proofs.Common.{◌≡◌, zero, suc, Bool, true, false, cond, List, [], ◌∷◌, Some, None, refl, sym, ap}
use Rattle.std.proofs.Common.{◌∙◌, subst, inl, inr, arith}
use Rattle.std.specs.Prelude.{◌⊎◌, bytes_eq, Contains}
use Rattle.std.specs.Map.{keys_of}
use Rattle.std.specs.List.{AllByRecursion, IsDistinct}
use Rattle.std.specs.List.Sorted.{IsPermutation}
use Rattle.std.proofs.lemmas.Option.{same_Some}
use Rattle.std.proofs.lemmas.List.Sorted.{Contains-permutation, IsPermutation-sym, IsPermutation-map}
use Rattle.std.proofs.lemmas.Map.{NonePasses}
use Rattle.std.proofs.lemmas.Map.Keys.{IsDistinct-IsPermutation}
use Rattle.std.proofs.lemmas.Slice.Eq.{bytes_eq-Decides}
use Rattle.miniserde_keys.specs.Keys.{Key}
use Rattle.miniserde_text.proofs.Equal.{bytes_eq-flips}
use Rattle.miniserde_read.specs.types.Maps.{entry_at}

-- if the test of equality holds for two codes, they are equal
pub equal_if_tested : (a b : Key) → bytes_eq a b ≡ true → a ≡ b
equal_if_tested a b h = (bytes_eq-Decides a b).0 h

-- the test of equality holds for equal codes
pub tested_if_equal : (a b : Key) → a ≡ b → bytes_eq a b ≡ true
tested_if_equal a b h = (bytes_eq-Decides a b).1 h

-- an element of a list is its first or one of the others
pub contains-cases : {X : Type 0} (y x : X) (xs : List X) → Contains (y ∷ xs) x → (y ≡ x) ⊎ Contains xs x
contains-cases y x xs (zero, h, e) = inl e
contains-cases y x xs (suc k, h, e) = inr (k, omega arith, e)

-- a list contains its first element
pub contains-first : {X : Type 0} (x : X) (xs : List X) → Contains (x ∷ xs) x
contains-first x xs = (0, omega arith, refl)

-- a list contains each element of its tail
pub contains-later : {X : Type 0} (y x : X) (xs : List X) → Contains xs x → Contains (y ∷ xs) x
contains-later y x xs (k, h, e) = (suc k, omega arith, e)

-- two keys have one code
abbrev pub same : {K : Type 0} → (K → Key) → K → K → Bool
same code a b = bytes_eq (code a) (code b)

module _ {K V : Type 0} (code : K → Key) where
  of-contained : (P : K → Type 0) (es : List (K × V)) (e : K × V) → AllByRecursion P (keys_of es) → Contains es e → P e.0
  of-contained P [] e a c = absurd (omega (arith, c.1))
  of-contained P (f ∷ es) e a c = elim (contains-cases f e es c) as (λ _. P e.0) [
    | inl s ↦ subst (λ z. P z.0) s a.0
    | inr d ↦ of-contained P es e a.1 d
  ]

  pub found : (q : Key) (es : List (K × V)) (e : K × V) → entry_at code q es ≡ Some e → Contains es e × (code e.0 ≡ q)
  found q [] e h = absurd (cc)
  found q (f ∷ es) e h = elim (bytes_eq (code f.0) q)
      as (λ b. bytes_eq (code f.0) q ≡ b → cond b (Some f) (entry_at code q es) ≡ Some e → Contains (f ∷ es) e
      × (code e.0 ≡ q)) [
        | true ↦ λ b g. let s : f ≡ e = same_Some f e g in
            (subst (Contains (f ∷ es)) s (contains-first f es), subst (λ z. code z.0 ≡ q) s (equal_if_tested _ _ b))
        | false ↦ λ b g. let r = found q es e g in (contains-later f e es r.0, r.1)
      ] refl h

  pub at-contained : (q : Key) (es : List (K × V)) (e : K × V) → IsDistinct (same code) (keys_of es) → Contains es e
      → code e.0 ≡ q → entry_at code q es ≡ Some e
  unfolding IsDistinct
  at-contained q [] e d c h = absurd (omega (arith, c.1))
  at-contained q (f ∷ es) e d c h = elim (contains-cases f e es c) as (λ _. entry_at code q (f ∷ es) ≡ Some e) [
    | inl s ↦ rw (tested_if_equal (code f.0) q (ap (λ z. code z.0) s ∙ h)) (ap Some s)
    | inr r ↦
        let apart : bytes_eq (code f.0) (code e.0) ≡ false = of-contained (λ k. bytes_eq (code f.0) (code k) ≡ false) es e d.0 r in
        let no : bytes_eq (code f.0) q ≡ false = subst (λ z. bytes_eq (code f.0) z ≡ false) h apart in
        rw no (at-contained q es e d.1 r h)
  ]

  -- no key has the code
  pub none-at : (test : K → Bool) (q : Key) → ((k : K) → test k ≡ bytes_eq (code k) q) → (es : List (K × V))
      → NonePasses test es → entry_at code q es ≡ None
  none-at test q s [] a = refl
  none-at test q s (e ∷ es) a = let no : bytes_eq (code e.0) q ≡ false = sym (s e.0) ∙ a.0 in rw no (none-at test q s es a.1)

  -- the order of the entries doesn't count
  pub at-permuted : (q : Key) (es fs : List (K × V)) → IsPermutation es fs → IsDistinct (same code) (keys_of es)
      → entry_at code q fs ≡ entry_at code q es
  at-permuted q es fs p d =
      let d' : IsDistinct (same code) (keys_of fs) =
      IsDistinct-IsPermutation (same code) (λ x y. bytes_eq-flips (code x) (code y)) (keys_of es) (keys_of fs)
      (IsPermutation-map (λ e. e.0) es fs p) d in
      elim (entry_at code q es) as (λ o. entry_at code q es ≡ o → entry_at code q fs ≡ o) [
        | Some e ↦ λ h. let r = found q es e h in at-contained q fs e d' (Contains-permutation es fs e p r.0) r.1
        | None ↦ λ h. elim (entry_at code q fs) as (λ o. entry_at code q fs ≡ o → o ≡ None) [
          | None ↦ λ g. refl
          | Some e ↦ λ g. let r = found q fs e g in
              absurd (cc (
                h,
                at-contained q es e d (Contains-permutation fs es e (IsPermutation-sym es fs p) r.0)
                    r.1,
              ))
        ] refl
      ] refl
