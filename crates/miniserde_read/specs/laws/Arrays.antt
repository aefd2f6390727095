-- An array's tree gives the list of what its n children mean.
use Rattle.std.proofs.Common.{◌≡◌, ℕ, List, length, nat_eq, cond, true, false, Option, Some, None, refl, sym, ap, ◌∙◌, map, arith}
use Rattle.std.specs.Prelude.{◌↔◌, option_and_then}
use Rattle.std.proofs.lemmas.Bool.Decides.{nat_tests}
use Rattle.std.proofs.lemmas.List.{length-map}
use Rattle.miniserde_model.specs.Tree.{Tree}
use Rattle.miniserde_read.specs.types.Lists.{list_of}
use Rattle.miniserde_read.specs.laws.Lists.{list-given}
use Rattle.miniserde_read.specs.types.Arrays.{ArrayReads, exactly, array_of}

module _ {C : Type 0} (n : ℕ) where
  -- `exactly` returns a list of n items, and nothing for any other list
  exactly-some : (xs : List C) → length xs ≡ n → exactly n xs ≡ Some xs
  exactly-some xs e = let b : nat_eq (length xs) n ≡ true = grind (arith, nat_tests) in rw b refl

  some-exactly : (xs ys : List C) → exactly n xs ≡ Some ys → (xs ≡ ys) × (length ys ≡ n)
  some-exactly xs ys e =
      elim (nat_eq (length xs) n) as (λ b. nat_eq (length xs) n ≡ b → cond b (Some xs) None ≡ Some ys → (xs ≡ ys) × (length ys ≡ n)) [
        | true ↦ λ b h. let same : xs ≡ ys = cc in let len : length xs ≡ n = grind (arith, nat_tests) in (same, ap length (sym same) ∙ len)
        | false ↦ λ b h. absurd (cc)
      ] refl e

module _ {T C : Type 0} (n : ℕ) (R : Tree → T → Type 0) (of : Tree → Option C) (content : T → C)
    (given : (t : Tree) (v : T) → R t v ↔ (of t ≡ Some (content v))) where
  given-array : (t : Tree) (xs : List T) (o : Option (List C)) → list_of of t ≡ o
      → option_and_then (exactly n) o ≡ Some (map content xs) → ArrayReads n R t xs
  given-array t xs None e h = absurd (cc)
  given-array t xs (Some ys) e h =
      let p = some-exactly n ys (map content xs) h in
      ((list-given R of content given t xs).1 (e ∙ ap Some p.0), sym (length-map xs content) ∙ p.1)

  pub array-given : (t : Tree) (xs : List T) → ArrayReads n R t xs ↔ (array_of n of t ≡ Some (map content xs))
  array-given t xs = (
    λ h. rw ((list-given R of content given t xs).0 h.0) (exactly-some n (map content xs) (length-map xs content ∙ h.1)),
    given-array t xs (list_of of t) refl,
  )
