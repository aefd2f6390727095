-- A list gives an array of n items exactly if it gives n items. Each lemma is one exit of the loop that reads them, from
-- what the loop keeps (`ListGoes`).
use Rattle.std.proofs.Common.{◌≡◌, ℕ, ◌<◌, Bool, true, false, List, ◌∷◌, ◌++◌, length, map, nat_eq, Option, Some}
use Rattle.std.proofs.Common.{None, refl, ap, ◌∙◌, append-nil, arith}
use Rattle.std.specs.Prelude.{option_and_then, option_map}
use Rattle.std.proofs.lemmas.Bool.Decides.{nat_tests}
use Rattle.std.proofs.lemmas.List.{length-append, length-map}
use Rattle.miniserde_model.specs.Tree.{Tree, list, Trees, no_trees, tree}
use Rattle.miniserde_model.specs.Lexing.{Follows}
use Rattle.miniserde_model.specs.declared.kind.Kind.TheVariants.{Seq}
use Rattle.miniserde_read.specs.Items.{ItemsGiveAt, ItemsGiveNoneAt}
use Rattle.miniserde_read.specs.Meaning.{Meaning}
use Rattle.miniserde_read.specs.Rest.{ElementsAt}
use Rattle.miniserde_read.specs.types.Arrays.{exactly, array_of}
use Rattle.miniserde_read.specs.types.Lists.{each}
use Rattle.miniserde_read.specs.types.Tuples.{none_of}
use Rattle.miniserde_read.proofs.Lists.{ListGoes, closed_list_gives_no_other}

module _ {C : Type 0} (n : ℕ) where
  so_many : (xs : List C) → length xs ≡ n → exactly n xs ≡ Some xs
  so_many xs h = let b : nat_eq (length xs) n ≡ true = grind (arith, nat_tests) in rw b refl

  not_so_many : (xs : List C) → (length xs ≡ n → ⊥) → exactly n xs ≡ None
  not_so_many xs h = let b : nat_eq (length xs) n ≡ false = grind (arith, nat_tests) in rw b refl

  -- more elements, behind n items
  too_many : (of : Tree → Option C) (xs : List C) (us : Trees) → length xs ≡ n → none_of us ≡ None
      → option_and_then (exactly n) (option_map (λ ys. xs ++ ys) (each of us)) ≡ None
  too_many of xs no_trees l e = absurd (cc)
  too_many of xs (tree t us) l e =
      elim (of t) as (λ o. option_and_then (exactly n) (option_map (λ ys. xs ++ ys)
      (option_and_then (λ c. option_and_then (λ ys. Some (c ∷ ys)) (each of us)) o)) ≡ None) [
        | None ↦ refl
        | Some c ↦ elim (each of us) as (λ o. option_and_then (exactly n) (option_map (λ ys. xs ++ ys)
            (option_and_then (λ ys. Some (c ∷ ys)) o)) ≡ None) [
              | None ↦ refl
              | Some ys ↦ not_so_many (xs ++ c ∷ ys) (λ k. absurd (omega (arith, k, l, length-append xs (c ∷ ys))))
            ]
      ]

module _ {V : Type 0} (n : ℕ) {m : Meaning V} {begin : List ℕ} {f : Bool} {s : List ℕ} {items : List V}
    (g : ListGoes m begin f s items) where
  abbrev Rejected : Type 0
  Rejected = (ts : Trees) (r : List ℕ) → ElementsAt ts true begin r → array_of n m.from_tree (list ts) ≡ None

  -- the list ends behind fewer items
  pub array_short : (b : List ℕ) → length items < n → Follows Seq f true s b → Rejected
  array_short b l h ts r p = ap (option_and_then (exactly n)) (closed_list_gives_no_other b g h ts r p)
      ∙ not_so_many n (map m.content items) (λ k. absurd (omega (arith, k, l, length-map items m.content)))

  -- the list does not end behind n items
  pub array_long : length items ≡ n → ItemsGiveNoneAt none_of f s → Rejected
  array_long l h ts r p =
      let a = g.back ts r p in
      ap (option_and_then (exactly n)) a.2
      ∙ too_many n m.from_tree (map m.content items) a.0 (length-map items m.content ∙ l) (h a.0 r a.1)

  -- the list ends behind n items
  pub array_ends : (b : List ℕ) (c : Unit {0}) → length items ≡ n → ItemsGiveAt none_of f s b c
      → (ts : Trees) × ElementsAt ts true begin b × (array_of n m.from_tree (list ts) ≡ Some (map m.content items))
  array_ends b c l (no_trees, p, e) =
      let a = g.on no_trees b p in (
        a.0,
        a.1,
        ap (option_and_then (exactly n)) (a.2 ∙ ap Some (append-nil (map m.content items)))
            ∙ so_many n (map m.content items) (length-map items m.content ∙ l),
      )
  array_ends b c l (tree t us, p, e) = absurd (cc)
