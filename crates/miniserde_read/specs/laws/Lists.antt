-- A list's tree gives the list of what its children mean.
use Rattle.std.proofs.Common.{◌≡◌, List, [], ◌∷◌, Option, Some, None, refl, ap, ◌∙◌, map}
use Rattle.std.specs.Prelude.{◌↔◌, option_and_then}
use Rattle.miniserde_model.specs.Tree.{Tree, null, truth, nonneg, neg, num, str, list, members, Trees, no_trees, tree}
use Rattle.miniserde_read.specs.types.Lists.{EachReads, ListReads, each, list_of}

module _ {T C : Type 0} (R : Tree → T → Type 0) (of : Tree → Option C) (content : T → C)
    (given : (t : Tree) (v : T) → R t v ↔ (of t ≡ Some (content v))) where
  each-given : (ts : Trees) (xs : List T) → EachReads R ts xs → each of ts ≡ Some (map content xs)
  each-given no_trees [] h = refl
  each-given no_trees (x ∷ xs) h = absurd h
  each-given (tree t ts) [] h = absurd h
  each-given (tree t ts) (x ∷ xs) h = rw ((given t x).0 h.0, each-given ts xs h.1) refl

  given-each : (ts : Trees) (xs : List T) → each of ts ≡ Some (map content xs) → EachReads R ts xs
  given-each no_trees [] h = tt
  given-each no_trees (x ∷ xs) h = absurd (cc)
  given-each (tree t ts) xs h =
      elim (of t) as (λ o. of t ≡ o → option_and_then (λ x. option_and_then (λ ys. Some (x ∷ ys)) (each of ts)) o
      ≡ Some (map content xs) → EachReads R (tree t ts) xs) [
        | None ↦ λ e k. absurd (cc)
        | Some c ↦ λ e. elim (each of ts)
            as (λ o. each of ts ≡ o → option_and_then (λ ys. Some (c ∷ ys)) o ≡ Some (map content xs)
            → EachReads R (tree t ts) xs) [
              | None ↦ λ f k. absurd (cc)
              | Some cs ↦ λ f. elim xs as (λ ys. Some (c ∷ cs) ≡ Some (map content ys) → EachReads R (tree t ts) ys) [
                | [] ↦ λ k. absurd (cc)
                | y ∷ ys ↦ λ k.
                    let a : c ≡ content y = cc in
                    let b : cs ≡ map content ys = cc in
                    ((given t y).1 (e ∙ ap Some a), given-each ts ys (f ∙ ap Some b))
              ]
            ] refl
      ] refl h

  pub list-given : (t : Tree) (xs : List T) → ListReads R t xs ↔ (list_of of t ≡ Some (map content xs))
  list-given null xs = (λ h. absurd h, λ h. absurd (cc))
  list-given (truth b) xs = (λ h. absurd h, λ h. absurd (cc))
  list-given (nonneg n) xs = (λ h. absurd h, λ h. absurd (cc))
  list-given (neg n) xs = (λ h. absurd h, λ h. absurd (cc))
  list-given (num x) xs = (λ h. absurd h, λ h. absurd (cc))
  list-given (str s) xs = (λ h. absurd h, λ h. absurd (cc))
  list-given (members ms) xs = (λ h. absurd h, λ h. absurd (cc))
  list-given (list ts) xs = (each-given ts xs, given-each ts xs)
