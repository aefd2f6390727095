-- Lists that are written alike have items that count as the same.
use Rattle.std.proofs.Common.{◌≡◌, List, [], ◌∷◌, map, refl}
use Rattle.std.specs.List.{AllByRecursion}
use Rattle.miniserde_model.specs.Tree.{Tree, list}
use Rattle.miniserde_ser.specs.Trees.{trees_of}
use Rattle.miniserde_laws.specs.RoundTrip.{IsLossless}

-- by the law of the type of the items
module _ {T C : Type 0} (valid : T → Type 0) (f : T → Tree) (content : T → C)
    (lossless : IsLossless valid f content) where
  one_each : (xs ys : List T) → AllByRecursion valid xs → AllByRecursion valid ys → trees_of f xs ≡ trees_of f ys
      → map content xs ≡ map content ys
  one_each [] [] p q e = refl
  one_each [] (y ∷ ys) p q e = cc
  one_each (x ∷ xs) [] p q e = cc
  one_each (x ∷ xs) (y ∷ ys) p q e =
      let first : f x ≡ f y = cc in
      let rest : trees_of f xs ≡ trees_of f ys = cc in
      rw (lossless x y p.0 q.0 first, one_each xs ys p.1 q.1 rest) refl

  pub one_list : (xs ys : List T) → AllByRecursion valid xs → AllByRecursion valid ys
      → list (trees_of f xs) ≡ list (trees_of f ys) → map content xs ≡ map content ys
  one_list xs ys p q e = let same : trees_of f xs ≡ trees_of f ys = cc in one_each xs ys p q same
