-- Lists that are read element by element: what holds of the pairs so far, and of one more.
use Rattle.std.proofs.Common.{◌≡◌, ◌<◌, ◌≤◌, ◌+◌, ℕ, List, [], ◌∷◌, ◌++◌, length, map, take, sym, ap, subst, ◌∙◌}
use Rattle.std.specs.List.{AllZip, slice_index_or}
use Rattle.std.proofs.lemmas.List.{map_more, take_all}

module _ {X Y Z : Type 0} (f : X → Z) (R : Z → Y → Type 0) where
  zip_push : (zs : List Z) (ys : List Y) (z : Z) (y : Y) → AllZip R zs ys → R z y → AllZip R (zs ++ z ∷ []) (ys ++ y ∷ [])
  zip_push [] [] z y all more = (more, tt)
  zip_push [] (w ∷ ys) z y all more = absurd all
  zip_push (v ∷ zs) [] z y all more = absurd all
  zip_push (v ∷ zs) (w ∷ ys) z y all more = (all.0, zip_push zs ys z y all.1 more)

  -- one more element was read
  pub zip_more : (xs : List X) (i : ℕ) (x : X) (ys : List Y) (y : Y) → i < length xs → x ≡ slice_index_or xs i x
      → AllZip R (map f (take i xs)) ys → R (f x) y → AllZip R (map f (take (i + 1) xs)) (ys ++ y ∷ [])
  zip_more xs i x ys y low is all more =
      subst (λ zs. AllZip R zs (ys ++ y ∷ [])) (sym (map_more f xs i x low)) (zip_push _ ys _ y all (subst (λ z. R (f z) y) is more))

-- a loop that has come to the end has read all
pub read_all : {X Z : Type 0} (f : X → Z) (xs ys : List X) (i : ℕ) (zs : List Z) → ys ≡ xs → length ys ≤ i → map f (take i ys) ≡ zs
    → map f xs ≡ zs
read_all f xs ys i zs same end all = ap (map f) (sym same ∙ sym (take_all i ys end)) ∙ all
