-- If a tree has a content, its normal form has the same content, for the containers of std except maps. By cases on the
-- tree (`stable-by`), from the type of the items. Leaves are in `specs/laws/Leaves.antt`.
use Rattle.std.proofs.Common.{◌≡◌, ℕ, List, ◌∷◌, Option, Some, None, refl, ap, ◌∙◌}
use Rattle.std.specs.Prelude.{option_map, option_and_then}
use Rattle.miniserde_model.specs.Tree.{Tree, null, truth, num, str, Trees, no_trees, tree, Members}
use Rattle.miniserde_model.specs.Normal.{norm, norm_children}
use Rattle.miniserde_read.specs.types.Lists.{each, list_of}
use Rattle.miniserde_read.specs.types.Arrays.{exactly, array_of}
use Rattle.miniserde_read.specs.types.Tuples.{none_of, item_of, tuple_of}
use Rattle.miniserde_stored.specs.Stable.{IsStable}
use Rattle.miniserde_stored.specs.laws.Leaves.{stable-by}

-- what is made of something that stays, stays
pub bound : {C D : Type 0} (o p : Option C) (g h : C → Option D) (d : D) → ((c : C) → o ≡ Some c → p ≡ Some c)
    → ((c : C) → g c ≡ Some d → h c ≡ Some d) → option_and_then g o ≡ Some d → option_and_then h p ≡ Some d
bound None p g h d k l e = absurd (cc)
bound (Some c) p g h d k l e = ap (option_and_then h) (k c refl) ∙ l c e

-- if p has the content of o whenever o has one, f of p is d whenever f of o is d
pub mapped : {C D : Type 0} (f : C → D) (o p : Option C) (d : D) → ((c : C) → o ≡ Some c → p ≡ Some c)
    → option_map f o ≡ Some d → option_map f p ≡ Some d
mapped f None p d k e = absurd (cc)
mapped f (Some c) p d k e = ap (option_map f) (k c refl) ∙ e

-- ---- containers, by the law of the type of their values

module _ {C : Type 0} (of : Tree → Option C) (stays : IsStable of) where
  stable-each : (ts : Trees) (cs : List C) → each of ts ≡ Some cs → each of (norm_children ts) ≡ Some cs
  stable-each no_trees cs e = e
  stable-each (tree t ts) cs e =
      bound (of t) (of (norm t)) (λ x. option_and_then (λ xs. Some (x ∷ xs)) (each of ts))
      (λ x. option_and_then (λ xs. Some (x ∷ xs)) (each of (norm_children ts))) cs (stays t)
      (λ x. bound (each of ts) (each of (norm_children ts)) (λ xs. Some (x ∷ xs)) (λ xs. Some (x ∷ xs)) cs (stable-each ts) (λ xs f. f)) e

  pub stable-list : IsStable (list_of of)
  stable-list = stable-by (list_of of) (λ z c e. absurd (cc)) stable-each (λ ms c e. e)

  pub stable-array : (n : ℕ) → IsStable (array_of n of)
  stable-array n t cs e = bound (list_of of t) (list_of of (norm t)) (exactly n) (exactly n) cs (stable-list t) (λ xs f. f) e

-- ---- tuples, by the laws of the types of their items

-- children that give items give them in normal form too
abbrev pub AreStable : {C : Type 0} → (Trees → Option C) → Type 0
AreStable {C} of = (ts : Trees) (c : C) → of ts ≡ Some c → of (norm_children ts) ≡ Some c

-- children that give the unit by `none_of` give it in normal form too
pub stable-none : AreStable none_of
stable-none no_trees c e = e
stable-none (tree t ts) c e = absurd (cc)

-- if f is stable and g is stable for children, `item_of f g` is stable for children
pub stable-item : {A B : Type 0} (f : Tree → Option A) (g : Trees → Option B) → IsStable f → AreStable g → AreStable (item_of f g)
stable-item f g first rest no_trees c e = e
stable-item f g first rest (tree t ts) c e =
    bound (f t) (f (norm t)) (λ a. option_map (λ b. (a, b)) (g ts)) (λ a. option_map (λ b. (a, b)) (g (norm_children ts))) c (first t)
    (λ a. mapped (λ b. (a, b)) (g ts) (g (norm_children ts)) c (rest ts)) e

-- if g is stable for children, `tuple_of g` is stable
pub stable-tuple : {C : Type 0} (g : Trees → Option C) → AreStable g → IsStable (tuple_of g)
stable-tuple g rest = stable-by (tuple_of g) (λ z c e. absurd (cc)) rest (λ ms c e. e)
