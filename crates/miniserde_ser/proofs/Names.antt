-- Different keys have different names, so the members of a map have distinct names. If two names were equal, both
-- keys would be read back with one code (`differ`); the lists are by recursion over the entries (`distinct_names`).
use Rattle.std.proofs.Common.{◌≡◌, ℕ, Bool, false, List, [], ◌∷◌, ◌++◌, map, Option, Some, bytes_eq, refl, sym, ap, ◌∙◌, true≢false}
use Rattle.std.specs.List.{AllByRecursion, IsDistinct}
use Rattle.std.proofs.lemmas.List.{map-append}
use Rattle.std.proofs.lemmas.Option.{same_Some}
use Rattle.std.proofs.lemmas.Bool.{false_from_ne_true}
use Rattle.std.proofs.lemmas.Slice.Eq.{bytes_eq-Decides}
use Rattle.miniserde_model.specs.Tree.{Tree, Members, no_members, member}
use Rattle.miniserde_keys.specs.Keys.{Key}
use Rattle.miniserde_keys.specs.laws.Keys.{ReadsBack}
use Rattle.miniserde_ser.specs.Trees.{members_of}

-- by the laws of a key
module _ {K : Type 0} (eq : K → K → Bool) (valid : K → Type 0) (content : K → Key) (code : Key → Key)
    (read : List ℕ → Option Key) (text : K → List ℕ)
    (alike : (a b : K) → eq a b ≡ bytes_eq (code (content a)) (code (content b)))
    (back : ReadsBack valid content code read text) where
  differ : (a b : K) → valid a → valid b → eq a b ≡ false → bytes_eq (text a) (text b) ≡ false
  differ a b ra rb h = false_from_ne_true _ (λ e.
      let same : text a ≡ text b = (bytes_eq-Decides (text a) (text b)).0 e in
      let c = back a ra in
      let d = back b rb in
      let read_same : Some (content c.0) ≡ Some (content d.0) = sym c.2 ∙ ap read same ∙ d.2 in
      let one : code (content a) ≡ code (content b) = sym c.3 ∙ ap code (same_Some _ _ read_same) ∙ d.3 in
      true≢false (sym ((bytes_eq-Decides _ _).1 one) ∙ sym (alike a b) ∙ h))

  all_differ : {V : Type 0} (a : K) (es : List (K × V)) → valid a → AllByRecursion (λ e. valid e.0) es
      → AllByRecursion (λ b. eq a b ≡ false) (map (λ e. e.0) es)
      → AllByRecursion (λ n. bytes_eq (text a) n ≡ false) (map (λ e. text e.0) es)
  all_differ a [] ra r h = tt
  all_differ a (e ∷ es) ra r h = (differ a e.0 ra r.0 h.0, all_differ a es ra r.1 h.1)

  pub distinct_names : {V : Type 0} (es : List (K × V)) → AllByRecursion (λ e. valid e.0) es
      → IsDistinct eq (map (λ e. e.0) es) → IsDistinct bytes_eq (map (λ e. text e.0) es)
  unfolding IsDistinct
  distinct_names [] r d = tt
  distinct_names (e ∷ es) r d = (all_differ e.0 es r.0 r.1 d.0, distinct_names es r.1 d.1)

-- the names and the trees, in order, as members
abbrev pub named_trees : List (List ℕ) → List Tree → Members
named_trees (n ∷ ns) (t ∷ ts) = member n t (named_trees ns ts)
named_trees _ _ = no_members

-- the members of entries are made of the lists of their names and of their trees
pub members_by : {K V : Type 0} (text : K → List ℕ) (f : V → Tree) (es : List (K × V))
    → members_of text f es ≡ named_trees (map (λ e. text e.0) es) (map (λ e. f e.1) es)
members_by text f [] = refl
members_by text f (e ∷ es) = ap (λ ms. member (text e.0) (f e.1) ms) (members_by text f es)

-- ---- one more row, and one more entry

-- if P holds for each element of xs and for x, it holds for each element of xs with x appended
pub all_more : {A : Type 0} (P : A → Type 0) (xs : List A) (x : A) → AllByRecursion P xs → P x → AllByRecursion P (xs ++ x ∷ [])
all_more P [] x h p = (p, tt)
all_more P (y ∷ xs) x h p = (h.0, all_more P xs x h.1 p)

-- if f on xs and x gives what g on ys and y gives, it does so on the lists with x and y appended
pub map_more : {A B C : Type 0} (f : A → C) (g : B → C) (xs : List A) {zs : List A} {x : A} (ys : List B) {y : B}
    → zs ≡ xs ++ x ∷ [] → map f xs ≡ map g ys → f x ≡ g y → map f zs ≡ map g (ys ++ y ∷ [])
map_more f g xs {x = x} ys {y = y} z h e = rw (z, map-append f xs (x ∷ []), map-append g ys (y ∷ []), h, e) refl
