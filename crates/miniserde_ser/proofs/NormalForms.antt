-- Lists and objects in normal form: two lists in normal form make one (`normal_list-append`), and an object of trees in
-- normal form whose names rise is in normal form (`rising_is_normal`).
use Rattle.std.proofs.Common.{◌≡◌, ℕ, List, [], ◌∷◌, ◌++◌, Option, Some, None, IfSome, refl, ap, ap₂, ◌∙◌}
use Rattle.std.proofs.Common.{Less, option_map}
use Rattle.miniserde_model.specs.Tree.{Tree, list, Trees, tree, Members, no_members, member}
use Rattle.miniserde_model.specs.Normal.{text_cmp, norm, norm_children, norm_members, with_if_absent, Rise}
use Rattle.miniserde_model.proofs.Lookups.{first_of_all}
use Rattle.miniserde_ser.specs.Trees.{trees_of, members_of, TreesAreNormal}

-- the trees of a list are in normal form
abbrev pub AreNormal : Trees → Type 0
AreNormal ts = norm_children ts ≡ ts

-- members in rising order of their names, with trees in normal form, are their own normal form
pub rising_is_normal : (ms : Members) → Rise ms → TreesAreNormal ms → norm_members ms ≡ ms
rising_is_normal no_members r n = refl
rising_is_normal (member name t ms) r n =
    ap₂ (with_if_absent name) n.0 (rising_is_normal ms r.1 n.1) ∙ first_of_all name t ms r.0

-- if a list of xs and one of ys are in normal form, so is one of both
pub normal_list-append : {A : Type 0} (f : A → Tree) (xs ys : List A) → norm (list (trees_of f xs)) ≡ list (trees_of f xs)
    → norm (list (trees_of f ys)) ≡ list (trees_of f ys) → norm (list (trees_of f (xs ++ ys))) ≡ list (trees_of f (xs ++ ys))
normal_list-append {A} f xs ys e h = ap list (both xs (cc e))
  where
    both : (zs : List A) → AreNormal (trees_of f zs) → AreNormal (trees_of f (zs ++ ys))
    both [] e = cc h
    both (z ∷ zs) e =
        let first : norm (f z) ≡ f z = cc e in
        let later : AreNormal (trees_of f zs) = cc e in
        ap₂ tree first (both zs later)

-- the key of the last entry, if there is one
abbrev pub last_key : {K V : Type 0} → List (K × V) → Option K
last_key [] = None
last_key (e ∷ []) = Some e.0
last_key (e ∷ d ∷ es) = last_key (d ∷ es)

-- the last key is the one of an entry that was appended
pub last_key-snoc : {K V : Type 0} (es : List (K × V)) (e : K × V) → last_key (es ++ e ∷ []) ≡ Some e.0
last_key-snoc [] e = refl
last_key-snoc (d ∷ []) e = refl
last_key-snoc (d ∷ c ∷ es) e = last_key-snoc (c ∷ es) e

-- P holds of the value in `option_map f o` if it holds of f's result for the one in o
pub IfSome-option_map : {X Y : Type 0} (f : X → Y) (P : Y → Type 0) (o : Option X) → IfSome o (λ x. P (f x))
    → IfSome (option_map f o) P
IfSome-option_map f P None h = tt
IfSome-option_map f P (Some x) h = h

module _ {K V : Type 0} (text : K → List ℕ) (f : V → Tree) where
  -- if the trees of the members of es and the tree of e are in normal form, so are those with e appended
  pub TreesAreNormal-snoc : (es : List (K × V)) (e : K × V) → TreesAreNormal (members_of text f es) → norm (f e.1) ≡ f e.1
      → TreesAreNormal (members_of text f (es ++ e ∷ []))
  TreesAreNormal-snoc [] e n h = (h, tt)
  TreesAreNormal-snoc (d ∷ es) e n h = (n.0, TreesAreNormal-snoc es e n.1 h)

  -- names that rise still do with that of d behind them, if it comes after the last one
  pub rise_further : (es : List (K × V)) (d : K × V) → Rise (members_of text f es)
      → IfSome (last_key es) (λ k. text_cmp (text k) (text d.0) ≡ Less) → Rise (members_of text f (es ++ d ∷ []))
  rise_further [] d r l = (tt, tt)
  rise_further (e ∷ []) d r l = (l, (tt, tt))
  rise_further (e ∷ c ∷ es) d r l = (r.0, rise_further (c ∷ es) d r.1 l)
