-- Which kinds the trees of a type are, by cases on the tree.
use Rattle.std.proofs.Common.{◌≡◌, ℕ, ℤ, List, Bool, true, false, ◌&&◌, not, Option, Some, None, refl, sym, ◌∙◌, true≢false}
use Rattle.std.specs.Prelude.{option_map, ⊤}
use Rattle.miniserde_model.specs.Tree.{Tree, truth, nonneg, neg, num, str, list, members, Trees, Members}
use Rattle.miniserde_model.specs.Tree as tree
use Rattle.miniserde_read.specs.types.Options.{option_of}
use Rattle.miniserde_enum.specs.laws.Cases.{both}
use Rattle.miniserde_more.specs.Kinds.{ValueKind, null, boolean, number, string, array, object}
use Rattle.miniserde_more.specs.Kinds.{Kinds, OfKinds, tree_kind, null_kind, either_kinds, apart, apart_at}

-- P, unless the test holds
abbrev pub Unless : Bool → Type 0 → Type 0
Unless true P = ⊤
Unless false P = P

given_unless : (b : Bool) (P : Type 0) → Unless b P → b ≡ false → P
given_unless true P p e = absurd (cc)
given_unless false P p e = p

module _ {C : Type 0} (kinds : Kinds) (of : Tree → Option C) (a : Unless (kinds null) (of tree.null ≡ None))
    (b : (x : Bool) → Unless (kinds boolean) (of (truth x) ≡ None))
    (c : (n : ℕ) → Unless (kinds number) (of (nonneg n) ≡ None))
    (d : (z : ℤ) → Unless (kinds number) (of (neg z) ≡ None))
    (e : (x : List ℕ) → Unless (kinds number) (of (num x) ≡ None))
    (f : (s : List ℕ) → Unless (kinds string) (of (str s) ≡ None))
    (g : (ts : Trees) → Unless (kinds array) (of (list ts) ≡ None))
    (h : (ms : Members) → Unless (kinds object) (of (members ms) ≡ None)) where
  none_by_tree : (t : Tree) → kinds (tree_kind t) ≡ false → of t ≡ None
  none_by_tree tree.null i = given_unless (kinds null) _ a i
  none_by_tree (truth x) i = given_unless (kinds boolean) _ (b x) i
  none_by_tree (nonneg n) i = given_unless (kinds number) _ (c n) i
  none_by_tree (neg z) i = given_unless (kinds number) _ (d z) i
  none_by_tree (num x) i = given_unless (kinds number) _ (e x) i
  none_by_tree (str s) i = given_unless (kinds string) _ (f s) i
  none_by_tree (list ts) i = given_unless (kinds array) _ (g ts) i
  none_by_tree (members ms) i = given_unless (kinds object) _ (h ms) i

  -- if `of` gives nothing for a tree of each kind that is not in the set, it gives contents for the kinds of the set
  -- alone
  pub by_tree : OfKinds kinds of
  by_tree = record { none = none_by_tree }

module _ {C : Type 0} (kinds : Kinds) (of : Tree → Option C) (h : OfKinds kinds of) where
  none_of_option : (t : Tree) → either_kinds null_kind kinds (tree_kind t) ≡ false → option_of of t ≡ None
  none_of_option tree.null e = absurd (cc)
  none_of_option (truth x) e = rw (h.none (truth x) e) refl
  none_of_option (nonneg n) e = rw (h.none (nonneg n) e) refl
  none_of_option (neg z) e = rw (h.none (neg z) e) refl
  none_of_option (num x) e = rw (h.none (num x) e) refl
  none_of_option (str s) e = rw (h.none (str s) e) refl
  none_of_option (list ts) e = rw (h.none (list ts) e) refl
  none_of_option (members ms) e = rw (h.none (members ms) e) refl

  -- an optional value is `null`, or of a kind of the value inside
  pub of-option : OfKinds (either_kinds null_kind kinds) (option_of of)
  of-option = record { none = none_of_option }

-- ---- sets that are apart

one_alone : (a b : Bool) → not (a && b) ≡ true → a ≡ true → b ≡ false
one_alone true true h e = absurd (cc)
one_alone true false h e = refl
one_alone false b h e = absurd (cc)

each_apart : (a b : Kinds) → apart a b ≡ true → (k : ValueKind) → apart_at a b k ≡ true
each_apart a b h =
    let p = both (apart_at a b null) _ h in
    let q = both (apart_at a b boolean) _ p.1 in
    let r = both (apart_at a b number) _ q.1 in
    let s = both (apart_at a b string) _ r.1 in
    let t = both (apart_at a b array) (apart_at a b object) s.1 in
    λ k. elim k as (λ k. apart_at a b k ≡ true) [ null ↦ p.0 | boolean ↦ q.0 | number ↦ r.0 | string ↦ s.0 | array ↦ t.0 | object ↦ t.1 ]

-- of two sets that are apart, a kind that is in the first is not in the second
pub not_in_other : (a b : Kinds) → apart a b ≡ true → (k : ValueKind) → a k ≡ true → b k ≡ false
not_in_other a b h k = one_alone (a k) (b k) (each_apart a b h k)

-- if `of` gives a content for a tree, the tree is of one of the kinds
pub is_of_kind : {C : Type 0} (kinds : Kinds) (of : Tree → Option C) → OfKinds kinds of → (t : Tree) (c : C)
    → of t ≡ Some c → kinds (tree_kind t) ≡ true
is_of_kind {C} kinds of h t c e = elim (kinds (tree_kind t)) as (λ b. kinds (tree_kind t) ≡ b → kinds (tree_kind t) ≡ true)
    [ true ↦ λ i. i | false ↦ λ i. let n = h.none t i in absurd (cc) ] refl

-- a tree that gives a content for the later variants gives none for the first
pub no_first : {C D : Type 0} (a b : Kinds) (f : Tree → Option C) (g : Tree → Option D) → OfKinds a f → OfKinds b g
    → apart a b ≡ true → (t : Tree) (d : D) → g t ≡ Some d → f t ≡ None
no_first a b f g h k apart t d e =
    elim (a (tree_kind t)) as (λ z. a (tree_kind t) ≡ z → f t ≡ None) [
      | true ↦ λ i.
          absurd (true≢false (sym (is_of_kind b g k t d e) ∙ not_in_other a b apart (tree_kind t) i))
      | false ↦ λ i. h.none t i
    ] refl
