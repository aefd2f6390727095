-- The tree of a value means a value of the type, and each value that it means has that tree, for the containers of std
-- except maps: by recursion over their items, from the round trip of the type of the items. Leaves are in
-- `specs/laws/Scalars.antt`.
use Rattle.std.proofs.Common.{◌≡◌, ◌≢◌, ℕ, List, [], ◌∷◌, length, Option, Some, None, refl, sym, ap, ap₂, subst, ◌∙◌, arith}
use Rattle.std.specs.List.{AllByRecursion}
use Rattle.miniserde_model.specs.Tree.{Tree, null, truth, nonneg, neg, num, str, list, members, no_trees, tree}
use Rattle.miniserde_keys.specs.Ranged.{OptionValid}
use Rattle.miniserde_read.specs.types.Lists.{EachReads, ListReads}
use Rattle.miniserde_read.specs.types.Options.{OptionReads}
use Rattle.miniserde_read.specs.types.Pairs.{PairReads}
use Rattle.miniserde_read.specs.types.Arrays.{ArrayReads}
use Rattle.miniserde_ser.specs.Trees.{trees_of, option_tree}
use Rattle.miniserde_laws.specs.RoundTrip.{RoundTrips}

-- ---- containers, by the law of the type of their values

module _ {T : Type 0} (valid : T → Type 0) (f : T → Tree) (R : Tree → T → Type 0) where
  -- what holds a value reads again as the value does
  pub round_trips-inner : {B : Type 0} (inner : B → T) (with : T → B) → ((x : T) → inner (with x) ≡ x) → (b : B)
      → RoundTrips valid f R (f (inner b))
      → RoundTrips (λ b. valid (inner b)) (λ b. f (inner b)) (λ t b. R t (inner b)) (f (inner b))
  round_trips-inner inner with same b h = (
    (with h.0.0, subst valid (sym (same h.0.0)) h.0.1, subst (R (f (inner b))) (sym (same h.0.0)) h.0.2),
    λ w r e.
        h.1 (inner w) r e,
  )

module _ {T : Type 0} (valid : T → Type 0) (f : T → Tree) (R : Tree → T → Type 0)
    (round_trips : (x : T) → valid x → RoundTrips valid f R (f x)) where
  -- ---- optional values

  none : RoundTrips (OptionValid valid) (option_tree f) (OptionReads R) null
  none = (
    (None, tt, refl),
    λ w. elim w as (λ w. OptionValid valid w → OptionReads R null w → option_tree f w ≡ null)
        [ None ↦ λ r h. refl | Some y ↦ λ r h. absurd (h.0 refl) ],
  )

  some : (t : Tree) → t ≢ null → RoundTrips valid f R t → RoundTrips (OptionValid valid) (option_tree f) (OptionReads R) t
  some t n a = (
    (Some a.0.0, a.0.1, (n, a.0.2)),
    λ w.
        elim w as (λ w. OptionValid valid w → OptionReads R t w → option_tree f w ≡ t)
        [ None ↦ λ r h. sym h | Some y ↦ λ r h. a.1 y r h.1 ],
  )

  -- a value that is written as null reads as none, which is written so too
  there : (t : Tree) → RoundTrips valid f R t → RoundTrips (OptionValid valid) (option_tree f) (OptionReads R) t
  there null a = none
  there (truth b) a = some (truth b) (λ e. cc) a
  there (nonneg n) a = some (nonneg n) (λ e. cc) a
  there (neg n) a = some (neg n) (λ e. cc) a
  there (num x) a = some (num x) (λ e. cc) a
  there (str s) a = some (str s) (λ e. cc) a
  there (list ts) a = some (list ts) (λ e. cc) a
  there (members ms) a = some (members ms) (λ e. cc) a

  pub round_trips-option : (v : Option T) → OptionValid valid v
      → RoundTrips (OptionValid valid) (option_tree f) (OptionReads R) (option_tree f v)
  round_trips-option None r = none
  round_trips-option (Some x) r = there (f x) (round_trips x r)

  -- ---- lists

  each-read : (xs : List T) → AllByRecursion valid xs → (ws : List T) × (length ws ≡ length xs)
      × AllByRecursion valid ws × EachReads R (trees_of f xs) ws
  each-read [] h = ([], refl, tt, tt)
  each-read (x ∷ xs) h =
      let a = (round_trips x h.0).0 in
      let b = each-read xs h.1 in
      (a.0 ∷ b.0, omega (arith, b.1), (a.1, b.2), (a.2, b.3))

  each-same : (xs ws : List T) → AllByRecursion valid xs → AllByRecursion valid ws → EachReads R (trees_of f xs) ws
      → trees_of f ws ≡ trees_of f xs
  each-same [] [] h r e = refl
  each-same [] (w ∷ ws) h r e = absurd e
  each-same (x ∷ xs) [] h r e = absurd e
  each-same (x ∷ xs) (w ∷ ws) h r e = ap₂ tree ((round_trips x h.0).1 w r.0 e.0) (each-same xs ws h.1 r.1 e.1)

  pub round_trips-list : {V : Type 0} (items : V → List T) (with : V → List T → V)
      → ((v : V) (ws : List T) → length ws ≡ length (items v) → items (with v ws) ≡ ws) → (v : V)
      → AllByRecursion valid (items v)
      → RoundTrips (λ v. AllByRecursion valid (items v)) (λ v. list (trees_of f (items v)))
      (λ t v. ListReads R t (items v)) (list (trees_of f (items v)))
  round_trips-list items with same v h =
      let b = each-read (items v) h in
      let s = sym (same v b.0 b.1) in (
        (with v b.0, subst (AllByRecursion valid) s b.2, subst (EachReads R (trees_of f (items v))) s b.3),
        λ w r e.
            ap list (each-same (items v) (items w) h r e),
      )

  pub round_trips-array : (n : ℕ) (xs : List T) → (length xs ≡ n) × AllByRecursion valid xs
      → RoundTrips (λ xs. (length xs ≡ n) × AllByRecursion valid xs) (λ xs. list (trees_of f xs)) (ArrayReads n R)
      (list (trees_of f xs))
  round_trips-array n xs h =
      let b = each-read xs h.1 in
      let long = b.1 ∙ h.0 in
      ((b.0, (long, b.2), (b.3, long)), λ w r e. ap list (each-same xs w h.1 r.1 e.0))

-- ---- pairs

-- if the trees of both parts of a pair round-trip, the list of the two trees does
pub round_trips-pair : {A B : Type 0} (valid_a : A → Type 0) (valid_b : B → Type 0) (f : A → Tree) (g : B → Tree)
    (R : Tree → A → Type 0) (S : Tree → B → Type 0) (v : A × B) → RoundTrips valid_a f R (f v.0)
    → RoundTrips valid_b g S (g v.1)
    → RoundTrips {T = A × B} (λ v. valid_a v.0 × valid_b v.1) (λ v. list (tree (f v.0) (tree (g v.1) no_trees)))
    (PairReads R S) (list (tree (f v.0) (tree (g v.1) no_trees)))
round_trips-pair valid_a valid_b f g R S v p q =
    (((p.0.0, q.0.0), (p.0.1, q.0.1), (p.0.2, q.0.2)), λ w r e. rw (p.1 w.0 r.0 e.0, q.1 w.1 r.1 e.1) refl)
