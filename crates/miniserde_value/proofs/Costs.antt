-- The looks that dropping a value takes are at least as many as its values, and at most twice as many. By induction
-- over the value (`tree_ind`): its cost is computed from the costs of its children.
use Rattle.std.proofs.Common.{◌≡◌, ℕ, suc, ◌+◌, ◌*◌, ◌≤◌, List, [], ◌∷◌, ◌++◌, map, ap, arith}
use Rattle.miniserde_value.specs.declared.json.value.Value.{Value}
use Rattle.miniserde_value.specs.Values.{children}
use Rattle.miniserde_value.specs.Looks.{value_size}
use Rattle.miniserde_value.proofs.Trees.{fold_tree, fold_tree_out, Each, tree_ind}
use Rattle.miniserde_value.proofs.ContentTrees.{sizes, size_children}

-- The looks to come for a value: `beside` if another value with children waits, and `alone` if none does. One that
-- waits is put in the place of the value's first child, if the value has children.
pub record Cost : Type 0 where
  pub beside : ℕ
  pub alone : ℕ

-- each is taken in hand, beside its parent
abbrev pub all_beside : List Cost → ℕ
all_beside [] = 0
all_beside (c ∷ cs) = suc c.beside + all_beside cs

-- the first is taken in hand last, when its parent is empty; the replaced value comes back once
abbrev pub cost_of : List Cost → Cost
cost_of [] = record { beside = 0; alone = 0 }
cost_of (c ∷ cs) = record { beside = suc (all_beside (c ∷ cs)); alone = suc c.alone + all_beside cs }

-- the looks to come for a value, from those of its children
abbrev pub cost : Value → Cost
cost = fold_tree cost_of

-- the looks to come for `hand` and `current`, by the children vs of `current`
abbrev pub looks_from : List Value → Cost → Cost → ℕ
looks_from [] current hand = hand.alone
looks_from (v ∷ vs) current hand = current.alone + hand.beside

-- the looks to come with `current` unfinished and `hand` in hand
abbrev pub looks_left : Value → Value → ℕ
looks_left current hand = looks_from (children current) (cost current) (cost hand)

-- the looks for the values of a list, each beside its parent
abbrev pub besides : List Value → ℕ
besides vs = all_beside (map cost vs)

-- the looks for a value are computed from those of its children
pub cost_out : (v : Value) → cost v ≡ cost_of (map cost (children v))
cost_out v = fold_tree_out cost_of v

-- the looks for the values of two lists add up
pub besides_append : (xs ys : List Value) → besides (xs ++ ys) ≡ besides xs + besides ys
besides_append [] ys = omega arith
besides_append (x ∷ xs) ys = omega (arith, besides_append xs ys)

-- the bounds on the looks of one value
abbrev IsBetween : Value → Type 0
IsBetween v = (value_size v ≤ suc (cost v).alone) × (value_size v ≤ suc (cost v).beside)
    × (suc (suc (cost v).beside) ≤ 2 * value_size v) × ((cost v).alone ≤ (cost v).beside)

between_all : (vs : List Value) → Each IsBetween vs → (sizes vs ≤ besides vs) × (besides vs ≤ 2 * sizes vs)
between_all [] h = (omega arith, omega arith)
between_all (v ∷ vs) h =
    let r = between_all vs h.1 in
    let a = h.0.1 in
    let b = h.0.2 in
    (omega (arith, a, r.0), omega (arith, b, r.1))

between_list : (vs : List Value) → Each IsBetween vs →
    (suc (sizes vs) ≤ suc (cost_of (map cost vs)).alone) × (suc (sizes vs) ≤ suc (cost_of (map cost vs)).beside)
    × (suc (suc (cost_of (map cost vs)).beside) ≤ 2 * suc (sizes vs)) × ((cost_of (map cost vs)).alone ≤ (cost_of (map cost vs)).beside)
between_list [] h = (omega arith, omega arith, omega arith, omega arith)
between_list (v ∷ vs) h =
    let r = between_all vs h.1 in
    let a = h.0.0 in
    let b = h.0.1 in
    let c = h.0.2 in
    let d = h.0.3 in (
      omega (arith, a, b, c, d, r.0, r.1),
      omega (arith, a, b, c, d, r.0, r.1),
      omega (arith, a, b, c, d, r.0, r.1),
      omega (arith, a, b, c, d, r.0, r.1),
    )

-- the bounds `IsBetween` hold of each value
pub between : (v : Value) → IsBetween v
between = tree_ind IsBetween (λ v h.
    let r = between_list (children v) h in
    let s = size_children v in
    let c = ap (λ (k : Cost). k.alone) (cost_out v) in
    let d = ap (λ (k : Cost). k.beside) (cost_out v) in
    (omega (arith, r.0, s, c), omega (arith, r.1, s, d), omega (arith, r.2, s, d), omega (arith, r.3, c, d)))
