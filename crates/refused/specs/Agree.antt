-- Trees that agree at a path, and what is wrong at a path.
use Rattle.std.specs.Prelude.{◌≡◌, ◌⊎◌, ℕ, List, [], ◌∷◌, bytes_eq, if◌then◌else◌, ⊤, refl, codes}
use Rattle.std.proofs.Common.{inl, inr, ap, arith, subst, sym}
use Rattle.miniserde.specs.Tree.{Tree, null, nonneg, members, Members, no_members, member}
use Rattle.miniserde.specs.Objects.{Name}

-- the trees of the members of the name n, in order
abbrev pub trees_named : Name → Members → List Tree
trees_named n no_members = []
trees_named n (member k t ms) = if bytes_eq k n then t ∷ trees_named n ms else trees_named n ms

-- the lists have the same length, and R holds of their elements at each index
abbrev pub Pairwise : {A : Type 0} → (A → A → Type 0) → List A → List A → Type 0
Pairwise R [] [] = ⊤
Pairwise R (x ∷ xs) (y ∷ ys) = R x y × Pairwise R xs ys
Pairwise R _ _ = ⊥

-- The trees agree at the path. At the empty path they are equal. At any other path they are equal too, or they are
-- objects, and the trees of their members of the path's first name agree pairwise at the rest of the path.
abbrev pub AgreeAt : List Name → Tree → Tree → Type 0
AgreeAt [] t u = t ≡ u
AgreeAt (n ∷ ns) t u = (t ≡ u)
    ⊎ ((ms ls : Members) × (t ≡ members ms) × (u ≡ members ls) × Pairwise (AgreeAt ns) (trees_named n ms) (trees_named n ls))

-- no tree that agrees with t at the path means a value
abbrev pub IsWrongAt : {S : Type 0} → (Tree → S → Type 0) → List Name → Tree → Type 0
IsWrongAt {S} reads path t = (u : Tree) → AgreeAt path t u → (v : S) → reads u v → ⊥

-- Each tree agrees with itself at each path. So what is wrong at a path of t keeps t itself from meaning a value.
pub agree_same : (path : List Name) (t : Tree) → AgreeAt path t t
agree_same [] t = refl
agree_same (n ∷ ns) t = inl refl

-- Worked cases: `{"a":1,"b":null}` and `{"b":7,"a":1}` agree at `a`, and `{"a":1}` and `{"a":7}` do not.
pub only_a_counts : AgreeAt (codes "a" ∷ []) (members (member (codes "a") (nonneg 1) (member (codes "b") null no_members)))
    (members (member (codes "b") (nonneg 7) (member (codes "a") (nonneg 1) no_members)))
only_a_counts = inr (_, _, refl, refl, (refl, tt))

-- the tree of the first member, if it is a number, and the trees of the members `a`
abbrev first_number : Tree → ℕ
first_number (members (member k (nonneg n) ms)) = n
first_number (nonneg n) = n
first_number _ = 0

abbrev trees_a : Tree → List Tree
trees_a (members ms) = trees_named (codes "a") ms
trees_a _ = []

pub another_a : AgreeAt (codes "a" ∷ []) (members (member (codes "a") (nonneg 1) no_members))
    (members (member (codes "a") (nonneg 7) no_members)) → ⊥
another_a (inl e) = omega (arith, ap first_number e)
another_a (inr (ms, ls, e, f, p)) =
    let same = subst (λ t. Pairwise (λ t u. t ≡ u) (trees_a t) (trees_named (codes "a") ls)) (sym e) p in
    let both = subst (λ u. Pairwise (λ t u. t ≡ u) (nonneg 1 ∷ []) (trees_a u)) (sym f) same in
    omega (arith, ap first_number both.0)
