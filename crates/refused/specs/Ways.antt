-- Places in a document, and what keeps a place from giving a content.
use Rattle.std.specs.Prelude.{◌≡◌, List, ◌∷◌, ◌++◌, Option, IsSome}
use Rattle.miniserde.specs.Tree.{Tree}
use Rattle.miniserde.specs.Objects.{Name}
use Rattle.refused.specs.Agree.{AgreeAt}
use Rattle.refused.specs.Wrong.{Gives}

-- whether `of` returns a content depends on what stands at the path alone
abbrev pub DependsAt : {C : Type 0} → (Tree → Option C) → List Name → Type 0
DependsAt of path = (t u : Tree) → AgreeAt path t u → IsSome (of t) → IsSome (of u)

-- the path `here` leads to a place in a document, and `gives` says whether that place gives a content
pub record IsWay (gives : Gives) (here : List Name) : Type 1 where
  -- if h returns a content for each tree that f and g return one for, the place gives one by h if it does by f and g
  pub both : {C D E : Type 0} (f : Tree → Option C) (g : Tree → Option D) (h : Tree → Option E)
      → ((t : Tree) → IsSome (f t) → IsSome (g t) → IsSome (h t)) → (t : Tree) → gives C f t → gives D g t → gives E h t
  -- if `of` depends on what stands at the path alone, the place depends on what stands at the path behind `here` alone
  pub depends : {C : Type 0} (of : Tree → Option C) (path : List Name) → DependsAt of path → (t u : Tree)
      → AgreeAt (here ++ path) t u → gives C of t → gives C of u

-- the path begins with `here` and is longer
abbrev pub LeadsOn : List Name → List Name → Type 0
LeadsOn here path = (n : Name) × (ns : List Name) × (path ≡ here ++ n ∷ ns)

-- The path begins with the place's path `here` and is longer. In no document that agrees with t at the path does the
-- place give a content by `of`.
abbrev pub IsWrongFrom : {C : Type 0} → Gives → List Name → (Tree → Option C) → List Name → Tree → Type 0
IsWrongFrom {C} gives here of path t = LeadsOn here path × ((u : Tree) → AgreeAt path t u → gives C of u → ⊥)
