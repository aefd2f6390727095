-- How many elements a list has, by its tree and by its events.
use Rattle.std.specs.Prelude.{ℕ, ◌+◌, ◌-◌, ◌==◌, if◌then◌else◌, List, [], ◌∷◌, Option, Some, None}
use Rattle.miniserde.specs.Tree.{Tree, list, Trees, no_trees, tree}
use Rattle.miniserde.specs.Step.{Step, seq, element, map, finish}

-- how many trees
abbrev pub count_trees : Trees → ℕ
count_trees no_trees = 0
count_trees (tree t ts) = 1 + count_trees ts

-- how many elements the tree has, where it is a list
abbrev pub elements_of : Tree → Option ℕ
elements_of (list ts) = Some (count_trees ts)
elements_of _ = None

-- how many elements of the outermost list are still to come, where some containers are open
abbrev pub more : ℕ → List Step → ℕ
more depth [] = 0
more depth (seq ∷ es) = more (depth + 1) es
more depth (map ∷ es) = more (depth + 1) es
more depth (finish ∷ es) = more (depth - 1) es
more depth (element ∷ es) = (if depth == 1 then 1 else 0) + more depth es
more depth (_ ∷ es) = more depth es

-- how many elements the list has whose events these are
abbrev pub counted : List Step → Option ℕ
counted (seq ∷ es) = Some (more 1 es)
counted _ = None
