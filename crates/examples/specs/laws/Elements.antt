-- The events of a tree count the elements that it has.
use Rattle.std.specs.Prelude.{◌≡◌, ℕ, ◌+◌, ◌-◌, List, [], ◌∷◌, ◌++◌, Some, refl}
use Rattle.std.proofs.Common.{◌∙◌, ap, sym, append_assoc, arith}
use Rattle.miniserde.specs.Tree.{Tree, list, members, Trees, no_trees, tree, Members, no_members, member}
use Rattle.miniserde.specs.Step.{Step, element, finish, events, child_events, member_events}
use Rattle.examples.specs.Elements.{count_trees, elements_of, more, counted}

-- a container inside an element closes
back : (d : ℕ) (es : List Step) → more (d + 2) (finish ∷ es) ≡ more (d + 1) es
back d es = let e : d + 2 - 1 ≡ d + 1 = omega arith in ap (λ n. more n es) e

-- numbers do not compute beside a variable
deeper : (d : ℕ) (es : List Step) → more (d + 1 + 1) es ≡ more (d + 2) es
deeper d es = let e : d + 1 + 1 ≡ d + 2 = omega arith in ap (λ n. more n es) e

-- an element of a list inside an element is not counted
within : (d : ℕ) (es : List Step) → more (d + 2) (element ∷ es) ≡ more (d + 2) es
within d es = grind arith

mutual
  -- inside an element nothing counts
  value_skips : (t : Tree) (d : ℕ) (es : List Step) → more (d + 1) (events t ++ es) ≡ more (d + 1) es
  value_skips (list ts) d es =
      ap (λ r. more (d + 1 + 1) r) (append_assoc (child_events ts) (finish ∷ []) es)
      ∙ deeper d (child_events ts ++ finish ∷ es)
      ∙ children_skip ts d (finish ∷ es)
      ∙ back d es
  value_skips (members ms) d es =
      ap (λ r. more (d + 1 + 1) r) (append_assoc (member_events ms) (finish ∷ []) es)
      ∙ deeper d (member_events ms ++ finish ∷ es)
      ∙ members_skip ms d (finish ∷ es)
      ∙ back d es
  value_skips t d es = refl

  children_skip : (ts : Trees) (d : ℕ) (es : List Step) → more (d + 2) (child_events ts ++ es) ≡ more (d + 2) es
  children_skip no_trees d es = refl
  children_skip (tree t ts) d es =
      within d ((events t ++ child_events ts) ++ es)
      ∙ ap (λ r. more (d + 2) r) (append_assoc (events t) (child_events ts) es)
      ∙ sym (deeper d (events t ++ (child_events ts ++ es)))
      ∙ value_skips t (d + 1) (child_events ts ++ es)
      ∙ deeper d (child_events ts ++ es)
      ∙ children_skip ts d es

  members_skip : (ms : Members) (d : ℕ) (es : List Step) → more (d + 2) (member_events ms ++ es) ≡ more (d + 2) es
  members_skip no_members d es = refl
  members_skip (member name t ms) d es =
      ap (λ r. more (d + 2) r) (append_assoc (events t) (member_events ms) es)
      ∙ sym (deeper d (events t ++ (member_events ms ++ es)))
      ∙ value_skips t (d + 1) (member_events ms ++ es)
      ∙ deeper d (member_events ms ++ es)
      ∙ members_skip ms d es

-- each child of the list itself counts one
children_count : (ts : Trees) (es : List Step) → more 1 (child_events ts ++ es) ≡ count_trees ts + more 1 es
children_count no_trees es = omega arith
children_count (tree t ts) es =
    let a : more 1 ((events t ++ child_events ts) ++ es) ≡ more 1 (child_events ts ++ es) =
    ap (λ r. more 1 r) (append_assoc (events t) (child_events ts) es) ∙ value_skips t 0 (child_events ts ++ es) in
    let b : more 1 (child_events ts ++ es) ≡ count_trees ts + more 1 es = children_count ts es in
    omega (arith, a, b)

-- the count by the events of a tree is what `elements_of` returns for the tree
pub events_count : (t : Tree) → counted (events t) ≡ elements_of t
events_count (list ts) =
    let a : more 1 (child_events ts ++ finish ∷ []) ≡ count_trees ts + 0 = children_count ts (finish ∷ []) in
    let b : more 1 (child_events ts ++ finish ∷ []) ≡ count_trees ts = omega (arith, a) in
    ap (λ n. Some n) b
events_count t = refl
