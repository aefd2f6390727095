-- The events of a tree complete a value, and no list of events that completes a value is a proper prefix of another.
-- The first is by recursion over the tree, with the later events as a parameter (`goes`); the second is by recursion
-- over the events, as no event is allowed behind a complete value (`none_allowed`).
use Rattle.std.proofs.Common.{◌≡◌, ℕ, ◌+◌, ◌-◌, true, false, List, [], ◌∷◌, ◌++◌, refl, sym, subst, append_assoc}
use Rattle.std.proofs.Common.{append-nil, arith, true≢false}
use Rattle.miniserde_model.specs.Tree.{Tree, null, truth, nonneg, neg, num, str, list, members, Trees, no_trees}
use Rattle.miniserde_model.specs.Tree.{tree, Members, no_members, member}
use Rattle.miniserde_model.specs.Step.{Step, boolean, string, negative, nonnegative, float, seq, element, map, key}
use Rattle.miniserde_model.specs.Step.{finish, events, child_events, member_events}
use Rattle.miniserde_model.specs.Step as step
use Rattle.miniserde_model.specs.Position.{Position, start, complete, Allowed, next, Completes}

closes_to : (n : ℕ) (rest : List Step) → Completes (n, false) rest → Completes (n + 1, false) (finish ∷ rest)
closes_to n rest h = let e : n ≡ n + 1 - 1 = omega arith in ((refl, omega arith), subst (λ z. Completes (z, false) rest) e h)

mutual
  -- the events of a value take a due value
  goes : (t : Tree) (n : ℕ) (rest : List Step) → Completes (n, false) rest → Completes (n, true) (events t ++ rest)
  goes null n rest h = (refl, h)
  goes (truth x) n rest h = (refl, h)
  goes (nonneg m) n rest h = (refl, h)
  goes (neg m) n rest h = (refl, h)
  goes (num x) n rest h = (refl, h)
  goes (str s) n rest h = (refl, h)
  goes (list ts) n rest h = (
    refl,
    subst (λ z. Completes (n + 1, false) z) (sym (append_assoc (child_events ts) (finish ∷ []) rest))
        (children_go ts n (finish ∷ rest) (closes_to n rest h)),
  )
  goes (members ms) n rest h = (
    refl,
    subst (λ z. Completes (n + 1, false) z) (sym (append_assoc (member_events ms) (finish ∷ []) rest))
        (members_go ms n (finish ∷ rest) (closes_to n rest h)),
  )

  children_go : (ts : Trees) (n : ℕ) (rest : List Step) → Completes (n + 1, false) rest → Completes (n + 1, false) (child_events ts ++ rest)
  children_go no_trees n rest h = h
  children_go (tree t ts) n rest h = (
    (refl, omega arith),
    subst (λ z. Completes (n + 1, true) z)
        (sym (append_assoc (events t) (child_events ts) rest))
        (goes t (n + 1) (child_events ts ++ rest) (children_go ts n rest h)),
  )

  members_go : (ms : Members) (n : ℕ) (rest : List Step) → Completes (n + 1, false) rest
      → Completes (n + 1, false) (member_events ms ++ rest)
  members_go no_members n rest h = h
  members_go (member name t ms) n rest h = (
    (refl, omega arith),
    subst (λ z. Completes (n + 1, true) z)
        (sym (append_assoc (events t) (member_events ms) rest))
        (goes t (n + 1) (member_events ms ++ rest) (members_go ms n rest h)),
  )

-- the events of a tree complete a value
pub events_complete : (t : Tree) → Completes start (events t)
events_complete t = subst (λ z. Completes start z) (append-nil (events t)) (goes t 0 [] refl)

-- nothing may come where all is complete
none_allowed : (e : Step) → Allowed complete e → ⊥
none_allowed step.null h = true≢false (sym h)
none_allowed (boolean x) h = true≢false (sym h)
none_allowed (string s) h = true≢false (sym h)
none_allowed (negative n) h = true≢false (sym h)
none_allowed (nonnegative n) h = true≢false (sym h)
none_allowed (float x) h = true≢false (sym h)
none_allowed seq h = true≢false (sym h)
none_allowed map h = true≢false (sym h)
none_allowed element h = omega (arith, h.1)
none_allowed (key s) h = omega (arith, h.1)
none_allowed finish h = omega (arith, h.1)

-- of two lists that complete one value, neither goes on where the other ends
pub no_longer : (es rest : List Step) (p : Position) → Completes p es → Completes p (es ++ rest) → rest ≡ []
no_longer [] [] p h k = refl
no_longer [] (e ∷ rest) p h k = absurd (none_allowed e (subst (λ q. Allowed q e) h k.0))
no_longer (e ∷ es) rest p h k = no_longer es rest (next p e) h.1 k.1
