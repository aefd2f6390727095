-- What the events of a tree give, and when a tree means a value.
use Rattle.std.proofs.Common.{◌≡◌, true, false, List, [], ◌∷◌, ◌++◌, Option, Some, None, refl, sym, ap, ◌∙◌, append_assoc, append-nil}
use Rattle.std.specs.Prelude.{◌↔◌}
use Rattle.miniserde_model.specs.Tree.{Tree, null, truth, nonneg, neg, num, str, list, members, Trees, no_trees}
use Rattle.miniserde_model.specs.Tree.{tree, Members, no_members, member}
use Rattle.miniserde_model.specs.Normal.{put as put_member}
use Rattle.miniserde_model.specs.Step.{Step, finish, events, child_events, member_events}
use Rattle.miniserde_value.specs.Retained.{retained_tree, retained_children}
use Rattle.miniserde_value.specs.Hole.{Hole, outside, in_list, in_members, with_tree, outcome}
use Rattle.miniserde_value.specs.OnlyContainers.{only_list, only_members}
use Rattle.miniserde_value.specs.laws.Listed.{listed, trees_listed, put_retained, puts_retained}

mutual
  pub outcome_events : (h : Hole) (t : Tree) (rest : List Step) → outcome false true h (events t ++ rest)
      ≡ outcome false false (with_tree (retained_tree t) h) rest
  outcome_events h null rest = refl
  outcome_events h (truth b) rest = refl
  outcome_events h (nonneg n) rest = refl
  outcome_events h (neg z) rest = refl
  outcome_events h (num x) rest = refl
  outcome_events h (str s) rest = refl
  outcome_events h (list ts) rest =
      ap (outcome false false (in_list [] h)) (append_assoc (child_events ts) (finish ∷ []) rest)
      ∙ outcome_children ts [] h (finish ∷ rest)
      ∙ ap (λ z. outcome false false (with_tree (list z) h) rest) (trees_listed (retained_children ts))
  outcome_events h (members ms) rest =
      ap (outcome false false (in_members no_members None h)) (append_assoc (member_events ms) (finish ∷ []) rest)
      ∙ outcome_members ms no_members h (finish ∷ rest)
      ∙ ap (λ z. outcome false false (with_tree (members z) h) rest) (puts_retained ms)

  pub outcome_children : (ts : Trees) (us : List Tree) (h : Hole) (rest : List Step)
      → outcome false false (in_list us h) (child_events ts ++ rest) ≡ outcome false false
      (in_list (us ++ listed (retained_children ts)) h) rest
  outcome_children no_trees us h rest = ap (λ z. outcome false false (in_list z h) rest) (sym (append-nil us))
  outcome_children (tree t ts) us h rest =
      ap (outcome false true (in_list us h)) (append_assoc (events t) (child_events ts) rest)
      ∙ outcome_events (in_list us h) t (child_events ts ++ rest)
      ∙ outcome_children ts (us ++ retained_tree t ∷ []) h rest
      ∙ ap (λ z. outcome false false (in_list z h) rest) (append_assoc us (retained_tree t ∷ []) (listed (retained_children ts)))

  pub outcome_members : (ms made : Members) (h : Hole) (rest : List Step)
      → outcome false false (in_members made None h) (member_events ms ++ rest) ≡ outcome false false
      (in_members (put_retained made ms) None h) rest
  outcome_members no_members made h rest = refl
  outcome_members (member n t ms) made h rest =
      ap (outcome false true (in_members made (Some n) h)) (append_assoc (events t) (member_events ms) rest)
      ∙ outcome_events (in_members made (Some n) h) t (member_events ms ++ rest)
      ∙ outcome_members ms (put_member n (retained_tree t) made) h rest

-- the events of a tree give its retained tree, if duplicate names are allowed
pub outcome-whole : (t : Tree) → outcome false true (outside []) (events t) ≡ Some (retained_tree t)
outcome-whole t = ap (outcome false true (outside [])) (sym (append-nil (events t))) ∙ outcome_events (outside []) t []

-- the tree u is the retained tree of t exactly if `Some` of the one is `Some` of the other
pub reads-agree : (t u : Tree) → (u ≡ retained_tree t) ↔ (◌≡◌ {A = Option Tree} (Some (retained_tree t)) (Some u))
reads-agree t u = (λ e. ap (λ (x : Tree). Some x) (sym e), λ e. cc)

-- ---- arrays

same_list : (u : Tree) (ts : Trees) → only_list (Some u) ≡ Some (list ts) → list ts ≡ u
same_list (list us) ts e = cc
same_list (members ms) ts e = absurd (cc)
same_list null ts e = absurd (cc)
same_list (truth b) ts e = absurd (cc)
same_list (nonneg n) ts e = absurd (cc)
same_list (neg z) ts e = absurd (cc)
same_list (num x) ts e = absurd (cc)
same_list (str s) ts e = absurd (cc)

-- the retained tree of t is the array ts exactly if `only_list` returns that array for it
pub list-agrees : (t : Tree) (ts : Trees) → (list ts ≡ retained_tree t) ↔ (only_list (Some (retained_tree t)) ≡ Some (list ts))
list-agrees t ts = (λ e. ap (λ (x : Tree). only_list (Some x)) (sym e), same_list (retained_tree t) ts)

-- ---- objects

same_members : (u : Tree) (ms : Members) → only_members (Some u) ≡ Some (members ms) → members ms ≡ u
same_members (members ns) ms e = cc
same_members (list us) ms e = absurd (cc)
same_members null ms e = absurd (cc)
same_members (truth b) ms e = absurd (cc)
same_members (nonneg n) ms e = absurd (cc)
same_members (neg z) ms e = absurd (cc)
same_members (num x) ms e = absurd (cc)
same_members (str s) ms e = absurd (cc)

-- the retained tree of t is the object ms exactly if `only_members` returns that object for it
pub members-agree : (t : Tree) (ms : Members) → (members ms ≡ retained_tree t) ↔ (only_members (Some (retained_tree t)) ≡ Some (members ms))
members-agree t ms = (λ e. ap (λ (x : Tree). only_members (Some x)) (sym e), same_members (retained_tree t) ms)
