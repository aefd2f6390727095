-- What the events of a tree give if no name may be a duplicate.
use Rattle.std.proofs.Common.{◌≡◌, ℕ, Bool, true, false, cond, List, [], ◌∷◌, ◌++◌, Option, Some, None, is_some}
use Rattle.std.proofs.Common.{bytes_eq, refl, sym, ap, ap₂, ◌∙◌, append_assoc, append-nil, Ordering, Less, Equal}
use Rattle.std.proofs.Common.{Greater}
use Rattle.std.specs.Prelude.{◌↔◌, ◌&&◌, ◌||◌, not, option_and_then}
use Rattle.std.proofs.lemmas.Map.Lookups.{exact_bytes}
use Rattle.std.specs.Ordering.{match_ordering}
use Rattle.miniserde_text.proofs.Equal.{bytes_eq-flips}
use Rattle.miniserde_model.specs.Tree.{Tree, null, truth, nonneg, neg, num, str, list, members, Trees, no_trees}
use Rattle.miniserde_model.specs.Tree.{tree, Members, no_members, member}
use Rattle.miniserde_model.specs.Step.{Step, finish, events, child_events, member_events}
use Rattle.miniserde_model.specs.Distinct.{has_name, names_distinct, names_distinct_in_children, names_distinct_in_members}
use Rattle.miniserde_model.specs.Normal.{text_cmp, or_else, last_of, put as put_member}
use Rattle.miniserde_value.specs.Retained.{retained_tree, retained_children, retained_if}
use Rattle.miniserde_value.specs.Hole.{Hole, outside, in_list, in_members, with_tree, outcome}
use Rattle.miniserde_value.specs.laws.Outcomes.{outcome-whole}
use Rattle.miniserde_value.specs.laws.Listed.{listed, put_retained, trees_listed, puts_retained}

-- ---- which names members have, with one more put in

some_either : (a b : Option Tree) → is_some (or_else a b) ≡ (is_some b || is_some a)
some_either None None = refl
some_either None (Some u) = refl
some_either (Some t) None = refl
some_either (Some t) (Some u) = refl

some_if : (b : Bool) (t : Tree) → is_some (cond b (Some t) None) ≡ b
some_if true t = refl
some_if false t = refl

has_member_first : (q name : List ℕ) (t : Tree) (ms : Members) → has_name q (member name t ms) ≡ (bytes_eq name q || has_name q ms)
has_member_first q name t ms = some_either (last_of q ms) _ ∙ ap (λ b. b || has_name q ms) (some_if (bytes_eq name q) t)

twice : (a b : Bool) → (a || b) ≡ (a || (a || b))
twice true b = refl
twice false b = refl

swapped : (a b c : Bool) → (a || (b || c)) ≡ (b || (a || c))
swapped true true c = refl
swapped true false c = refl
swapped false b c = refl

has_put : (q name : List ℕ) (t : Tree) (ms : Members) → has_name q (put_member name t ms) ≡ (bytes_eq name q || has_name q ms)
has_put q name t no_members = has_member_first q name t no_members
has_put q name t (member other u ms) = go (text_cmp name other) refl (has_put q name t ms)
  where
    go : (o : Ordering) → text_cmp name other ≡ o
        → has_name q (put_member name t ms) ≡ (bytes_eq name q || has_name q ms)
        → has_name q (match_ordering o (member name t (member other u ms)) (member other t ms) (member other u (put_member name t ms)))
        ≡ (bytes_eq name q || has_name q (member other u ms))
    go Less e more = has_member_first q name t (member other u ms)
    go Equal e more = has_member_first q other t ms ∙ twice (bytes_eq other q) (has_name q ms)
        ∙ ap (λ n. bytes_eq n q || (bytes_eq other q || has_name q ms)) (sym (exact_bytes name other e))
        ∙ ap (λ b. bytes_eq name q || b) (sym (has_member_first q other u ms))
    go Greater e more = has_member_first q other u (put_member name t ms) ∙ ap (λ b. bytes_eq other q || b) more
        ∙ swapped (bytes_eq other q) (bytes_eq name q) (has_name q ms) ∙ ap (λ b. bytes_eq name q || b)
        (sym (has_member_first q other u ms))

-- whether none of the members' names is a name of the members `made`
abbrev all_new : Members → Members → Bool
all_new made no_members = true
all_new made (member name t ms) = not (has_name name made) && all_new made ms

apart : (a b c d : Bool) → (not (a || c) && (not b && d)) ≡ (not (b || a) && (not c && d))
apart true true c d = refl
apart true false c d = refl
apart false true true d = refl
apart false true false d = refl
apart false false c d = refl

all_new_put : (name : List ℕ) (t : Tree) (made ms : Members)
    → all_new (put_member name t made) ms ≡ (not (has_name name ms) && all_new made ms)
all_new_put name t made no_members = refl
all_new_put name t made (member other u ms) =
    ap₂ (λ a b. not a && b) (has_put other name t made) (all_new_put name t made ms)
    ∙ apart (bytes_eq name other) (has_name name ms) (has_name other made) (all_new made ms)
    ∙ ap (λ b. not b && (not (has_name other made) && all_new made ms)) (hidden ∙ sym (has_member_first name other u ms))
  where
    flip : (a b : Bool) → (b || a) ≡ (a || b)
    flip true true = refl
    flip true false = refl
    flip false true = refl
    flip false false = refl

    hidden : (has_name name ms || bytes_eq name other) ≡ (bytes_eq other name || has_name name ms)
    hidden = flip (bytes_eq name other) (has_name name ms) ∙ ap (λ b. b || has_name name ms) (bytes_eq-flips name other)

-- ---- the events of a tree

-- o if b is true, and else nothing
abbrev if_so : Bool → Option Tree → Option Tree
if_so b o = cond b o None

both_so : (a b : Bool) (o : Option Tree) → if_so a (if_so b o) ≡ if_so (a && b) o
both_so true b o = refl
both_so false b o = refl

-- the tests of a member's name and tree and of the members after it, in another order
regrouped : (new d ds unlike rest : Bool)
    → (new && (d && (ds && (unlike && rest)))) ≡ ((unlike && (d && ds)) && (new && rest))
regrouped true true true true rest = refl
regrouped true true true false rest = refl
regrouped true true false true rest = refl
regrouped true true false false rest = refl
regrouped true false ds true rest = refl
regrouped true false ds false rest = refl
regrouped false true true true rest = refl
regrouped false true false true rest = refl
regrouped false false ds true rest = refl
regrouped false d ds false rest = refl

repeated : (b : Bool) (x : Bool × Hole) (f : Bool × Hole → Option Tree) → option_and_then f (cond b None (Some x)) ≡ if_so (not b) (f x)
repeated true x f = refl
repeated false x f = refl

mutual
  pub once_events : (h : Hole) (t : Tree) (rest : List Step) → outcome true true h (events t ++ rest)
      ≡ if_so (names_distinct t) (outcome true false (with_tree (retained_tree t) h) rest)
  once_events h null rest = refl
  once_events h (truth b) rest = refl
  once_events h (nonneg n) rest = refl
  once_events h (neg z) rest = refl
  once_events h (num x) rest = refl
  once_events h (str s) rest = refl
  once_events h (list ts) rest =
      ap (outcome true false (in_list [] h)) (append_assoc (child_events ts) (finish ∷ []) rest)
      ∙ once_children ts [] h (finish ∷ rest)
      ∙ ap (λ z. if_so (names_distinct_in_children ts) (outcome true false (with_tree (list z) h) rest))
      (trees_listed (retained_children ts))
  once_events h (members ms) rest =
      ap (outcome true false (in_members no_members None h)) (append_assoc (member_events ms) (finish ∷ []) rest)
      ∙ once_members ms no_members h (finish ∷ rest)
      ∙ ap₂ (λ b z. if_so b (outcome true false (with_tree (members z) h) rest))
      (all_fresh (names_distinct_in_members ms) ms) (puts_retained ms)

  pub once_children : (ts : Trees) (us : List Tree) (h : Hole) (rest : List Step)
      → outcome true false (in_list us h) (child_events ts ++ rest) ≡ if_so (names_distinct_in_children ts)
      (outcome true false (in_list (us ++ listed (retained_children ts)) h) rest)
  once_children no_trees us h rest = ap (λ z. outcome true false (in_list z h) rest) (sym (append-nil us))
  once_children (tree t ts) us h rest =
      ap (outcome true true (in_list us h)) (append_assoc (events t) (child_events ts) rest)
      ∙ once_events (in_list us h) t (child_events ts ++ rest)
      ∙ ap (if_so (names_distinct t)) (once_children ts (us ++ retained_tree t ∷ []) h rest)
      ∙ both_so (names_distinct t) (names_distinct_in_children ts) _
      ∙ ap (λ z. if_so (names_distinct t && names_distinct_in_children ts) (outcome true false (in_list z h) rest))
      (append_assoc us (retained_tree t ∷ []) (listed (retained_children ts)))

  pub once_members : (ms made : Members) (h : Hole) (rest : List Step)
      → outcome true false (in_members made None h) (member_events ms ++ rest)
      ≡ if_so (names_distinct_in_members ms && all_new made ms)
      (outcome true false (in_members (put_retained made ms) None h) rest)
  once_members no_members made h rest = refl
  once_members (member n t ms) made h rest =
      repeated (has_name n made) (true, in_members made (Some n) h) (λ s. outcome true s.0 s.1 ((events t ++ member_events ms) ++ rest))
      ∙ ap (if_so (not (has_name n made)))
      (ap (outcome true true (in_members made (Some n) h)) (append_assoc (events t) (member_events ms) rest)
      ∙ once_events (in_members made (Some n) h) t (member_events ms ++ rest)
      ∙ ap (if_so (names_distinct t))
      (once_members ms (put_member n (retained_tree t) made) h rest
      ∙ ap (λ b. if_so (names_distinct_in_members ms && b)
      (outcome true false (in_members (put_retained (put_member n (retained_tree t) made) ms) None h) rest))
      (all_new_put n (retained_tree t) made ms)))
      ∙ ap (if_so (not (has_name n made))) (both_so (names_distinct t) _ _)
      ∙ both_so (not (has_name n made)) _ _
      ∙ ap (λ b. if_so b (outcome true false (in_members (put_retained made (member n t ms)) None h) rest))
      (regrouped (not (has_name n made)) (names_distinct t) (names_distinct_in_members ms) (not (has_name n ms)) (all_new made ms))

  all_fresh : (b : Bool) (ms : Members) → (b && all_new no_members ms) ≡ b
  all_fresh true no_members = refl
  all_fresh true (member n t ms) = all_fresh true ms
  all_fresh false ms = refl

-- by `once`, the events of a tree give its retained tree if no name is a duplicate, and else nothing
pub once-whole : (t : Tree) → outcome true true (outside []) (events t) ≡ retained_if true t
once-whole t = ap (outcome true true (outside [])) (sym (append-nil (events t))) ∙ once_events (outside []) t []

-- the events of a tree give what `retained_if once` returns for it
pub gives-retained : (once : Bool) (t : Tree) → outcome once true (outside []) (events t) ≡ retained_if once t
gives-retained true t = once-whole t
gives-retained false t = outcome-whole t

-- the names of t are distinct and u is its retained tree, exactly if `retained_if` returns u
pub once-agrees : (t u : Tree) → ((names_distinct t ≡ true) × (u ≡ retained_tree t)) ↔ (retained_if true t ≡ Some u)
once-agrees t u = elim (names_distinct t) as (λ b. ((b ≡ true) × (u ≡ retained_tree t)) ↔ (cond b (Some (retained_tree t)) None ≡ Some u)) [
  | true ↦ (λ e. ap (λ (x : Tree). Some x) (sym e.1), λ e. (refl, cc))
  | false ↦ (λ e. absurd (cc), λ e. absurd (cc))
]
