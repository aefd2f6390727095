-- The text behind the first event of a value gives one tree at most, and the value ends at one place. By recursion
-- over both trees (`value_same`): the event determines the kind of the tree, and a closing bracket and a next child
-- exclude each other (`close_no_next`).
use Rattle.std.proofs.Common.{◌≡◌, ℕ, Bool, true, false, List, refl, sym, ap, subst, ◌∙◌, arith}
use Rattle.miniserde_model.specs.Tree.{Tree, null, truth, nonneg, neg, num, str, list, members, Trees, no_trees}
use Rattle.miniserde_model.specs.Tree.{tree, Members, no_members, member}
use Rattle.miniserde_model.specs.Step.{Step, boolean, string, negative, nonnegative, float, seq, map}
use Rattle.miniserde_model.specs.Step as step
use Rattle.miniserde_model.specs.Lexing.{Starts, Names}
use Rattle.miniserde_model.specs.declared.kind.Kind.TheVariants.{Seq, Map}
use Rattle.miniserde_text.proofs.FirstEvents.{same_name}
use Rattle.miniserde_read.specs.Rest.{ValueAt, ElementsAt, MembersAt}
use Rattle.miniserde_text.proofs.FirstEvents.{same_start}
use Rattle.miniserde_text.proofs.NextChild.{close_same, next_same, close_no_next}

-- ---- the first event of a tree

-- the first event of a tree
abbrev pub first_event : Tree → Step
first_event null = step.null
first_event (truth x) = boolean x
first_event (nonneg n) = nonnegative n
first_event (neg n) = negative n
first_event (num x) = float x
first_event (str x) = string x
first_event (list ts) = seq
first_event (members ms) = map

-- if the value t begins with the event e, e is the first event of t
pub value_event : (t : Tree) (e : Step) (s r : List ℕ) → ValueAt t e s r → e ≡ first_event t
value_event null e s r p = p.0
value_event (truth x) e s r p = p.0
value_event (nonneg n) e s r p = p.0
value_event (neg n) e s r p = p.0
value_event (num x) e s r p = p.0
value_event (str x) e s r p = p.0
value_event (list ts) e s r p = p.0
value_event (members ms) e s r p = p.0

-- a number for each kind of tree
abbrev pub tag : Step → ℕ
tag step.null = 0
tag (boolean x) = 1
tag (nonnegative n) = 2
tag (negative n) = 3
tag (float x) = 4
tag (string x) = 5
tag seq = 6
tag map = 7
tag _ = 8

-- the tree of a leaf's event
abbrev pub leaf_tree : Step → Tree
leaf_tree (boolean x) = truth x
leaf_tree (nonnegative n) = nonneg n
leaf_tree (negative n) = neg n
leaf_tree (float x) = num x
leaf_tree (string x) = str x
leaf_tree _ = null

same_leaf : {t u : Tree} {e : Step} {s r x : List ℕ} → leaf_tree (first_event t) ≡ t → leaf_tree (first_event u) ≡ u
    → e ≡ first_event t → e ≡ first_event u → r ≡ s → x ≡ s → (t ≡ u) × (r ≡ x)
same_leaf ht hu p q i j = (sym ht ∙ ap leaf_tree (sym p ∙ q) ∙ hu, i ∙ sym j)

-- ---- one tree

mutual
  pub value_same : (t u : Tree) (e : Step) (s r x : List ℕ) → ValueAt t e s r → ValueAt u e s x → (t ≡ u) × (r ≡ x)
  value_same null null e s r x p q = (refl, p.1 ∙ sym q.1)
  value_same (truth a) (truth b) e s r x p q = same_leaf refl refl p.0 q.0 p.1 q.1
  value_same (nonneg a) (nonneg b) e s r x p q = same_leaf refl refl p.0 q.0 p.1 q.1
  value_same (neg a) (neg b) e s r x p q = same_leaf refl refl p.0 q.0 p.1 q.1
  value_same (num a) (num b) e s r x p q = same_leaf refl refl p.0 q.0 p.1 q.1
  value_same (str a) (str b) e s r x p q = same_leaf refl refl p.0 q.0 p.1 q.1
  value_same (list ts) (list us) e s r x p q = let h = elements_same ts us true s r x p.1 q.1 in (ap list h.0, h.1)
  value_same (members ms) (members ns) e s r x p q = let h = members_same ms ns true s r x p.1 q.1 in (ap members h.0, h.1)
  value_same t u e s r x p q = let k : tag (first_event t) ≡ tag (first_event u) =
      ap tag (sym (value_event t e s r p) ∙ value_event u e s x q) in absurd (omega (arith, k))

  pub elements_same : (ts us : Trees) (f : Bool) (s r x : List ℕ) → ElementsAt ts f s r → ElementsAt us f s x → (ts ≡ us) × (r ≡ x)
  elements_same no_trees no_trees f s r x p q = (refl, close_same Seq f s r x p q)
  elements_same no_trees (tree u us) f s r x p q = absurd (close_no_next Seq f s r q.begin p q.follows)
  elements_same (tree t ts) no_trees f s r x p q = absurd (close_no_next Seq f s x p.begin q p.follows)
  elements_same (tree t ts) (tree u us) f s r x p q =
      let one = next_same Seq f s p.begin q.begin p.follows q.follows in
      let two = same_start p.begin p.event q.event p.behind q.behind p.starts (subst (λ z. Starts z q.event q.behind) (sym one) q.starts) in
      let three = value_same t u p.event p.behind p.rest q.rest p.is_value
      (subst (λ z. ValueAt u z p.behind q.rest) (sym two.0)
      (subst (λ z. ValueAt u q.event z q.rest) (sym two.1) q.is_value)) in
      let four = elements_same ts us false p.rest r x p.is_rest (subst (λ z. ElementsAt us false z x) (sym three.1) q.is_rest) in
      (ap (λ z. tree z ts) three.0 ∙ ap (tree u) four.0, four.1)

  pub members_same : (ms ns : Members) (f : Bool) (s r x : List ℕ) → MembersAt ms f s r → MembersAt ns f s x → (ms ≡ ns) × (r ≡ x)
  members_same no_members no_members f s r x p q = (refl, close_same Map f s r x p q)
  members_same no_members (member n u ns) f s r x p q = absurd (close_no_next Map f s r q.begin p q.follows)
  members_same (member m t ms) no_members f s r x p q = absurd (close_no_next Map f s x p.begin q p.follows)
  members_same (member m t ms) (member n u ns) f s r x p q =
      let one = next_same Map f s p.begin q.begin p.follows q.follows in
      let name = same_name p.begin m n p.named q.named p.names (subst (λ z. Names z n q.named) (sym one) q.names) in
      let two = same_start p.named p.event q.event p.behind q.behind p.starts
      (subst (λ z. Starts z q.event q.behind) (sym name.1) q.starts) in
      let three = value_same t u p.event p.behind p.rest q.rest p.is_value
      (subst (λ z. ValueAt u z p.behind q.rest) (sym two.0)
      (subst (λ z. ValueAt u q.event z q.rest) (sym two.1) q.is_value)) in
      let four = members_same ms ns false p.rest r x p.is_rest (subst (λ z. MembersAt ns false z x) (sym three.1) q.is_rest) in
      (ap (λ z. member z t ms) name.0 ∙ ap (λ z. member n z ms) three.0 ∙ ap (member n u) four.0, four.1)
