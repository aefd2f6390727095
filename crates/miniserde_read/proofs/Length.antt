-- The text behind a value is no longer than the text before it. By recursion over the tree: each token leaves a text
-- that is no longer (`follows_least`), and the first event of a value leaves a shorter one (`start_less`).
use Rattle.std.proofs.Common.{ℕ, ◌≤◌, ◌++◌, Bool, true, false, List, length, ap, arith, length-append}
use Rattle.miniserde_model.specs.Tree.{Tree, null, truth, nonneg, neg, num, str, list, members, Trees, no_trees}
use Rattle.miniserde_model.specs.Tree.{tree, Members, no_members, member}
use Rattle.miniserde_model.specs.Step.{Step}
use Rattle.miniserde_model.specs.Lexing.{Stands, Follows}
use Rattle.miniserde_model.specs.declared.kind.Kind.{Kind}
use Rattle.miniserde_model.specs.declared.kind.Kind.TheVariants.{Seq, Map}
use Rattle.miniserde_text.proofs.FirstEvents.{start_less}
use Rattle.miniserde_read.specs.Rest.{ValueAt, ElementsAt, MembersAt}

-- the text behind whitespace and a part is no longer than the text before them
pub stands_least : {P : List ℕ → Type 0} (s r : List ℕ) → Stands P s r → length r ≤ length s
stands_least s r p = omega (arith, ap length p.text, length-append p.space (p.part ++ r), length-append p.part r)

-- the text behind a closing bracket or before a child is no longer than the text before it
pub follows_least : (k : Kind) (f a : Bool) (s r : List ℕ) → Follows k f a s r → length r ≤ length s
follows_least k f true s r p = stands_least s r p
follows_least k true false s r p = stands_least s r p.0
follows_least k false false s r p = stands_least s r p

mutual
  pub value_least : (t : Tree) (e : Step) (s r : List ℕ) → ValueAt t e s r → length r ≤ length s
  value_least null e s r p = omega (arith, ap length p.1)
  value_least (truth x) e s r p = omega (arith, ap length p.1)
  value_least (nonneg n) e s r p = omega (arith, ap length p.1)
  value_least (neg n) e s r p = omega (arith, ap length p.1)
  value_least (num x) e s r p = omega (arith, ap length p.1)
  value_least (str x) e s r p = omega (arith, ap length p.1)
  value_least (list ts) e s r p = elements_least ts true s r p.1
  value_least (members ms) e s r p = members_least ms true s r p.1

  pub elements_least : (ts : Trees) (f : Bool) (s r : List ℕ) → ElementsAt ts f s r → length r ≤ length s
  elements_least no_trees f s r p = follows_least Seq f true s r p
  elements_least (tree t ts) f s r p =
      let a = follows_least Seq f false s p.begin p.follows in
      let b = start_less p.begin p.event p.behind p.starts in
      let c = value_least t p.event p.behind p.rest p.is_value in
      let d = elements_least ts false p.rest r p.is_rest in
      omega (arith, a, b, c, d)

  pub members_least : (ms : Members) (f : Bool) (s r : List ℕ) → MembersAt ms f s r → length r ≤ length s
  members_least no_members f s r p = follows_least Map f true s r p
  members_least (member n t ms) f s r p =
      let a = follows_least Map f false s p.begin p.follows in
      let g = stands_least p.begin p.named p.names in
      let b = start_less p.named p.event p.behind p.starts in
      let c = value_least t p.event p.behind p.rest p.is_value in
      let d = members_least ms false p.rest r p.is_rest in
      omega (arith, a, b, c, d, g)
