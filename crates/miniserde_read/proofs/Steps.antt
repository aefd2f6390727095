-- If a lexer finds a closing bracket, an element or a member next in a container, the remaining children of the
-- container begin with it. By cases on the children: `next_same`, `same_start` and `same_name` show that the first
-- child is the one found.
use Rattle.std.proofs.Common.{◌≡◌, ℕ, Bool, true, false, List, refl, ap, subst}
use Rattle.miniserde_model.specs.Tree.{Tree, Trees, no_trees, tree, Members, no_members, member}
use Rattle.miniserde_model.specs.Step.{Step}
use Rattle.miniserde_model.specs.Lexing.{Starts, Names, Follows}
use Rattle.miniserde_model.specs.declared.kind.Kind.TheVariants.{Seq, Map}
use Rattle.miniserde_text.proofs.FirstEvents.{same_name}
use Rattle.miniserde_read.specs.Rest.{ValueAt, ElementsAt, MembersAt}
use Rattle.miniserde_text.proofs.FirstEvents.{same_start}
use Rattle.miniserde_text.proofs.NextChild.{close_same, next_same, close_no_next}

-- ---- a list

-- before the remaining elements of an array, a closing bracket or an element is next
pub elements_follow : (ts : Trees) (f : Bool) (s r : List ℕ) → ElementsAt ts f s r → (a : Bool) × (b : List ℕ) × Follows Seq f a s b
elements_follow no_trees f s r p = (true, r, p)
elements_follow (tree t ts) f s r p = (false, p.begin, p.follows)

-- if a closing bracket is next, no elements remain, and the array ends behind the bracket
pub elements_close : (ts : Trees) (f : Bool) (s b r : List ℕ) → Follows Seq f true s b → ElementsAt ts f s r → (ts ≡ no_trees) × (r ≡ b)
elements_close no_trees f s b r h p = (refl, close_same Seq f s r b p h)
elements_close (tree t ts) f s b r h p = absurd (close_no_next Seq f s b p.begin h p.follows)

-- the element whose first event was found, and those behind it
pub record ElementThere (ts : Trees) (e : Step) (c r : List ℕ) : Type 0 where
  pub one : Tree
  pub more : Trees
  pub rest : List ℕ
  pub is : ts ≡ tree one more
  pub is_value : ValueAt one e c rest
  pub is_rest : ElementsAt more false rest r

-- if an element is next that starts with e, it is the first remaining one, and its value begins with e
pub elements_there : (ts : Trees) (f : Bool) (s : List ℕ) {b c r : List ℕ} (e : Step) → Follows Seq f false s b → Starts b e c
    → ElementsAt ts f s r → ElementThere ts e c r
elements_there no_trees f s {b = b} {r = r} e h k p = absurd (close_no_next Seq f s r b p h)
elements_there (tree t ts) f s {b = b} {c = c} e h k p =
    let one = next_same Seq f s p.begin b p.follows h in
    let two = same_start b p.event e p.behind c (subst (λ z. Starts z p.event p.behind) one p.starts) k in
    record {
      one = t;
      more = ts;
      rest = p.rest;
      is = refl;
      is_value =
          subst (λ z. ValueAt t z c p.rest) two.0 (subst (λ z. ValueAt t p.event z p.rest) two.1 p.is_value);
      is_rest = p.is_rest;
    }

-- ---- an object

-- before the remaining members of an object, a closing bracket or a member is next
pub members_follow : (ms : Members) (f : Bool) (s r : List ℕ) → MembersAt ms f s r → (a : Bool) × (b : List ℕ) × Follows Map f a s b
members_follow no_members f s r p = (true, r, p)
members_follow (member n t ms) f s r p = (false, p.begin, p.follows)

-- if a member is next before the remaining members, it has a name
pub members_name : (ms : Members) (f : Bool) (s b r : List ℕ) → Follows Map f false s b → MembersAt ms f s r
    → (n : List ℕ) × (c : List ℕ) × Names b n c
members_name no_members f s b r h p = absurd (close_no_next Map f s r b p h)
members_name (member n t ms) f s b r h p = (n, p.named, subst (λ z. Names z n p.named) (next_same Map f s p.begin b p.follows h) p.names)

-- if a closing bracket is next, no members remain, and the object ends behind the bracket
pub members_close : (ms : Members) (f : Bool) (s b r : List ℕ) → Follows Map f true s b → MembersAt ms f s r → (ms ≡ no_members) × (r ≡ b)
members_close no_members f s b r h p = (refl, close_same Map f s r b p h)
members_close (member n t ms) f s b r h p = absurd (close_no_next Map f s b p.begin h p.follows)

pub record MemberThere (ms : Members) (n : List ℕ) (c r : List ℕ) : Type 0 where
  pub one : Tree
  pub more : Members
  pub event : Step
  pub behind : List ℕ
  pub rest : List ℕ
  pub is : ms ≡ member n one more
  pub starts : Starts c event behind
  pub is_value : ValueAt one event behind rest
  pub is_rest : MembersAt more false rest r

-- if a member of the name n is next, it is the first remaining one
pub members_there : (ms : Members) (f : Bool) (s : List ℕ) {b c r n : List ℕ} → Follows Map f false s b → Names b n c
    → MembersAt ms f s r → MemberThere ms n c r
members_there no_members f s {b = b} {r = r} h k p = absurd (close_no_next Map f s r b p h)
members_there (member m t ms) f s {b = b} {c = c} {n = n} h k p =
    let one = next_same Map f s p.begin b p.follows h in
    let two = same_name b m n p.named c (subst (λ z. Names z m p.named) one p.names) k in
    record {
      one = t;
      more = ms;
      event = p.event;
      behind = p.behind;
      rest = p.rest;
      is =
          ap (λ z. member z t ms) two.0;
      starts = subst (λ z. Starts z p.event p.behind) two.1 p.starts;
      is_value =
          p.is_value;
      is_rest = p.is_rest;
    }
