-- A normal form has no duplicate name, and it has as many values as its tree if that has no duplicate name. By
-- recursion over the tree: the names of the normal form strictly ascend (`norm_rises`), and a member with a new name
-- adds its own size (`size_with_first`).
use Rattle.std.proofs.Common.{◌≡◌, ℕ, ◌+◌, ℤ, pos, negsuc, Bool, true, false, List, Option, Some, None, option_map}
use Rattle.std.proofs.Common.{bytes_eq, cond, is_some, refl, sym, ap, ap₂, ◌∙◌, arith, Ordering, Less, Equal}
use Rattle.std.proofs.Common.{Greater, true≢false}
use Rattle.std.specs.Prelude.{not, ◌&&◌}
use Rattle.std.proofs.lemmas.Map.Lookups.{exact_bytes}
use Rattle.std.specs.Ordering.{match_ordering}
use Rattle.miniserde_model.specs.Tree.{Tree, null, truth, nonneg, neg, num, str, list, members, Trees, no_trees}
use Rattle.miniserde_model.specs.Tree.{tree, Members, no_members, member}
use Rattle.miniserde_model.specs.Normal.{text_cmp, with_if_absent, norm_neg, norm, norm_children}
use Rattle.miniserde_model.specs.Normal.{norm_members, or_else, last_of, Rise}
use Rattle.miniserde_model.specs.Size.{size, size_of_children, size_of_members}
use Rattle.miniserde_model.specs.Distinct.{has_name, names_distinct, names_distinct_in_children, names_distinct_in_members}
use Rattle.miniserde_model.proofs.Lookups.{norm_keeps_last, norm_rises}
use Rattle.miniserde_model.proofs.OneNormal.{absent, same_itself}

both : (a b : Bool) → a ≡ true → b ≡ true → (a && b) ≡ true
both true true p q = refl
both true false p q = q
both false b p q = p

first_of : (a b : Bool) → (a && b) ≡ true → a ≡ true
first_of true b e = refl
first_of false b e = e

second_of : (a b : Bool) → (a && b) ≡ true → b ≡ true
second_of true b e = e
second_of false b e = absurd (cc)

-- ---- the normal form

-- each member's tree has no duplicate name
abbrev each_distinct : Members → Bool
each_distinct no_members = true
each_distinct (member name t ms) = names_distinct t && each_distinct ms

each_with_first : (name : List ℕ) (t : Tree) (ms : Members) → names_distinct t ≡ true → each_distinct ms ≡ true
    → each_distinct (with_if_absent name t ms) ≡ true
each_with_first name t no_members d e = both (names_distinct t) true d refl
each_with_first name t (member other u ms) d e = go (text_cmp name other) (each_with_first name t ms d (second_of (names_distinct u) _ e))
  where
    go : (o : Ordering) → each_distinct (with_if_absent name t ms) ≡ true
        → each_distinct (match_ordering o (member name t (member other u ms)) (member other u ms) (member other u
        (with_if_absent name t ms))) ≡ true
    go Less more = both (names_distinct t) _ d e
    go Equal more = e
    go Greater more = both (names_distinct u) _ (first_of (names_distinct u) _ e) more

-- names that rise stand once
rising_distinct : (ms : Members) → Rise ms → each_distinct ms ≡ true → names_distinct_in_members ms ≡ true
rising_distinct no_members r e = refl
rising_distinct (member name t ms) r e =
    both _ _ (ap (λ o. not (is_some o)) (absent name ms r.0 r.1))
    (both (names_distinct t) _ (first_of (names_distinct t) _ e)
    (rising_distinct ms r.1 (second_of (names_distinct t) _ e)))

neg_distinct : (z : ℤ) → names_distinct (norm_neg z) ≡ true
neg_distinct (pos n) = refl
neg_distinct (negsuc n) = refl

mutual
  pub norm_distinct : (t : Tree) → names_distinct (norm t) ≡ true
  norm_distinct null = refl
  norm_distinct (truth x) = refl
  norm_distinct (nonneg n) = refl
  norm_distinct (neg z) = neg_distinct z
  norm_distinct (num x) = refl
  norm_distinct (str s) = refl
  norm_distinct (list ts) = children_distinct ts
  norm_distinct (members ms) = rising_distinct (norm_members ms) (norm_rises norm_neg ms) (members_distinct ms)

  children_distinct : (ts : Trees) → names_distinct_in_children (norm_children ts) ≡ true
  children_distinct no_trees = refl
  children_distinct (tree t ts) = both _ _ (norm_distinct t) (children_distinct ts)

  members_distinct : (ms : Members) → each_distinct (norm_members ms) ≡ true
  members_distinct no_members = refl
  members_distinct (member name t ms) = each_with_first name (norm t) (norm_members ms) (norm_distinct t) (members_distinct ms)

-- ---- its size

none_there : (a b : Option Tree) → or_else a b ≡ None → (a ≡ None) × (b ≡ None)
none_there None b e = (refl, e)
none_there (Some t) b e = absurd (cc)

size_with_first : (name : List ℕ) (t : Tree) (ms : Members) → last_of name ms ≡ None
    → size_of_members (with_if_absent name t ms) ≡ size t + size_of_members ms
size_with_first name t no_members e = refl
size_with_first name t (member other u ms) e =
    go (text_cmp name other) refl (size_with_first name t ms (none_there (last_of name ms) _ e).0)
  where
    go : (o : Ordering) → text_cmp name other ≡ o → size_of_members (with_if_absent name t ms)
        ≡ size t + size_of_members ms
        → size_of_members (match_ordering o (member name t (member other u ms)) (member other u ms) (member other u
        (with_if_absent name t ms)))
        ≡ size t + (size u + size_of_members ms)
    go Less s more = refl
    go Equal s more =
        let same : other ≡ name = sym (exact_bytes name other s) in
        let here : ◌≡◌ {A = Option Tree} (cond (bytes_eq other name) (Some u) None) (Some u) =
        ap (λ (b : Bool). cond b (Some u) None) (ap (λ n. bytes_eq n name) same ∙ same_itself name) in
        let none : cond (bytes_eq other name) (Some u) None ≡ None = (none_there (last_of name ms) _ e).1 in
        absurd (true≢false (ap is_some (sym here ∙ none)))
    go Greater s more = omega (arith, more)

mapped_none : (o : Option Tree) → not (is_some o) ≡ true → option_map norm o ≡ None
mapped_none None e = refl
mapped_none (Some t) e = absurd (cc)

neg_size : (z : ℤ) → size (norm_neg z) ≡ 1
neg_size (pos n) = refl
neg_size (negsuc n) = refl

mutual
  pub distinct_size : (t : Tree) → names_distinct t ≡ true → size (norm t) ≡ size t
  distinct_size null d = refl
  distinct_size (truth x) d = refl
  distinct_size (nonneg n) d = refl
  distinct_size (neg z) d = neg_size z
  distinct_size (num x) d = refl
  distinct_size (str s) d = refl
  distinct_size (list ts) d = ap (λ n. 1 + n) (children_size ts d)
  distinct_size (members ms) d = ap (λ n. 1 + n) (members_size ms d)

  children_size : (ts : Trees) → names_distinct_in_children ts ≡ true → size_of_children (norm_children ts) ≡ size_of_children ts
  children_size no_trees d = refl
  children_size (tree t ts) d = ap₂ (λ m n. m + n) (distinct_size t (first_of (names_distinct t) _ d))
      (children_size ts (second_of (names_distinct t) _ d))

  members_size : (ms : Members) → names_distinct_in_members ms ≡ true → size_of_members (norm_members ms) ≡ size_of_members ms
  members_size no_members d = refl
  members_size (member name t ms) d =
      let once = first_of (not (has_name name ms)) _ d in
      let rest = second_of (not (has_name name ms)) _ d in
      size_with_first name (norm t) (norm_members ms) (norm_keeps_last norm_neg name ms ∙ mapped_none (last_of name ms) once)
      ∙ ap₂ (λ m n. m + n) (distinct_size t (first_of (names_distinct t) _ rest)) (members_size ms (second_of (names_distinct t) _ rest))
