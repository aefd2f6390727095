-- A normal form has as many members as its object if no name is duplicated, and else fewer. By induction over the
-- members: `with_if_absent` adds a member if its name is new, and adds none otherwise.
use Rattle.std.proofs.Common.{◌≡◌, ◌≤◌, ◌<◌, ℕ, suc, nat_eq, Bool, true, false, not, ◌&&◌, List, Option, Some, None}
use Rattle.std.proofs.Common.{option_map, bytes_eq, cond, is_some, refl, sym, ap, ◌∙◌, arith, Ordering, Less, Equal}
use Rattle.std.proofs.Common.{Greater, true≢false}
use Rattle.std.proofs.lemmas.Cmp.{nat_list_cmp_total, tied_itself}
use Rattle.std.proofs.lemmas.Map.Lookups.{exact_bytes}
use Rattle.std.proofs.lemmas.Slice.Eq.{bytes_eq-Decides}
use Rattle.std.proofs.lemmas.Bool.{eq-eqb}
use Rattle.std.proofs.lemmas.Bool.Decides.{nat_tests}
use Rattle.std.specs.Ordering.{match_ordering}
use Rattle.miniserde_model.specs.Tree.{Tree, Members, no_members, member}
use Rattle.miniserde_model.specs.Normal.{text_cmp, with_if_absent, norm_neg, norm, norm_members, or_else, last_of, Rise}
use Rattle.miniserde_model.specs.Distinct.{has_name, names_distinct, names_distinct_in_members}
use Rattle.miniserde_model.proofs.Lookups.{norm_keeps_last, norm_rises, or_else_none}
use Rattle.miniserde_model.proofs.OneNormal.{absent}
use Rattle.miniserde_canonical.specs.private.States.{count}

-- ---- one more member

none_there : (a b : Option Tree) → or_else a b ≡ None → (a ≡ None) × (b ≡ None)
none_there None b e = (refl, e)
none_there (Some t) b e = absurd (cc)

unlike : (n other : List ℕ) → text_cmp n other ≡ Greater → bytes_eq other n ≡ false
unlike n other g = go (bytes_eq other n) refl
  where
    go : (b : Bool) → bytes_eq other n ≡ b → b ≡ false
    go false e = refl
    go true e = absurd (not_equal (sym g ∙ ap (λ z. text_cmp n z) ((bytes_eq-Decides other n).0 e) ∙ tied_itself nat_list_cmp_total n))
      where
        not_equal : ◌≡◌ {A = Ordering} Greater Equal → ⊥
        not_equal e = absurd (cc)

-- a name that is there makes no more
first_there : (n : List ℕ) (t : Tree) (ms : Members) → Rise ms → has_name n ms ≡ true → count (with_if_absent n t ms) ≡ count ms
first_there n t no_members r h = absurd (true≢false (sym h))
first_there n t (member other u ms) r h = go (text_cmp n other) refl (first_there n t ms r.1)
  where
    go : (o : Ordering) → text_cmp n other ≡ o → (has_name n ms ≡ true → count (with_if_absent n t ms) ≡ count ms)
        → count (match_ordering o (member n t (member other u ms)) (member other u ms) (member other u
        (with_if_absent n t ms))) ≡ count (member other u ms)
    go Less s more = absurd (true≢false (sym h ∙ ap is_some (absent n (member other u ms) s r)))
    go Equal s more = refl
    go Greater s more =
        let there : has_name n ms ≡ true =
        sym (ap is_some (ap (λ (b : Bool). or_else (last_of n ms) (cond b (Some u) None)) (unlike n other s)
        ∙ or_else_none (last_of n ms))) ∙ h in
        ap suc (more there)

first_new : (n : List ℕ) (t : Tree) (ms : Members) → last_of n ms ≡ None → count (with_if_absent n t ms) ≡ suc (count ms)
first_new n t no_members e = refl
first_new n t (member other u ms) e = go (text_cmp n other) refl (first_new n t ms (none_there (last_of n ms) _ e).0)
  where
    go : (o : Ordering) → text_cmp n other ≡ o → count (with_if_absent n t ms) ≡ suc (count ms)
        → count (match_ordering o (member n t (member other u ms)) (member other u ms) (member other u (with_if_absent n t ms))) ≡ suc
        (count (member other u ms))
    go Less s more = refl
    go Equal s more =
        let same : bytes_eq other n ≡ true = (bytes_eq-Decides other n).1 (sym (exact_bytes n other s)) in
        let here : cond (bytes_eq other n) (Some u) None ≡ Some u = ap (λ (b : Bool). cond b (Some u) None) same in
        absurd (true≢false (ap is_some (sym here ∙ (none_there (last_of n ms) _ e).1)))
    go Greater s more = ap suc more

-- ---- all members

norm_has : (n : List ℕ) (ms : Members) → has_name n (norm_members ms) ≡ has_name n ms
norm_has n ms = ap is_some (norm_keeps_last norm_neg n ms) ∙ mapped (last_of n ms)
  where
    mapped : (o : Option Tree) → is_some (option_map norm o) ≡ is_some o
    mapped None = refl
    mapped (Some t) = refl

none_of : (o : Option Tree) → is_some o ≡ false → o ≡ None
none_of None e = refl
none_of (Some t) e = absurd (true≢false e)

abbrev names_once : Members → Bool
names_once no_members = true
names_once (member n t ms) = not (has_name n ms) && names_once ms

-- as many, or fewer
abbrev Counts : Bool → ℕ → ℕ → Type 0
Counts true a b = a ≡ b
Counts false a b = a < b

counts_most : (p : Bool) (a b : ℕ) → Counts p a b → a ≤ b
counts_most true a b h = omega (arith, h)
counts_most false a b h = omega (arith, h)

one_more : (n : List ℕ) (t : Tree) (ms : Members) (p b : Bool) → has_name n ms ≡ b
    → Counts p (count (norm_members ms)) (count ms)
    → Counts (not b && p) (count (with_if_absent n t (norm_members ms))) (suc (count ms))
one_more n t ms p true e h =
    omega (
      arith,
      counts_most p _ _ h,
      first_there n t (norm_members ms) (norm_rises norm_neg ms)
          (norm_has n ms ∙ e),
    )
one_more n t ms true false e h = first_new n t (norm_members ms) (none_of (last_of n (norm_members ms)) (norm_has n ms ∙ e)) ∙ ap suc h
one_more n t ms false false e h =
    omega (arith, h, first_new n t (norm_members ms) (none_of (last_of n (norm_members ms)) (norm_has n ms ∙ e)))

counts_names : (ms : Members) → Counts (names_once ms) (count (norm_members ms)) (count ms)
counts_names no_members = refl
counts_names (member n t ms) = one_more n (norm t) ms (names_once ms) (has_name n ms) refl (counts_names ms)

counts_decide : (p : Bool) (a b : ℕ) → Counts p a b → nat_eq a b ≡ p
counts_decide true a b h = eq-eqb a b h
counts_decide false a b h = grind (arith, nat_tests, h)

-- each tree of the members is without duplicate names
abbrev pub nested_names_distinct : Members → Bool
nested_names_distinct no_members = true
nested_names_distinct (member n t ms) = names_distinct t && nested_names_distinct ms

mixed : (h d v n : Bool) → (h && (d && (v && n))) ≡ ((d && v) && (h && n))
mixed true true v n = refl
mixed true false v n = refl
mixed false true true n = refl
mixed false true false n = refl
mixed false false v n = refl

distinct_parts : (ms : Members) → names_distinct_in_members ms ≡ (nested_names_distinct ms && names_once ms)
distinct_parts no_members = refl
distinct_parts (member n t ms) = ap (λ z. not (has_name n ms) && (names_distinct t && z)) (distinct_parts ms)
    ∙ mixed (not (has_name n ms)) (names_distinct t) (nested_names_distinct ms) (names_once ms)

-- members have distinct names throughout if their trees do and their normal form has as many members
pub distinct_counted : (ms : Members) → names_distinct_in_members ms
    ≡ (nested_names_distinct ms && nat_eq (count (norm_members ms)) (count ms))
distinct_counted ms =
    distinct_parts ms ∙ ap (λ z. nested_names_distinct ms && z) (sym (counts_decide (names_once ms) _ _ (counts_names ms)))
