-- The fields of a struct with distinct names are read back from its written members. Field by field: the member in
-- front is the only one of its name (`last_own`), the later ones are left for the later fields (`others_own`), and an
-- omitted `None` is read as a missing field (`round_trips-omitted`).
use Rattle.std.proofs.Common.{◌≡◌, ℕ, ◌+◌, ◌≤◌, Bool, true, false, ◌&&◌, nat_eq, List, [], ◌∷◌, length, Option}
use Rattle.std.proofs.Common.{Some, None, refl, sym, ap, subst, ◌∙◌, true≢false, arith}
use Rattle.std.specs.Prelude.{IsSome, MatchOption, option_map, ⊤}
use Rattle.std.proofs.lemmas.Bool.Decides.{nat_tests}
use Rattle.miniserde_model.specs.Tree.{Tree, null, Members, member}
use Rattle.miniserde_model.specs.Normal.{last_of}
use Rattle.miniserde_keys.specs.Ranged.{OptionValid}
use Rattle.miniserde_ser.specs.Trees.{option_tree}
use Rattle.miniserde_read.specs.Meaning.{Meaning}
use Rattle.miniserde_read.specs.Meanings.{option_meaning}
use Rattle.miniserde_read.specs.types.Objects.{Name}
use Rattle.miniserde_laws.specs.RoundTrip.{RoundTrips}
use Rattle.miniserde_record.specs.Fields.{other_members, AllOfName, LastMemberReads, count_named, OnceAnd}
use Rattle.miniserde_record.specs.Fields.{missing_content, MissingReads, value_rule}
use Rattle.miniserde_record.specs.FieldsMeaning.{FieldsMeaning, field_and}
use Rattle.miniserde_record.specs.Marks.{all_among}
use Rattle.miniserde_record.specs.laws.Meanings.{values_of, FieldsInTurn, field-in_turn, missing-agrees}
use Rattle.miniserde_record.specs.Structs.{is_new, are_distinct, are_names}
use Rattle.miniserde_record.specs.Structs.{with_names, FieldsRoundTrip}
use Rattle.miniserde_record.proofs.Names.{same, both, apart, count_new, with_names_none}

-- a name for each of one field more
pub more_names : (k : ℕ) (n : Name) (ns : List Name) → are_names (k + 1) (n ∷ ns) ≡ true → (is_new n ns ≡ true) × (are_names k ns ≡ true)
more_names k n ns h =
    let p = both (nat_eq (length (n ∷ ns)) (k + 1)) (is_new n ns && are_distinct ns) h in
    let q = both (is_new n ns) (are_distinct ns) p.1 in
    let e : nat_eq (length ns) k ≡ true = grind (arith, nat_tests, p.0) in
    (q.0, rw (e, q.1) refl)

-- so many distinct names
pub distinct_names : (k : ℕ) (ns : List Name) → length ns ≡ k → are_distinct ns ≡ true → are_names k ns ≡ true
distinct_names k ns h d = let e : nat_eq (length ns) k ≡ true = grind (arith, nat_tests, h) in rw (e, d) refl

-- the empty list does not have k + 1 names
pub no_names : (k : ℕ) → are_names (k + 1) [] ≡ true → ⊥
no_names k h = let e : 0 ≡ k + 1 = grind (arith, nat_tests, (both (nat_eq 0 (k + 1)) true h).0) in omega (arith, e)

-- no later member has a new name
others_new : (n : Name) (ns : List Name) (ts : List (Option Tree)) → is_new n ns ≡ true
    → other_members n (with_names ns ts) ≡ with_names ns ts
others_new n [] ts h = refl
others_new n (k ∷ ks) [] h = refl
others_new n (k ∷ ks) (None ∷ ts) h = others_new n ks ts (apart n k ks h).1
others_new n (k ∷ ks) (Some t ∷ ts) h = let p = apart n k ks h in rw p.0 (ap (member k t) (others_new n ks ts p.1))

-- so each one that has it means something
pub all_new : {C : Type 0} (of : Tree → Option C) (n : Name) (ns : List Name) (ts : List (Option Tree))
    → is_new n ns ≡ true → AllOfName of n (with_names ns ts)
all_new of n [] ts h = tt
all_new of n (k ∷ ks) [] h = tt
all_new of n (k ∷ ks) (None ∷ ts) h = all_new of n ks ts (apart n k ks h).1
all_new of n (k ∷ ks) (Some t ∷ ts) h = let p = apart n k ks h in (λ e. absurd (true≢false (sym e ∙ p.0)), all_new of n ks ts p.1)

-- and there is no last one
last_new : (n : Name) (ns : List Name) (ts : List (Option Tree)) → is_new n ns ≡ true → last_of n (with_names ns ts) ≡ None
last_new n [] ts h = refl
last_new n (k ∷ ks) [] h = refl
last_new n (k ∷ ks) (None ∷ ts) h = last_new n ks ts (apart n k ks h).1
last_new n (k ∷ ks) (Some t ∷ ts) h = let p = apart n k ks h in rw (p.0, last_new n ks ts p.1) refl

-- a new name's own member is its last one
pub last_own : (n : Name) (t : Tree) (ns : List Name) (ts : List (Option Tree)) → is_new n ns ≡ true
    → last_of n (member n t (with_names ns ts)) ≡ Some t
last_own n t ns ts h = rw (last_new n ns ts h, same n) refl

-- and the others are the later ones
pub others_own : (n : Name) (t : Tree) (ns : List Name) (ts : List (Option Tree)) → is_new n ns ≡ true
    → other_members n (member n t (with_names ns ts)) ≡ with_names ns ts
others_own n t ns ts h = rw (same n) (others_new n ns ts h)

-- so its own member is one alone
count_own : (n : Name) (t : Tree) (ns : List Name) (ts : List (Option Tree)) → is_new n ns ≡ true
    → count_named n (member n t (with_names ns ts)) ≤ 1
count_own n t ns ts h = rw (same n, count_new n ns ts h) (omega (arith))

-- `once`, where one member alone has the name
and_once : (once : Bool) (n : Name) (ms : Members) (P : Type 0) → count_named n ms ≤ 1 → P → OnceAnd once n ms P
and_once false n ms P c p = p
and_once true n ms P c p = (c, p)

once_and : (once : Bool) (n : Name) (ms : Members) (P : Type 0) → OnceAnd once n ms P → P
once_and false n ms P h = h
once_and true n ms P h = h.1

module _ {A W : Type 0} (once : Bool) (m : Meaning A) (missing : A → Type 0) (valid_a : A → Type 0) (tree : A → Tree)
    (valid_r : W → Type 0) (trees : W → List (Option Tree)) (count : ℕ) (reads_r : List Name → Members → W → Type 0)
    (first : (v : A) → valid_a v → RoundTrips valid_a tree m.reads (tree v))
    (later : (names : List Name) (v : W) → are_names count names ≡ true → valid_r v
    → FieldsRoundTrip valid_r trees reads_r names (trees v)) where
  -- a written field is there, so what a missing one has is not asked for
  pub round_trips-field : (names : List Name) (v : A × W) → are_names (count + 1) names ≡ true → valid_a v.0 × valid_r v.1
      → FieldsRoundTrip (λ (v : A × W). valid_a v.0 × valid_r v.1) (λ v. Some (tree v.0) ∷ trees v.1)
      (FieldsInTurn (values_of once m missing) reads_r) names (Some (tree v.0) ∷ trees v.1)
  round_trips-field [] v f r = absurd (no_names count f)
  round_trips-field (n ∷ ns) v f r =
      let f = more_names count n ns f in
      let a = first v.0 r.0 in
      let b = later ns v.1 f.1 r.1 in
      let ms = member n (tree v.0) (with_names ns (trees v.1)) in
      let last = last_own n (tree v.0) ns (trees v.1) f.0 in
      let rest = others_own n (tree v.0) ns (trees v.1) f.0 in
      let some : IsSome (m.from_tree (tree v.0)) = rw ((m.reads_agrees (tree v.0) a.0.0).0 a.0.2) refl in
      let says : (w : A) → Type 0 = λ w. LastMemberReads (missing w) (λ t. m.reads t w) m.from_tree n ms in (
        (
          (a.0.0, b.0.0),
          (a.0.1, b.0.1),
          (
            and_once once n ms (says a.0.0) (count_own n (tree v.0) ns (trees v.1) f.0) (
              (λ _. some, all_new m.from_tree n ns (trees v.1) f.0),
              subst (λ o. MatchOption o (missing a.0.0) (λ t. m.reads t a.0.0)) (sym last) a.0.2,
            ),
            subst (λ ms. reads_r ns ms b.0.0) (sym rest) b.0.2,
          ),
        ),
        λ w s e. rw (
          a.1 w.0 s.0 (subst (λ o. MatchOption o (missing w.0) (λ t. m.reads t w.0)) last (once_and once n ms (says w.0) e.0).1),
          b.1 w.1 s.1 (subst (λ ms. reads_r ns ms w.1) rest e.1),
        ) refl,
      )

-- ---- a field that may be left out

module _ {A W : Type 0} (once : Bool) (m : Meaning A) (valid_a : A → Type 0) (tree : A → Tree)
    (valid_r : W → Type 0) (trees : W → List (Option Tree)) (count : ℕ) (reads_r : List Name → Members → W → Type 0)
    (first : (v : Option A) → OptionValid valid_a v
    → RoundTrips (OptionValid valid_a) (option_tree tree) (option_meaning m).reads (option_tree tree v))
    (never : (v : A) → valid_a v → tree v ≡ null → ⊥)
    (later : (names : List Name) (v : W) → are_names count names ≡ true → valid_r v
    → FieldsRoundTrip valid_r trees reads_r names (trees v)) where
  -- nothing is written of `None`, which is what a missing field has
  abbrev missing : Option A → Type 0
  missing v = MissingReads (option_meaning m) None (Some None) v

  abbrev reads : List Name → Members → Option A × W → Type 0
  reads ns ms v = FieldsInTurn (values_of once (option_meaning m) missing) reads_r ns ms v

  pub round_trips-omitted : (names : List Name) (v : Option A × W) → are_names (count + 1) names ≡ true
      → OptionValid valid_a v.0 × valid_r v.1
      → FieldsRoundTrip (λ (v : Option A × W). OptionValid valid_a v.0 × valid_r v.1)
      (λ v. option_map tree v.0 ∷ trees v.1) reads names (option_map tree v.0 ∷ trees v.1)
  round_trips-omitted [] v f r = absurd (no_names count f)
  round_trips-omitted (n ∷ ns) (Some x, w) f r =
      let a = round_trips-field once (option_meaning m) missing (OptionValid valid_a) (option_tree tree) valid_r trees
      count reads_r first later (n ∷ ns) (Some x, w) f r in
      (a.0, λ u s e. written u s (a.1 u s e))
    where
      written : (u : Option A × W) → OptionValid valid_a u.0 × valid_r u.1 → Some (option_tree tree u.0) ∷ trees u.1
          ≡ Some (tree x) ∷ trees w → option_map tree u.0 ∷ trees u.1 ≡ Some (tree x) ∷ trees w
      written (None, u) s e = absurd (never x r.0 (sym (cc)))
      written (Some y, u) s e = e
  round_trips-omitted (n ∷ ns) (None, w) f r =
      let f = more_names count n ns f in
      let b = later ns w f.1 r.1 in
      let ms = with_names ns (trees w) in
      let last = last_new n ns (trees w) f.0 in
      let rest = others_new n ns (trees w) f.0 in (
        (
          (None, b.0.0),
          (tt, b.0.1),
          (
            and_once once n ms _ (rw (count_new n ns (trees w) f.0) (omega (arith)))
                (all_new (option_meaning m).from_tree n ns (trees w) f.0, rw last refl),
            subst (λ ms. reads_r ns ms b.0.0) (sym rest) b.0.2,
          ),
        ),
        λ u s e. rw (
          none u.0 (subst (λ o. MatchOption o (missing u.0) (λ t. (option_meaning m).reads t u.0)) last (once_and once n ms _ e.0).1),
          b.1 u.1 s.1 (subst (λ ms. reads_r ns ms u.1) rest e.1),
        ) refl,
      )
    where
      none : (o : Option A) → missing o → option_map tree o ≡ None
      none None h = refl
      none (Some y) h = absurd (cc)

-- ---- field by field in turn, and each by itself

module _ {A W : Type 0} (once : Bool) (given : Option Tree) (m : Meaning A) (absent : Option A) (n : FieldsMeaning W)
    (valid : A × W → Type 0) (trees : A × W → List (Option Tree)) (names : List Name) (ts : List (Option Tree)) where
  -- the members mean the values, the field by what it is and the later ones by what it leaves
  abbrev InTurn : List Name → Members → A × W → Type 0
  InTurn = FieldsInTurn (value_rule once given m absent) (n.reads [])

  -- what is read back in turn is read back by each field itself
  pub round_trips-alone : FieldsRoundTrip valid trees InTurn names ts
      → FieldsRoundTrip valid trees ((field_and once given m absent n).reads []) names ts
  round_trips-alone h =
      let f = field_and once given m absent n in
      let turn = field-in_turn once m (missing_content m given absent) (MissingReads m given absent)
      (missing-agrees m given absent) (n.reads []) n.from_members n.content n.empty (n.reads_agrees []) in (
        (h.0.0, h.0.1, (f.reads_agrees [] names (with_names names ts) h.0.0).1 ((turn names (with_names names ts) h.0.0).0 h.0.2)),
        λ v r e. h.1 v r ((turn names (with_names names ts) v).1 ((f.reads_agrees [] names (with_names names ts) v).0 e)),
      )

-- no member is left behind the last field
pub round_trips-closed : (names : List Name)
    → FieldsRoundTrip {V = Unit {0}} (λ _. ⊤) (λ _. []) (λ ns ms v. all_among [] ms ≡ true) names []
round_trips-closed names = ((tt, tt, ap (all_among []) (with_names_none names)), λ v r e. refl)
