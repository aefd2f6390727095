-- A member that is put into an object takes the place of those of its name, as a last member does: `put_is_last` says that
-- both have one normal form, by the last tree at each name. What a `Value` retains of members is in byte order
-- (`retained_rises`), so that no member of the name stays behind the new one (`last_put`).
use Rattle.std.proofs.Common.{◌≡◌, ℕ, ℤ, Bool, true, false, List, Option, Some, None, option_map, bytes_eq, cond}
use Rattle.std.proofs.Common.{is_some, refl, sym, ap, ap₂, subst, ◌∙◌, Ordering, Less, Equal, Greater, true≢false}
use Rattle.std.specs.Prelude.{◌≢◌, IsSome, MatchOption}
use Rattle.std.specs.Ordering.{match_ordering, ordering_reverse, is_eq}
use Rattle.std.proofs.lemmas.Bool.{false_from_ne_true}
use Rattle.std.proofs.lemmas.Cmp.{nat_list_cmp_total, tied_itself}
use Rattle.std.proofs.lemmas.Map.Lookups.{exact_bytes}
use Rattle.std.proofs.lemmas.Slice.Eq.{bytes_eq-Decides}
use Rattle.miniserde.specs.Tree.{Tree, members, Members, no_members, member}
use Rattle.miniserde.specs.Laws.{NormKeepsLast, NormRises, NormIsOnly}
use Rattle.miniserde.specs.Normal.{text_cmp, with_if_absent, norm, norm_members}
use Rattle.miniserde.specs.Normal.{or_else, last_of, BeginsAbove, Rise, put}
use Rattle.miniserde.specs.OnlyContainers.{only_members}
use Rattle.miniserde.specs.Retained.{retained_members, retained_tree}
use Rattle.miniserde.specs.Fields.{AllOfName, LastMemberReads}
use Rattle.settings_app.specs.Changes.{with_member_behind, HasOnlyChange}

-- ---- names that rise

above_with_first : (first name : List ℕ) (t : Tree) (ms : Members) → text_cmp first name ≡ Less
    → BeginsAbove first ms → BeginsAbove first (with_if_absent name t ms)
above_with_first first name t no_members p q = p
above_with_first first name t (member other u ms) p q =
    elim (text_cmp name other) as (λ o. BeginsAbove first (match_ordering o (member name t (member other u ms)) (member other u ms)
    (member other u (with_if_absent name t ms))))
    [ Less ↦ p | Equal ↦ q | Greater ↦ q ]

rise_with_first : (name : List ℕ) (t : Tree) (ms : Members) → Rise ms → Rise (with_if_absent name t ms)
rise_with_first name t no_members h = (tt, tt)
rise_with_first name t (member other u ms) h =
    elim (text_cmp name other) as (λ o. text_cmp name other ≡ o
    → Rise (match_ordering o (member name t (member other u ms)) (member other u ms) (member other u (with_if_absent name t ms)))) [
      | Less ↦ λ e. (e, h)
      | Equal ↦ λ e. h
      | Greater ↦ λ e. (
        above_with_first other name t ms (nat_list_cmp_total.antisymm other name ∙ ap ordering_reverse e) h.0,
        rise_with_first name t ms h.1,
      )
    ] refl

-- the names of retained members rise
pub retained_rises : (ms : Members) → Rise (retained_members ms)
retained_rises no_members = tt
retained_rises (member name t ms) = rise_with_first name (retained_tree t) (retained_members ms) (retained_rises ms)

-- ---- the last tree of a name

or_else_none : (a : Option Tree) → or_else a None ≡ a
or_else_none None = refl
or_else_none (Some t) = refl

or_else_assoc : (a b c : Option Tree) → or_else (or_else a b) c ≡ or_else a (or_else b c)
or_else_assoc None b c = refl
or_else_assoc (Some t) b c = refl

or_else_maps : (f : Tree → Tree) (a b : Option Tree) → option_map f (or_else a b) ≡ or_else (option_map f a) (option_map f b)
or_else_maps f None b = refl
or_else_maps f (Some t) b = refl

-- the tree, if the name is q
abbrev if_named : List ℕ → Tree → List ℕ → Option Tree
if_named name u q = cond (bytes_eq name q) (Some u) None

-- a name below the first one has no tree
absent : (q : List ℕ) (ms : Members) → BeginsAbove q ms → Rise ms → last_of q ms ≡ None
absent q no_members b r = refl
absent q (member name t ms) b r =
    let further : (ns : Members) → BeginsAbove name ns → BeginsAbove q ns =
    λ ns. elim ns as (λ ns. BeginsAbove name ns → BeginsAbove q ns)
    [ no_members ↦ λ h. tt | member other u ns ↦ λ h. nat_list_cmp_total.trans q name other b h ] in
    let differ : bytes_eq name q ≡ false = false_from_ne_true _ (λ e.
    true≢false (ap is_eq (sym (ap (text_cmp q) ((bytes_eq-Decides name q).0 e) ∙ tied_itself nat_list_cmp_total q) ∙ b))) in
    ap₂ (λ (x : Option Tree) (y : Bool). or_else x (cond y (Some t) None)) (absent q ms (further ms r.0) r.1) differ

-- if no member of the name is there, a first one and a last one give the same
only_one : (b : Bool) (a : Option Tree) (u v : Tree) → (b ≡ true → a ≡ None)
    → or_else a (cond b (Some u) None) ≡ or_else (cond b (Some u) None) (or_else a (cond b (Some v) None))
only_one true a u v h = ap (λ a. or_else a (Some u)) (h refl)
only_one false a u v h = refl

-- the same, where the member is put in front
either_end : (b : Bool) (a : Option Tree) (u : Tree) → (b ≡ true → a ≡ None)
    → or_else a (cond b (Some u) None) ≡ or_else (cond b (Some u) None) a
either_end true a u h = ap (λ a. or_else a (Some u)) (h refl)
either_end false a u h = or_else_none a

-- after a member is put into members whose names rise, its name has its tree, and the others have theirs
pub last_put : (q name : List ℕ) (u : Tree) (ms : Members) → Rise ms
    → last_of q (put name u ms) ≡ or_else (if_named name u q) (last_of q ms)
last_put q name u no_members r = sym (or_else_none _)
last_put q name u (member other v ms) r =
    let none : (ns : Members) → BeginsAbove name ns → Rise ns → bytes_eq name q ≡ true → last_of q ns ≡ None =
    λ ns b r e. subst (λ z. last_of z ns ≡ None) ((bytes_eq-Decides name q).0 e) (absent name ns b r) in
    elim (text_cmp name other) as (λ o. text_cmp name other ≡ o
    → last_of q (match_ordering o (member name u (member other v ms)) (member other u ms) (member other v (put name u ms))) ≡ or_else
    (if_named name u q) (last_of q (member other v ms))) [
      | Less ↦ λ e. either_end (bytes_eq name q) (last_of q (member other v ms)) u (none (member other v ms) e r)
      | Equal ↦ λ e.
          let same : name ≡ other = exact_bytes name other e in
          only_one (bytes_eq other q) (last_of q ms) u v
          (λ f. none ms (subst (λ z. BeginsAbove z ms) (sym same) r.0) r.1 (subst (λ z. bytes_eq z q ≡ true) (sym same) f))
          ∙ ap (λ z. or_else (if_named z u q) (or_else (last_of q ms) (if_named other v q))) (sym same)
      | Greater ↦ λ e. ap (λ z. or_else z (if_named other v q)) (last_put q name u ms r.1)
          ∙ or_else_assoc (if_named name u q) (last_of q ms) (if_named other v q)
    ] refl

-- ---- a member behind all others

some_only : (a b : Tree) → Some a ≡ Some b → a ≡ b
some_only a b e = cc

members_only : (ms ns : Members) → members ms ≡ members ns → ms ≡ ns
members_only ms ns e = cc

-- the last tree of q is u if q is the name, and else the one of the members
pub last_with_last : (q name : List ℕ) (u : Tree) (ms : Members)
    → last_of q (with_member_behind name u ms) ≡ or_else (if_named name u q) (last_of q ms)
last_with_last q name u no_members = sym (or_else_none _)
last_with_last q name u (member other v ms) = ap (λ z. or_else z (if_named other v q)) (last_with_last q name u ms)
    ∙ or_else_assoc (if_named name u q) (last_of q ms) (if_named other v q)

-- members of a rising order with a member put in, and members of the same normal form with it behind them, have one normal form
pub put_is_last : NormKeepsLast → NormRises → NormIsOnly → (name : List ℕ) (u : Tree) (ms os : Members) → Rise os
    → norm_members os ≡ norm_members ms → norm_members (put name u os) ≡ norm_members (with_member_behind name u ms)
put_is_last keeps rises only name u ms os r e = only (with_member_behind name u ms) (norm_members (put name u os)) (rises (put name u os))
    (λ q. keeps q (put name u os) ∙ ap (option_map norm) (last_put q name u os r)
    ∙ or_else_maps norm (if_named name u q) (last_of q os)
    ∙ ap (or_else (option_map norm (if_named name u q))) (sym (keeps q os) ∙ ap (last_of q) e ∙ keeps q ms)
    ∙ sym (ap (option_map norm) (last_with_last q name u ms) ∙ or_else_maps norm (if_named name u q) (last_of q ms)))

-- An object of a text's tree, with a member put in, has the normal form of the members of that tree with one behind them:
-- x is the content of the value that was read, os and ns are the members of the object before and after.
pub written : NormKeepsLast → NormRises → NormIsOnly → (name : List ℕ) (u t x : Tree) (os ns : Members) → x ≡ retained_tree t
    → norm x ≡ norm t → Some (members os) ≡ only_members (Some x) → ns ≡ put name u os
    → (ms : Members) × (t ≡ members ms) × (norm (members ns) ≡ norm (members (with_member_behind name u ms)))
written keeps rises only name u (members ms) x os ns e n is p =
    let kept = retained_members ms in
    let same : os ≡ kept = members_only os kept (some_only (members os) (members kept) (is ∙ ap (λ x. only_members (Some x)) e)) in
    let normal : norm_members os ≡ norm_members ms =
    ap norm_members same ∙ members_only _ _ (sym (ap norm e) ∙ n) in (
      ms,
      refl,
      ap (λ ns. norm (members ns)) p ∙ ap members (put_is_last keeps rises only name u ms os
          (subst Rise (sym same) (retained_rises ms)) normal),
    )
written keeps rises only name u t x os ns e n is p = absurd (true≢false (ap is_some (is ∙ ap (λ x. only_members (Some x)) e)))

-- the normal form of members with one behind them has changed at that name alone
pub only_change : NormKeepsLast → (name : List ℕ) (u : Tree) (ms : Members) → norm u ≡ u
    → HasOnlyChange name u ms (norm_members (with_member_behind name u ms))
only_change keeps name u ms normal = (
  keeps name (with_member_behind name u ms) ∙ ap (option_map norm) (last_with_last name name u ms)
      ∙ ap (λ b. option_map norm (or_else (cond b (Some u) None) (last_of name ms))) ((bytes_eq-Decides name name).1 refl) ∙ ap Some normal,
  λ q differ. keeps q (with_member_behind name u ms) ∙ ap (option_map norm) (last_with_last q name u ms
      ∙ ap (λ b. or_else (cond b (Some u) None) (last_of q ms))
      (false_from_ne_true _ (λ e. differ (sym ((bytes_eq-Decides name q).0 e))))),
)

-- ---- what a field means

module _ {C : Type 0} (of : Tree → Option C) (k name : List ℕ) (u : Tree) where
  all_with_last : (ms : Members) → (bytes_eq name k ≡ true → IsSome (of u)) → AllOfName of k ms
      → AllOfName of k (with_member_behind name u ms)
  all_with_last no_members h a = (h, tt)
  all_with_last (member other v ms) h a = (a.0, all_with_last ms h a.1)

  -- a field of another name means what it meant
  pub as_before : (missing : Type 0) (Is : Tree → Type 0) (ms : Members) → bytes_eq name k ≡ false
      → LastMemberReads missing Is of k ms → LastMemberReads missing Is of k (with_member_behind name u ms)
  as_before missing Is ms d h = (
    all_with_last ms (λ e. absurd (true≢false (sym e ∙ d))) h.0,
    subst (λ o. MatchOption o missing Is) (sym (last_with_last k name u ms
        ∙ ap (λ b. or_else (cond b (Some u) None) (last_of k ms)) d)) h.1,
  )

-- a field of the name means the tree that stands behind all others
pub as_last : {C : Type 0} (of : Tree → Option C) (name : List ℕ) (u : Tree) (missing : Type 0) (Is : Tree → Type 0) (ms : Members)
    → IsSome (of u) → Is u → AllOfName of name ms → LastMemberReads missing Is of name (with_member_behind name u ms)
as_last of name u missing Is ms some is h = (
  all_with_last of name name u ms (λ _. some) h,
  subst (λ o. MatchOption o missing Is) (sym (last_with_last name name u ms
      ∙ ap (λ b. or_else (cond b (Some u) None) (last_of name ms)) ((bytes_eq-Decides name name).1 refl))) is,
)
