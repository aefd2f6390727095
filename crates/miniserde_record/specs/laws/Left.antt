-- The members that are left without those of some names. Of any other name they say what all members say (`last-left`,
-- `all-left`, `count-left`), and of those names nothing (`gone`). So a field may be looked at in what the fields before it leave,
-- or in all members (`one_field`).
use Rattle.std.proofs.Common.{◌≡◌, suc, true, false, ◌||◌, cond, List, [], ◌∷◌, ◌++◌, Option, Some, None}
use Rattle.std.proofs.Common.{refl, sym, ap, subst, ◌∙◌, true≢false, arith}
use Rattle.std.specs.Prelude.{◌↔◌, IsSome, MatchOption, bytes_eq}
use Rattle.std.proofs.lemmas.Slice.Eq.{bytes_eq-Decides}
use Rattle.miniserde_model.specs.Tree.{Tree, Members, no_members, member}
use Rattle.miniserde_model.specs.Normal.{or_else, last_of}
use Rattle.miniserde_read.specs.types.Objects.{Name}
use Rattle.miniserde_record.specs.Fields.{other_members, AllOfName, LastMemberReads, count_named, OnceAnd}
use Rattle.miniserde_record.specs.Fields.{ValueRule, FieldReads}
use Rattle.miniserde_record.specs.Marks.{is_among}

module _ (n k : Name) (differ : bytes_eq n k ≡ false) where
  -- a member of the name n does not have the name k
  one_name : (j : Name) → bytes_eq j n ≡ true → bytes_eq j k ≡ false
  one_name j e = subst (λ i. bytes_eq i k ≡ false) (sym ((bytes_eq-Decides j n).0 e)) differ

  pub last-apart : (ms : Members) → last_of k (other_members n ms) ≡ last_of k ms
  last-apart no_members = refl
  last-apart (member j t ms) =
      elim (bytes_eq j n) as (λ b. bytes_eq j n ≡ b
      → last_of k (cond b (other_members n ms) (member j t (other_members n ms))) ≡ last_of k (member j t ms)) [
        | true ↦ λ e. last-apart ms ∙ rw (one_name j e) (elim (last_of k ms) as (λ o. o ≡ or_else o None) [ None ↦ refl | Some u ↦ refl ])
        | false ↦ λ e. ap (λ o. or_else o (cond (bytes_eq j k) (Some t) None)) (last-apart ms)
      ] refl

  all-apart : {C : Type 0} (of : Tree → Option C) (ms : Members) → AllOfName of k (other_members n ms) ↔ AllOfName of k ms
  all-apart of no_members = (λ h. h, λ h. h)
  all-apart of (member j t ms) = let r = all-apart of ms in
      elim (bytes_eq j n) as (λ b. bytes_eq j n ≡ b
      → AllOfName of k (cond b (other_members n ms) (member j t (other_members n ms)))
      ↔ AllOfName of k (member j t ms)) [
        | true ↦ λ e. (λ h. (λ g. absurd (true≢false (sym g ∙ one_name j e)), r.0 h), λ h. r.1 h.1)
        | false ↦ λ e. (λ h. (h.0, r.0 h.1), λ h. (h.0, r.1 h.1))
      ] refl

  -- as many members have the name k if the members of another name are left out
  pub count-apart : (ms : Members) → count_named k (other_members n ms) ≡ count_named k ms
  count-apart no_members = refl
  count-apart (member j t ms) =
      elim (bytes_eq j n) as (λ b. bytes_eq j n ≡ b
      → count_named k (cond b (other_members n ms) (member j t (other_members n ms))) ≡ cond (bytes_eq j k)
      (suc (count_named k ms)) (count_named k ms)) [
        | true ↦ λ e. rw (one_name j e) (count-apart ms)
        | false ↦ λ e. rw (count-apart ms) refl
      ] refl

turned : (n k : Name) → bytes_eq k n ≡ false → bytes_eq n k ≡ false
turned n k d =
    elim (bytes_eq n k) as (λ b. bytes_eq n k ≡ b → b ≡ false) [
      | true ↦ λ e. absurd (true≢false (sym ((bytes_eq-Decides k n).1 (sym ((bytes_eq-Decides n k).0 e))) ∙ d))
      | false ↦ λ e. refl
    ] refl

-- the members without those of the names
abbrev pub left : List Name → Members → Members
left [] ms = ms
left (n ∷ ns) ms = left ns (other_members n ms)

-- the members of one name more are left out
pub left-append : (ns : List Name) (n : Name) (ms : Members) → left (ns ++ n ∷ []) ms ≡ other_members n (left ns ms)
left-append [] n ms = refl
left-append (k ∷ ks) n ms = left-append ks n (other_members k ms)

-- a member of another name stays in front
pub left-front : (k : Name) (t : Tree) (ns : List Name) → is_among ns k ≡ false → (ms : Members)
    → left ns (member k t ms) ≡ member k t (left ns ms)
left-front k t [] d ms = refl
left-front k t (n ∷ ns) d ms =
    elim (bytes_eq k n) as (λ b. (b || is_among ns k) ≡ false
    → left ns (cond b (other_members n ms) (member k t (other_members n ms))) ≡ member k t (left ns (other_members n ms))) [
      | true ↦ λ d. absurd (cc)
      | false ↦ λ d. left-front k t ns d (other_members n ms)
    ] d

-- if k is none of the names, the last member of the name k has the same tree
last-left : (k : Name) (ns : List Name) → is_among ns k ≡ false → (ms : Members) → last_of k (left ns ms) ≡ last_of k ms
last-left k [] d ms = refl
last-left k (n ∷ ns) d ms =
    elim (bytes_eq k n) as (λ b. bytes_eq k n ≡ b → (b || is_among ns k) ≡ false
    → last_of k (left ns (other_members n ms)) ≡ last_of k ms) [
      | true ↦ λ e d. absurd (cc)
      | false ↦ λ e d. last-left k ns d (other_members n ms) ∙ last-apart n k (turned n k e) ms
    ] refl d

-- if k is none of the names, `of` returns a content for each member of the name k that is left exactly if for each one
all-left : {C : Type 0} (of : Tree → Option C) (k : Name) (ns : List Name) → is_among ns k ≡ false → (ms : Members)
    → AllOfName of k (left ns ms) ↔ AllOfName of k ms
all-left of k [] d ms = (λ h. h, λ h. h)
all-left of k (n ∷ ns) d ms =
    elim (bytes_eq k n) as (λ b. bytes_eq k n ≡ b → (b || is_among ns k) ≡ false
    → AllOfName of k (left ns (other_members n ms)) ↔ AllOfName of k ms) [
      | true ↦ λ e d. absurd (cc)
      | false ↦ λ e d.
          let r = all-left of k ns d (other_members n ms) in
          let a = all-apart n k (turned n k e) of ms in
          (λ h. a.0 (r.0 h), λ h. r.1 (a.1 h))
    ] refl d

-- if k is none of the names, as many members have it
pub count-left : (k : Name) (ns : List Name) → is_among ns k ≡ false → (ms : Members) → count_named k (left ns ms) ≡ count_named k ms
count-left k [] d ms = refl
count-left k (n ∷ ns) d ms =
    elim (bytes_eq k n) as (λ b. bytes_eq k n ≡ b → (b || is_among ns k) ≡ false
    → count_named k (left ns (other_members n ms)) ≡ count_named k ms) [
      | true ↦ λ e d. absurd (cc)
      | false ↦ λ e d. count-left k ns d (other_members n ms) ∙ count-apart n k (turned n k e) ms
    ] refl d

-- ---- a name whose members are left out

-- no member of the name n is left
none_own : (n : Name) (ms : Members) → count_named n (other_members n ms) ≡ 0
none_own n no_members = refl
none_own n (member j t ms) =
    elim (bytes_eq j n) as (λ b. bytes_eq j n ≡ b
    → count_named n (cond b (other_members n ms) (member j t (other_members n ms))) ≡ 0) [
      | true ↦ λ e. none_own n ms
      | false ↦ λ e. rw e (none_own n ms)
    ] refl

none_other : (n k : Name) (ms : Members) → count_named k ms ≡ 0 → count_named k (other_members n ms) ≡ 0
none_other n k no_members z = refl
none_other n k (member j t ms) z =
    elim (bytes_eq j k) as (λ a. bytes_eq j k ≡ a → cond a (suc (count_named k ms)) (count_named k ms) ≡ 0
    → count_named k (cond (bytes_eq j n) (other_members n ms) (member j t (other_members n ms))) ≡ 0) [
      | true ↦ λ e z. absurd (cc)
      | false ↦ λ e z. elim (bytes_eq j n)
          as (λ b. count_named k (cond b (other_members n ms) (member j t (other_members n ms))) ≡ 0) [
            | true ↦ none_other n k ms z
            | false ↦ rw e (none_other n k ms z)
          ]
    ] refl z

none_left : (k : Name) (ns : List Name) (ms : Members) → count_named k ms ≡ 0 → count_named k (left ns ms) ≡ 0
none_left k [] ms z = z
none_left k (n ∷ ns) ms z = none_left k ns (other_members n ms) (none_other n k ms z)

-- if k is one of the names, no member that is left has it
pub gone : (k : Name) (ns : List Name) → is_among ns k ≡ true → (ms : Members) → count_named k (left ns ms) ≡ 0
gone k [] d ms = absurd (cc)
gone k (n ∷ ns) d ms =
    elim (bytes_eq k n) as (λ b. bytes_eq k n ≡ b → (b || is_among ns k) ≡ true
    → count_named k (left ns (other_members n ms)) ≡ 0) [
      | true ↦ λ e d. none_left k ns (other_members n ms)
          (subst (λ j. count_named j (other_members n ms) ≡ 0) (sym ((bytes_eq-Decides k n).0 e)) (none_own n ms))
      | false ↦ λ e d. gone k ns d (other_members n ms)
    ] refl d

-- if no member has the name, none is the last of that name
none_last : (k : Name) (ms : Members) → count_named k ms ≡ 0 → last_of k ms ≡ None
none_last k no_members z = refl
none_last k (member j t ms) z =
    elim (bytes_eq j k) as (λ a. cond a (suc (count_named k ms)) (count_named k ms) ≡ 0
    → or_else (last_of k ms) (cond a (Some t) None) ≡ None) [
      | true ↦ λ z. absurd (cc)
      | false ↦ λ z. rw (none_last k ms z) refl
    ] z

-- if no member has the name, `of` returns a content for each one of that name
none_all : {C : Type 0} (of : Tree → Option C) (k : Name) (ms : Members) → count_named k ms ≡ 0 → AllOfName of k ms
none_all of k no_members z = tt
none_all of k (member j t ms) z =
    elim (bytes_eq j k) as (λ a. cond a (suc (count_named k ms)) (count_named k ms) ≡ 0
    → (a ≡ true → IsSome (of t)) × AllOfName of k ms) [
      | true ↦ λ z. absurd (cc)
      | false ↦ λ z. (λ f. absurd (cc), none_all of k ms z)
    ] z

-- a field is meant by what the fields of the names `ns` leave exactly if it is by all members
pub one_field : {A C : Type 0} (rule : ValueRule A C) (n : Name) (ns : List Name) (ms : Members) (v : A)
    → OnceAnd rule.once n (left ns ms) (LastMemberReads (rule.missing v) (λ t. rule.reads t v) rule.of n (left ns ms))
    ↔ FieldReads (is_among ns n) rule n ms v
one_field rule n ns ms v =
    let Is : Tree → Type 0 = λ t. rule.reads t v in
    let P : Members → Type 0 = λ ms. LastMemberReads (rule.missing v) Is rule.of n ms in
    elim (is_among ns n) as (λ b. is_among ns n ≡ b
    → OnceAnd rule.once n (left ns ms) (P (left ns ms)) ↔ FieldReads b rule n ms v) [
      | true ↦ λ e.
          let z = gone n ns e ms in
          let l = none_last n (left ns ms) z in
          let r : P (left ns ms) ↔ rule.missing v = (
            λ h. subst (λ o. MatchOption o (rule.missing v) Is) l h.1,
            λ h. (none_all rule.of n (left ns ms) z, subst (λ o. MatchOption o (rule.missing v) Is) (sym l) h),
          ) in
          elim rule.once as (λ b. OnceAnd b n (left ns ms) (P (left ns ms)) ↔ rule.missing v) [
            | false ↦ r
            | true ↦ (λ h. r.0 h.1, λ h. (omega (arith, z), r.1 h))
          ]
      | false ↦ λ e.
          let z = count-left n ns e ms in
          let a = all-left rule.of n ns e ms in
          let l = last-left n ns e ms in
          let r : P (left ns ms) ↔ P ms = (
            λ h. (a.0 h.0, subst (λ o. MatchOption o (rule.missing v) Is) l h.1),
            λ h. (a.1 h.0, subst (λ o. MatchOption o (rule.missing v) Is) (sym l) h.1),
          ) in
          elim rule.once as (λ b. OnceAnd b n (left ns ms) (P (left ns ms)) ↔ OnceAnd b n ms (P ms)) [
            | false ↦ r
            | true ↦ (λ h. (omega (arith, z, h.0), r.0 h.1), λ h. (omega (arith, z, h.0), r.1 h.1))
          ]
    ] refl
