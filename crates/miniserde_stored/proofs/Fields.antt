-- If the members of a struct have a content, their normal form has the same content. Field by field: the last member
-- of a name gives the same in normal form (`given_normal`), and removing the members of a name commutes with the
-- normal form (`others_normal`).
use Rattle.std.proofs.Common.{◌≡◌, ℕ, suc, ◌≤◌, Bool, true, false, cond, List, [], ◌∷◌, Option, Some, None, refl}
use Rattle.std.proofs.Common.{sym, ap, subst, ◌∙◌, Less, Equal, Greater, arith}
use Rattle.std.specs.Prelude.{IsSome, option_map, option_and_then, bytes_eq}
use Rattle.std.specs.Option.{option_or}
use Rattle.std.proofs.lemmas.Cmp.{nat_list_cmp_total}
use Rattle.std.proofs.lemmas.Slice.Eq.{bytes_eq-Decides}
use Rattle.std.specs.Ordering.{match_ordering}
use Rattle.miniserde_model.specs.Tree.{Tree, Members, no_members, member}
use Rattle.miniserde_model.specs.Normal.{text_cmp, with_if_absent, norm_neg, norm, norm_members}
use Rattle.miniserde_model.specs.Normal.{last_of, BeginsAbove, Rise}
use Rattle.miniserde_model.proofs.Lookups.{norm_keeps_last, norm_rises}
use Rattle.miniserde_model.proofs.OneNormal.{norm_only}
use Rattle.miniserde_read.specs.types.Objects.{Name}
use Rattle.miniserde_stored.specs.Stable.{IsStable}
use Rattle.miniserde_stored.proofs.Types.{bound, mapped}
use Rattle.miniserde_record.specs.Fields.{content_pair, other_members, last_content, AllOfName, count_named}
use Rattle.miniserde_record.specs.Fields.{FieldRule, fields_content}
use Rattle.miniserde_stored.specs.StableFields.{AreStable}
use Rattle.miniserde_record.specs.laws.Meanings.{last_or, last-all, all-last, last-some, last-once}
use Rattle.miniserde_record.specs.laws.Left.{last-apart}

-- ---- the members of a name

-- one member more counts, or both do
counted : (b c : Bool) (m n : ℕ) → m ≤ cond c (suc n) n → cond b (suc m) m ≤ cond c (suc (cond b (suc n) n)) (cond b (suc n) n)
counted true true m n h = omega (arith, h)
counted true false m n h = omega (arith, h)
counted false c m n h = h

-- members in order have no more of a name than with the member in front
count_first : (n k : Name) (t : Tree) (ms : Members) → count_named n (with_if_absent k t ms) ≤ count_named n (member k t ms)
count_first n k t no_members = omega (arith)
count_first n k t (member j u ms) =
    elim (text_cmp k j) as (λ r. count_named n (match_ordering r (member k t (member j u ms)) (member j u ms) (member j u
    (with_if_absent k t ms)))
    ≤ count_named n (member k t (member j u ms))) [
      | Less ↦ omega (arith)
      | Equal ↦ elim (bytes_eq k n)
          as (λ b. count_named n (member j u ms) ≤ cond b (suc (count_named n (member j u ms)))
          (count_named n (member j u ms))) [ true ↦ omega (arith) | false ↦ omega (arith) ]
      | Greater ↦ counted (bytes_eq j n) (bytes_eq k n) (count_named n (with_if_absent k t ms)) (count_named n ms) (count_first n k t ms)
    ]

-- the normal form has no more members of a name
count_normal : (n : Name) (ms : Members) → count_named n (norm_members ms) ≤ count_named n ms
count_normal n no_members = omega (arith)
count_normal n (member k t ms) =
    let first = count_first n k (norm t) (norm_members ms) in
    let more = counted (bytes_eq k n) false (count_named n (norm_members ms)) (count_named n ms) (count_normal n ms) in
    omega (arith, first, more)

module _ {C : Type 0} (of : Tree → Option C) (stable : IsStable of) (n : Name) where
  named_first : (k : Name) (t : Tree) (ms : Members) → AllOfName of n (member k t ms) → AllOfName of n (with_if_absent k t ms)
  named_first k t no_members h = h
  named_first k t (member j u ms) h =
      elim (text_cmp k j) as (λ r. AllOfName of n (match_ordering r (member k t (member j u ms)) (member j u ms) (member j u
      (with_if_absent k t ms)))) [
        | Less ↦ h
        | Equal ↦ h.1
        | Greater ↦ (h.1.0, named_first k t ms (h.0, h.1.1))
      ]

  -- a tree that gives something gives it in normal form
  same_normal : (t : Tree) → IsSome (of t) → of (norm t) ≡ of t
  same_normal t s = elim (of t) as (λ o. of t ≡ o → IsSome o → of (norm t) ≡ o)
      [ None ↦ λ e i. absurd (cc) | Some c ↦ λ e i. stable t c e ] refl s

  named_normal : (ms : Members) → AllOfName of n ms → AllOfName of n (norm_members ms)
  named_normal no_members h = tt
  named_normal (member k t ms) h =
      named_first k (norm t) (norm_members ms)
      (λ e. subst IsSome (sym (same_normal t (h.0 e))) (h.0 e), named_normal ms h.1)

  -- the last tree gives what it gives in normal form
  last_normal : (d : Option C) (o : Option Tree) → ((t : Tree) → o ≡ Some t → IsSome (of t))
      → last_or of d (option_map norm o) ≡ last_or of d o
  last_normal d None s = refl
  last_normal d (Some t) s = same_normal t (s t refl)

  -- the last member of a name gives what it gives in normal form, and a `once` field's is the only one in both
  repeated : (d o : Option C) (ms : Members) → last_content false of n d ms ≡ Some o → last_content false of n d (norm_members ms) ≡ Some o
  repeated d o ms e =
      let all = all-last of n d o ms e in
      last-all of n d (norm_members ms) (named_normal ms all)
      ∙ ap (λ p. Some (last_or of d p)) (norm_keeps_last norm_neg n ms)
      ∙ ap Some (last_normal d (last_of n ms) (λ t f. last-some of n ms t all f))
      ∙ sym (last-all of n d ms all)
      ∙ e

  given_normal : (once : Bool) (d o : Option C) (ms : Members) → last_content once of n d ms ≡ Some o
      → last_content once of n d (norm_members ms) ≡ Some o
  given_normal false d o ms e = repeated d o ms e
  given_normal true d o ms e =
      let h = (last-once of n d o ms).0 e in
      let count = count_normal n ms in
      (last-once of n d o (norm_members ms)).1 (omega (arith, h.0, count), repeated d o ms h.1)

-- ---- the members of other names

no_last : (n : Name) (ms : Members) → last_of n (other_members n ms) ≡ None
no_last n no_members = refl
no_last n (member j t ms) =
    elim (bytes_eq j n) as (λ b. bytes_eq j n ≡ b
    → last_of n (cond b (other_members n ms) (member j t (other_members n ms))) ≡ None) [
      | true ↦ λ e. no_last n ms
      | false ↦ λ e. rw (no_last n ms, e) refl
    ] refl

others_mapped : (n q : Name) (ms : Members) → last_of q (other_members n (norm_members ms)) ≡ option_map norm
    (last_of q (other_members n ms))
others_mapped n q ms = elim (bytes_eq n q)
    as (λ b. bytes_eq n q ≡ b → last_of q (other_members n (norm_members ms)) ≡ option_map norm
    (last_of q (other_members n ms))) [
      | true ↦ λ e. subst (λ q. last_of q (other_members n (norm_members ms)) ≡ option_map norm
          (last_of q (other_members n ms))) ((bytes_eq-Decides n q).0 e)
          (no_last n (norm_members ms) ∙ ap (option_map norm) (sym (no_last n ms)))
      | false ↦ λ e. last-apart n q e (norm_members ms) ∙ norm_keeps_last norm_neg q ms ∙ ap (option_map norm) (sym (last-apart n q e ms))
    ] refl

further : (k j : Name) (ms : Members) → text_cmp k j ≡ Less → BeginsAbove j ms → BeginsAbove k ms
further k j no_members l h = h
further k j (member i u ms) l h = nat_list_cmp_total.trans k j i l h

above_others : (k n : Name) (ms : Members) → BeginsAbove k ms → Rise ms → BeginsAbove k (other_members n ms)
above_others k n no_members b r = b
above_others k n (member j t ms) b r =
    elim (bytes_eq j n) as (λ a. BeginsAbove k (cond a (other_members n ms) (member j t (other_members n ms)))) [
      | true ↦ above_others k n ms (further k j ms b r.0) r.1
      | false ↦ b
    ]

rise_others : (n : Name) (ms : Members) → Rise ms → Rise (other_members n ms)
rise_others n no_members r = r
rise_others n (member j t ms) r = elim (bytes_eq j n) as (λ a. Rise (cond a (other_members n ms) (member j t (other_members n ms)))) [
  | true ↦ rise_others n ms r.1
  | false ↦ (above_others j n ms r.0 r.1, rise_others n ms r.1)
]

-- the members of other names are in normal form those of the normal form
others_normal : (n : Name) (ms : Members) → other_members n (norm_members ms) ≡ norm_members (other_members n ms)
others_normal n ms = norm_only norm_neg (other_members n ms) (other_members n (norm_members ms))
    (rise_others n (norm_members ms) (norm_rises norm_neg ms)) (λ q. others_mapped n q ms)

-- ---- a field and the later ones

later_stable : {C D : Type 0} (o : Option C) (p q : Option D) (d : C × D) → ((x : D) → p ≡ Some x → q ≡ Some x)
    → option_and_then (content_pair p) o ≡ Some d → option_and_then (content_pair q) o ≡ Some d
later_stable o p q d h e = bound o o (content_pair p) (content_pair q) d (λ c f. f) (λ c. mapped (λ x. (c, x)) p q d h) e

module _ {C S D : Type 0} (rule : FieldRule C) (stable : IsStable rule.of) (rest : List Name → S → Members → Option D)
    (later : AreStable rest) where
  pub stable-field : AreStable (fields_content rule rest)
  stable-field [] s ms d e = later_stable (option_or s.0 rule.absent) (rest [] s.1 ms) (rest [] s.1 (norm_members ms)) d (later [] s.1 ms) e
  stable-field (n ∷ ns) s ms d e =
      let p = rest ns s.1 (other_members n ms) in
      let q = rest ns s.1 (other_members n (norm_members ms)) in
      let more : (x : D) → p ≡ Some x → q ≡ Some x = λ x f. ap (rest ns s.1) (others_normal n ms) ∙ later ns s.1 (other_members n ms) x f in
      bound (last_content rule.once rule.of n s.0 ms) (last_content rule.once rule.of n s.0 (norm_members ms))
      (λ o. option_and_then (content_pair p) (option_or o rule.absent))
      (λ o. option_and_then (content_pair q) (option_or o rule.absent)) d
      (λ o. given_normal rule.of stable n rule.once s.0 o ms)
      (λ o. later_stable (option_or o rule.absent) p q d more) e
