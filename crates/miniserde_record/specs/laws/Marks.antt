-- What the marks on a struct and on its fields mean.
use Rattle.std.proofs.Common.{◌≡◌, suc, Bool, true, false, cond, ◌&&◌, ◌||◌, List, [], ◌∷◌, ◌++◌, Option, Some}
use Rattle.std.proofs.Common.{None, refl, sym, ap, subst, ◌∙◌, arith}
use Rattle.std.specs.Prelude.{◌↔◌, bytes_eq}
use Rattle.std.proofs.lemmas.Slice.Eq.{bytes_eq-Decides}
use Rattle.miniserde_model.specs.Tree.{Tree, Members, no_members, member}
use Rattle.miniserde_model.specs.Normal.{or_else, last_of}
use Rattle.miniserde_read.specs.Meaning.{Meaning}
use Rattle.miniserde_read.specs.types.Objects.{Name}
use Rattle.miniserde_record.specs.Fields.{other_members, LastMemberReads, count_named, OnceAnd, MissingReads, value_rule, FieldsRead}
use Rattle.miniserde_record.specs.laws.Left.{left, left-append, left-front}
use Rattle.miniserde_record.specs.Marks.{has_no_members, is_among, all_among}

-- ---- closed

all-of-name-more : (n : Name) (ns : List Name) (ms : Members) → all_among ns (other_members n ms) ≡ all_among (n ∷ ns) ms
all-of-name-more n ns no_members = refl
all-of-name-more n ns (member k t ms) =
    elim (bytes_eq k n) as (λ b. all_among ns (cond b (other_members n ms) (member k t (other_members n ms)))
    ≡ ((b || is_among ns k) && all_among (n ∷ ns) ms)) [
      | true ↦ all-of-name-more n ns ms
      | false ↦ ap (λ b. is_among ns k && b) (all-of-name-more n ns ms)
    ]

none-named : (ms : Members) → has_no_members ms ≡ all_among [] ms
none-named no_members = refl
none-named (member k t ms) = refl

-- `closed`: no member is left after the last field exactly if each member's name is a field's
pub closed-named : (ns : List Name) (ms : Members) → has_no_members (left ns ms) ≡ all_among ns ms
closed-named [] ms = none-named ms
closed-named (n ∷ ns) ms = closed-named ns (other_members n ms) ∙ all-of-name-more n ns ms

-- ---- default

-- if a name has no last member, no member has it
none-zero : (n : Name) (ms : Members) → last_of n ms ≡ None → count_named n ms ≡ 0
none-zero n no_members h = refl
none-zero n (member k t ms) h =
    elim (bytes_eq k n) as (λ b. or_else (last_of n ms) (cond b (Some t) None) ≡ None
    → cond b (suc (count_named n ms)) (count_named n ms) ≡ 0) [
      | true ↦ elim (last_of n ms) as (λ o. or_else o (Some t) ≡ None → suc (count_named n ms) ≡ 0)
          [ None ↦ λ e. absurd (cc) | Some u ↦ λ e. absurd (cc) ]
      | false ↦ λ e. none-zero n ms (elim (last_of n ms) as (λ o. or_else o None ≡ None → o ≡ None) [ None ↦ λ f. f | Some u ↦ λ f. f ] e)
    ] h

module _ {A V S D : Type 0} (once : Bool) (m : Meaning A) (given : Tree) (absent : Option A)
    (rest : List Name → List Name → Members → V → Type 0) (gives : List Name → S → Members → Option D) (contents : V → D)
    (empty : S) (later : (before ns : List Name) (ms : Members) (v : V)
    → rest before ns ms v ↔ (gives ns empty (left before ms) ≡ Some (contents v)))
    (before : List Name) (n : Name) (own : is_among before n ≡ false) (ns : List Name) (ms : Members) (v : A × V) where
  -- the members mean the values v of the field and the later ones, with the given tree if the field is missing
  abbrev Given : Members → Type 0
  Given ms = FieldsRead (record { first = value_rule once (Some given) m absent; later = rest }) before (n ∷ ns) ms v

  -- the members mean the values v of the field and the later ones, without a given tree
  abbrev Plain : Members → Type 0
  Plain ms = FieldsRead (record { first = value_rule once None m absent; later = rest }) before (n ∷ ns) ms v

  -- `default`: members without the name mean what they would beside a member of that name with the given tree
  pub given-missing : last_of n ms ≡ None → Given ms ↔ Plain (member n given ms)
  given-missing e =
      let R : Tree → Type 0 = λ t. m.reads t v.0 in
      let absent : Type 0 = MissingReads m None absent v.0 in
      let one : bytes_eq n n ≡ true = (bytes_eq-Decides n n).1 refl in
      let zero = none-zero n ms e in
      let count : count_named n (member n given ms) ≡ 1 = rw (one, zero) refl in
      let same : left (before ++ n ∷ []) (member n given ms) ≡ left (before ++ n ∷ []) ms =
      left-append before n (member n given ms) ∙ ap (other_members n) (left-front n given before own ms)
      ∙ rw one (sym (left-append before n ms)) in
      let a = later (before ++ n ∷ []) ns ms v.1 in
      let b = later (before ++ n ∷ []) ns (member n given ms) v.1 in
      let is : Members → Type 0 = λ z. gives ns empty z ≡ Some (contents v.1) in
      let to : rest (before ++ n ∷ []) ns ms v.1 → rest (before ++ n ∷ []) ns (member n given ms) v.1 =
      λ h. b.1 (subst is (sym same) (a.0 h)) in
      let back : rest (before ++ n ∷ []) ns (member n given ms) v.1 → rest (before ++ n ∷ []) ns ms v.1 =
      λ h. a.1 (subst is same (b.0 h)) in
      let says : LastMemberReads (R given) R m.from_tree n ms ↔ LastMemberReads absent R m.from_tree n (member n given ms) = rw (one, e) (
        λ h. ((λ _. rw ((m.reads_agrees given v.0).0 h.1) refl, h.0), h.1),
        λ h. (h.0.1, h.1),
      ) in
      rw own (elim once as (λ b. (OnceAnd b n ms (LastMemberReads (R given) R m.from_tree n ms)
      × rest (before ++ n ∷ []) ns ms v.1)
      ↔ (OnceAnd b n (member n given ms) (LastMemberReads absent R m.from_tree n (member n given ms))
      × rest (before ++ n ∷ []) ns (member n given ms) v.1)) [
        | false ↦ (λ h. (says.0 h.0, to h.1), λ h. (says.1 h.0, back h.1))
        | true ↦ (
          λ h. ((omega (arith, count), says.0 h.0.1), to h.1),
          λ h. ((omega (arith, zero), says.1 h.0.1), back h.1),
        )
      ])

  -- `default`: members with the name mean what they mean without a given tree
  pub given-present : (t : Tree) → last_of n ms ≡ Some t → Given ms ↔ Plain ms
  given-present t e = rw (own, e) (λ h. h, λ h. h)
