-- A field that has a content by itself has it in what the fields before it leave (`last-left`), and so the fields of a
-- struct that have one each have one together (`field-right`, of a field and the later ones). What keeps one of them
-- from a content keeps them all (`probe-wrong`, `into-wrong`, `into-optional-wrong`).
use Rattle.std.proofs.Common.{◌≡◌, Bool, true, false, ◌&&◌, ◌||◌, cond, not, List, [], ◌∷◌, ◌++◌, Option, Some, None, ◌⊎◌, inl, inr}
use Rattle.std.proofs.Common.{refl, sym, subst, ◌∙◌, true≢false, append_assoc}
use Rattle.std.specs.Prelude.{IsSome, bytes_eq, is_some, option_and_then}
use Rattle.std.specs.Option.{option_or}
use Rattle.std.proofs.lemmas.Slice.Eq.{bytes_eq-Decides}
use Rattle.miniserde.specs.Tree.{Tree, members, Members, no_members, member}
use Rattle.miniserde.specs.Objects.{Name}
use Rattle.miniserde.specs.Options.{option_of}
use Rattle.miniserde.specs.Fields.{content_pair, FieldRule, fields_content, last_content, other_members}
use Rattle.miniserde.specs.Marks.{is_among}
use Rattle.miniserde_record.specs.laws.Left.{left, left-append}
use Rattle.refused.specs.Agree.{AgreeAt}
use Rattle.refused.specs.Ways.{IsWay, IsWrongFrom, LeadsOn}
use Rattle.refused.specs.Wrong.{FieldAt, FieldIsWrong, Gives, alone, any_number, object_gives, are_apart, field_gives, fields_of}
use Rattle.refused.specs.Wrong.{first_alone, later_names, name_or_empty, optional_gives}
use Rattle.refused.specs.laws.Alone.{none-some, alone-both, alone-depends}
use Rattle.refused.specs.laws.Ways.{agree-turn}

turned : (n k : Name) → bytes_eq k n ≡ false → bytes_eq n k ≡ false
turned n k d =
    elim (bytes_eq n k) as (λ b. bytes_eq n k ≡ b → b ≡ false) [
      | true ↦ λ e. absurd (true≢false (sym ((bytes_eq-Decides k n).1 (sym ((bytes_eq-Decides n k).0 e))) ∙ d))
      | false ↦ λ e. refl
    ] refl

module _ {C : Type 0} (once : Bool) (of : Tree → Option C) (k : Name) where
  -- members of another name say nothing of the field k
  last-apart : (n : Name) → bytes_eq n k ≡ false → (d : Option C) (ms : Members)
      → last_content once of k d (other_members n ms) ≡ last_content once of k d ms
  last-apart n differ d no_members = refl
  last-apart n differ d (member j t ms) =
      elim (bytes_eq j n) as (λ b. bytes_eq j n ≡ b
      → last_content once of k d (cond b (other_members n ms) (member j t (other_members n ms)))
      ≡ last_content once of k d (member j t ms)) [
        | true ↦ λ e.
            let other : bytes_eq j k ≡ false = subst (λ i. bytes_eq i k ≡ false) (sym ((bytes_eq-Decides j n).0 e)) differ in
            rw other (last-apart n differ d ms)
        | false ↦ λ e. elim (bytes_eq j k) as (λ b.
            cond b (cond (once && is_some d) None
            (option_and_then (λ c. last_content once of k (Some c) (other_members n ms)) (of t)))
            (last_content once of k d (other_members n ms))
            ≡ cond b (cond (once && is_some d) None (option_and_then (λ c. last_content once of k (Some c) ms) (of t)))
            (last_content once of k d ms)) [
              | true ↦ elim (once && is_some d) as (λ b.
                  cond b None (option_and_then (λ c. last_content once of k (Some c) (other_members n ms)) (of t))
                  ≡ cond b None (option_and_then (λ c. last_content once of k (Some c) ms) (of t))) [
                    | true ↦ refl
                    | false ↦ elim (of t) as (λ o.
                        option_and_then (λ c. last_content once of k (Some c) (other_members n ms)) o
                        ≡ option_and_then (λ c. last_content once of k (Some c) ms) o) [
                          | None ↦ refl
                          | Some c ↦ last-apart n differ (Some c) ms
                        ]
                  ]
              | false ↦ last-apart n differ d ms
            ]
      ] refl

  -- and so do those of several other names
  last-left : (before : List Name) → is_among before k ≡ false → (ms : Members)
      → last_content once of k None (left before ms) ≡ last_content once of k None ms
  last-left [] a ms = refl
  last-left (n ∷ ns) a ms =
      elim (bytes_eq k n) as (λ b. bytes_eq k n ≡ b → (b || is_among ns k) ≡ false
      → last_content once of k None (left ns (other_members n ms)) ≡ last_content once of k None ms) [
        | true ↦ λ e a. absurd (cc)
        | false ↦ λ e a. last-left ns a (other_members n ms) ∙ last-apart n (turned n k e) None ms
      ] refl a

-- a field that has a content beside no other has one beside others that have one
beside : {C D : Type 0} (c : Option C) (d : Option D) → IsSome (option_and_then (content_pair (Some (tt {0}))) c) → IsSome d
    → IsSome (option_and_then (content_pair d) c)
beside None d h i = absurd (cc)
beside (Some x) None h i = absurd (cc)
beside (Some x) (Some y) h i = refl

-- the content of a field, by its last member, and of others
abbrev ended : {C D : Type 0} → Option D → Option C → Option (Option C) → Option (C × D)
ended d absent o = option_and_then (λ o. option_and_then (content_pair d) (option_or o absent)) o

beside-last : {C D : Type 0} (absent : Option C) (o : Option (Option C)) (d : Option D)
    → IsSome (ended (Some (tt {0})) absent o) → IsSome d → IsSome (ended d absent o)
beside-last absent None d h i = absurd (cc)
beside-last absent (Some o) d h i = beside (option_or o absent) d h i

-- a field and others that have a content have one each
beside-own : {C D : Type 0} (c : Option C) (d : Option D) → IsSome (option_and_then (content_pair d) c)
    → IsSome (option_and_then (content_pair (Some (tt {0}))) c)
beside-own None d h = h
beside-own (Some x) d h = refl

beside-other : {C D : Type 0} (c : Option C) (d : Option D) → IsSome (option_and_then (content_pair d) c) → IsSome d
beside-other {C} {D} None d h = absurd (none-some {C = C × D} None refl h)
beside-other {C} {D} (Some x) None h = absurd (none-some {C = C × D} None refl h)
beside-other (Some x) (Some y) h = refl

last-own : {C D : Type 0} (absent : Option C) (o : Option (Option C)) (d : Option D)
    → IsSome (ended d absent o) → IsSome (ended (Some (tt {0})) absent o)
last-own absent None d h = h
last-own absent (Some o) d h = beside-own (option_or o absent) d h

last-other : {C D : Type 0} (absent : Option C) (o : Option (Option C)) (d : Option D)
    → IsSome (ended d absent o) → IsSome d
last-other {C} {D} absent None d h = absurd (none-some {C = C × D} None refl h)
last-other absent (Some o) d h = beside-other (option_or o absent) d h

-- both are true if `and` is
both : (a b : Bool) → (not a && b) ≡ true → (a ≡ false) × (b ≡ true)
both true b e = absurd (cc)
both false b e = (refl, e)

-- the names before the later fields
abbrev pub before_later : List Name → List Name → List Name
before_later before [] = before
before_later before (n ∷ ns) = before ++ n ∷ []

-- no name is a duplicate among the later ones and those before them
pub later-apart : (before names : List Name) → are_apart before names ≡ true
    → are_apart (before_later before names) (later_names names) ≡ true
later-apart before [] a = refl
later-apart before (n ∷ ns) a = (both (is_among before n) (are_apart (before ++ n ∷ []) ns) a).1

module _ {C S D : Type 0} (rule : FieldRule C) (rest : List Name → S → Members → Option D) (empty : S) where
  members-all : (before names : List Name) → are_apart before names ≡ true → (ms : Members)
      → IsSome (alone rule (first_alone names) (members ms))
      → IsSome (rest (later_names names) empty (left (before_later before names) ms))
      → IsSome (fields_content rule rest names (None, empty) (left before ms))
  members-all before [] a ms o l = beside (option_or None rule.absent) (rest [] empty (left before ms)) o l
  members-all before (n ∷ ns) a ms o l =
      let b = both (is_among before n) (are_apart (before ++ n ∷ []) ns) a in
      let e = last-left rule.once rule.of n before b.0 ms in
      let r = subst (λ z. IsSome (rest ns empty z)) (left-append before n ms) l in
      beside-last rule.absent (last_content rule.once rule.of n None (left before ms)) (rest ns empty (other_members n (left before ms)))
      (subst (λ o. IsSome (ended (Some (tt {0})) rule.absent o)) (sym e) o) r

  members-own : (before names : List Name) → are_apart before names ≡ true → (ms : Members)
      → IsSome (fields_content rule rest names (None, empty) (left before ms))
      → IsSome (alone rule (first_alone names) (members ms))
  members-own before [] a ms h = beside-own (option_or None rule.absent) (rest [] empty (left before ms)) h
  members-own before (n ∷ ns) a ms h =
      let b = both (is_among before n) (are_apart (before ++ n ∷ []) ns) a in
      subst (λ o. IsSome (ended (Some (tt {0})) rule.absent o)) (last-left rule.once rule.of n before b.0 ms)
      (last-own rule.absent (last_content rule.once rule.of n None (left before ms)) (rest ns empty (other_members n (left before ms))) h)

  members-later : (before names : List Name) → (ms : Members)
      → IsSome (fields_content rule rest names (None, empty) (left before ms))
      → IsSome (rest (later_names names) empty (left (before_later before names) ms))
  members-later before [] ms h = beside-other (option_or None rule.absent) (rest [] empty (left before ms)) h
  members-later before (n ∷ ns) ms h =
      subst (λ z. IsSome (rest ns empty z)) (sym (left-append before n ms))
      (last-other rule.absent (last_content rule.once rule.of n None (left before ms)) (rest ns empty (other_members n (left before ms))) h)

-- a path that leads on from a field leads on from the place of its struct
abbrev leads-on : (here names path : List Name) → LeadsOn (here ++ name_or_empty names ∷ []) path → LeadsOn here path
leads-on here names path h =
    (name_or_empty names, h.0 ∷ h.1, h.2 ∙ append_assoc here (name_or_empty names ∷ []) (h.0 ∷ h.1))

-- any tree
abbrev any_tree : Tree → Option (Unit {0})
any_tree t = Some (tt {0})

module _ {C S D : Type 0} (rule : FieldRule C) (rest : List Name → S → Members → Option D) (empty : S)
    (before names : List Name) (apart : are_apart before names ≡ true) where
  -- the field and the later ones, the field by itself, and the later ones
  abbrev all_fields : Tree → Option (C × D)
  all_fields = fields_of (fields_content rule rest) (None, empty) before names

  abbrev own_field : Tree → Option (C × Unit {0})
  own_field = alone rule (first_alone names)

  abbrev later_fields : Tree → Option D
  later_fields = fields_of rest empty (before_later before names) (later_names names)

  all-from : (t : Tree) → IsSome (own_field t) → IsSome (later_fields t) → IsSome (all_fields t)
  all-from (members ms) o l = members-all rule rest empty before names apart ms o l
  all-from t o l = absurd (none-some {C = C × Unit {0}} None refl o)

  own-from : (t : Tree) → IsSome (all_fields t) → IsSome (own_field t)
  own-from (members ms) h = members-own rule rest empty before names apart ms h
  own-from t h = absurd (none-some {C = C × D} None refl h)

  later-from : (t : Tree) → IsSome (all_fields t) → IsSome (later_fields t)
  later-from (members ms) h = members-later rule rest empty before names ms h
  later-from t h = absurd (none-some {C = C × D} None refl h)

  module _ {gives : Gives} {here : List Name} (way : IsWay gives here) where
    -- the field at the place
    abbrev field : FieldAt C
    field = record { gives = gives; here = here; names = names; rule = rule }

    -- a place that gives a content of the field, and one of the later ones if they are right, gives one of all
    pub field-right : (Right : Tree → Type 0)
        → ((t : Tree) → gives (Unit {0}) object_gives t → Right t → gives D later_fields t) → (t : Tree)
        → gives (Unit {0}) object_gives t → gives (C × Unit {0}) own_field t × Right t → gives (C × D) all_fields t
    field-right Right later t o h = way.both own_field later_fields all_fields all-from t h.0 (later t o h.1)

    -- what keeps the field from a content, and what keeps the later ones from theirs, keeps all from one
    field-wrong : (path : List Name) (t : Tree) → FieldIsWrong field path t
        → IsWrongFrom gives here all_fields path t
    field-wrong path t h = (
      (name_or_empty names, [], h.0),
      λ u a g. h.1 (way.depends own_field (name_or_empty names ∷ [])
          (alone-depends rule names [] (λ t u e s. subst (λ t. IsSome (rule.of t)) e s)) u t
          (agree-turn (here ++ name_or_empty names ∷ []) t u (subst (λ p. AgreeAt p t u) h.0 a))
          (way.both all_fields all_fields own_field (λ t p q. own-from t p) u g g)),
    )

    later-wrong : (path : List Name) (t : Tree) → IsWrongFrom gives here later_fields path t
        → IsWrongFrom gives here all_fields path t
    later-wrong path t h = (h.0, λ u a g. h.1 u a (way.both all_fields all_fields later_fields (λ t p q. later-from t p) u g g))

    -- what keeps the field from a content, or the later ones
    pub probe-wrong : {X L : Type 0} (path : List Name) (t : Tree) → (L → IsWrongFrom gives here later_fields path t)
        → FieldIsWrong field path t ⊎ (X × L) → IsWrongFrom gives here all_fields path t
    probe-wrong path t later (inl w) = field-wrong path t w
    probe-wrong path t later (inr h) = later-wrong path t (later h.1)

    -- The field stands in each document that agrees with one at a path that leads on from it, if it stands there. So
    -- what keeps its tree from a content keeps the field from one, whatever a missing field means.
    within-wrong : (path : List Name) (t : Tree) → field_gives gives names (Unit {0}) object_gives t
        → IsWrongFrom (field_gives gives names) (here ++ name_or_empty names ∷ []) rule.of path t
        → IsWrongFrom gives here all_fields path t
    within-wrong path t o h =
        let any : Tree → Option (Unit {0} × Unit {0}) = alone (any_number None any_tree) (first_alone names) in
        let object : FieldRule (Unit {0}) = any_number None object_gives in
        let there = way.both (alone object (first_alone names)) (alone object (first_alone names)) any
        (alone-both {one = object} {two = object} {to = any_number None any_tree}
        (record { many = refl; tree = λ t p q. refl; absent = λ p q. p }) names) t o o in (
          leads-on here names path h.0,
          λ u a g. h.1 u a (way.both all_fields any (alone (any_number None rule.of) (first_alone names))
              (λ t p q. alone-both {one = rule} {two = any_number None any_tree} {to = any_number None rule.of}
              (record { many = refl; tree = λ t p q. p; absent = λ p q. q }) names t (own-from t p) q) u g
              (way.depends any (name_or_empty names ∷ h.0.0 ∷ h.0.1)
              (alone-depends (any_number None any_tree) names (h.0.0 ∷ h.0.1) (λ t u a s. refl)) t u
              (subst (λ p. AgreeAt p t u) (leads-on here names path h.0).2 a) there)),
        )

    -- what keeps the field from a content, or its tree, or the later ones
    pub into-wrong : {M I X L : Type 0} (path : List Name) (t : Tree)
        → (I → IsWrongFrom (field_gives gives names) (here ++ name_or_empty names ∷ []) rule.of path t)
        → (L → IsWrongFrom gives here later_fields path t)
        → ((FieldIsWrong field path t × M)
        ⊎ (field_gives gives names (Unit {0}) object_gives t × I)) ⊎ (X × L)
        → IsWrongFrom gives here all_fields path t
    into-wrong path t inner later (inl (inl w)) = field-wrong path t w.0
    into-wrong path t inner later (inl (inr w)) = within-wrong path t w.0 (inner w.1)
    into-wrong path t inner later (inr h) = later-wrong path t (later h.1)

module _ {C S D : Type 0} (once : Bool) (absent : Option (Option C)) (of : Tree → Option C)
    (rest : List Name → S → Members → Option D) (empty : S) (before names : List Name)
    (apart : are_apart before names ≡ true) {gives : Gives} {here : List Name} (way : IsWay gives here) where
  -- what content members give the field
  abbrev optional : FieldRule (Option C)
  optional = record { once = once; absent = absent; of = option_of of }

  -- the field and the later ones
  abbrev all_optional : Tree → Option (Option C × D)
  all_optional = fields_of (fields_content optional rest) (None, empty) before names

  -- What keeps the value of an optional field from a content keeps the field from one, since a missing one has one.
  optional-wrong : (path : List Name) (t : Tree)
      → IsWrongFrom (optional_gives gives names) (here ++ name_or_empty names ∷ []) of path t
      → IsWrongFrom gives here all_optional path t
  optional-wrong path t h = (
    leads-on here names path h.0,
    λ u a g. h.1 u a (way.both all_optional all_optional (alone (any_number (Some None) (option_of of)) (first_alone names))
        (λ t p q. let o = own-from optional rest empty before names apart t p in
        alone-both {one = optional} {two = optional} {to = any_number (Some None) (option_of of)}
        (record { many = refl; tree = λ t p q. p; absent = λ p q. refl }) names t o o) u g g),
  )

  -- what keeps the field from a content, or the tree of its value, or the later ones
  pub into-optional-wrong : {M O I X L : Type 0} (path : List Name) (t : Tree)
      → (I → IsWrongFrom (optional_gives gives names) (here ++ name_or_empty names ∷ []) of path t)
      → (L → IsWrongFrom gives here (fields_of rest empty (before_later before names) (later_names names)) path t)
      → ((FieldIsWrong (record { gives = gives; here = here; names = names; rule = optional }) path t × M) ⊎ (O × I)) ⊎ (X × L)
      → IsWrongFrom gives here all_optional path t
  into-optional-wrong path t inner later (inl (inl w)) =
      field-wrong optional rest empty before names apart way path t w.0
  into-optional-wrong path t inner later (inl (inr w)) = optional-wrong path t (inner w.1)
  into-optional-wrong path t inner later (inr h) =
      later-wrong optional rest empty before names apart way path t (later h.1)
