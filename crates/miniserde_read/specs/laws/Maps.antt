-- A map's tree gives the entries that its members mean.
use Rattle.std.proofs.Common.{◌≡◌, true, false, cond, List, Option, Some, None, refl, sym, ap, ◌∙◌, subst}
use Rattle.std.specs.Prelude.{◌↔◌, IsSome, option_and_then, option_map, bytes_eq}
use Rattle.std.proofs.lemmas.Option.{same_Some}
use Rattle.miniserde_model.specs.Tree.{Tree, null, truth, nonneg, neg, num, str, list, members, Members, no_members, member}
use Rattle.miniserde_keys.specs.Keys.{Key}
use Rattle.miniserde_read.specs.types.Objects.{Name, after_members}
use Rattle.miniserde_read.specs.types.Maps.{key_at, first_and_last, first_and_last_at, AllAccepted, entry_at}
use Rattle.miniserde_read.specs.types.Maps.{key_meaning, EntryFits, MapReads, MapContent, no_entries, present_key_or, with_entry}
use Rattle.miniserde_read.specs.types.Maps.{map_content, map_member, map_of}

-- ---- what the tree means

-- the entry after the members of a code: o if there is none, and else the first key with the content for the last
-- tree
abbrev pub given_at : {C : Type 0} → (Tree → Option C) → Option (Key × C) → Option (Key × Tree) → Option (Key × C)
given_at of o None = o
given_at of o (Some p) = option_map (λ d. (present_key_or o p.0, d)) (of p.1)

module _ {C : Type 0} (read : Name → Option Key) (code : Key → Key) (of : Tree → Option C) where
  -- a member in front of others gives its entry first, and the others change it
  given-later : (m : MapContent C) (c : Key) (t : Tree) (d : C) (q : Key) (o : Option (Key × Tree)) → of t ≡ Some d
      → given_at of (with_entry code m c d q) o ≡ given_at of (m q)
      (first_and_last (cond (bytes_eq (code c) q) (Some c) None) t o)
  given-later m c t d q (Some p) e =
      elim (bytes_eq (code c) q)
      as (λ b. option_map (λ x. (present_key_or (cond b (Some (present_key_or (m q) c, d)) (m q)) p.0, x)) (of p.1)
      ≡ given_at of (m q) (first_and_last (cond b (Some c) None) t (Some p))) [ true ↦ refl | false ↦ refl ]
  given-later m c t d q None e =
      elim (bytes_eq (code c) q)
      as (λ b. cond b (Some (present_key_or (m q) c, d)) (m q) ≡ given_at of (m q)
      (first_and_last (cond b (Some c) None) t None))
      [ true ↦ ap (option_map {U = Key × C} (λ x. (present_key_or (m q) c, x))) (sym e) | false ↦ refl ]

  given-taken : (m : MapContent C) (ms : Members) → AllAccepted read of ms
      → after_members (map_member read code of) m ms
      ≡ Some (λ q. given_at of (m q) (first_and_last_at read code q ms))
  given-taken m no_members h = refl
  given-taken m (member k t ms) h =
      elim (read k) as (λ o. read k ≡ o → IsSome o
      → option_and_then (λ r. after_members (map_member read code of) r ms)
      (option_and_then (λ c. option_map (with_entry code m c) (of t)) o)
      ≡ Some (λ q. given_at of (m q) (first_and_last (key_at code q o) t (first_and_last_at read code q ms)))) [
        | None ↦ λ e s. absurd (cc)
        | Some c ↦ λ e s. elim (of t)
            as (λ p. of t ≡ p → IsSome p → option_and_then (λ r. after_members (map_member read code of) r ms)
            (option_map (with_entry code m c) p)
            ≡ Some (λ q. given_at of (m q)
            (first_and_last (cond (bytes_eq (code c) q) (Some c) None) t (first_and_last_at read code q ms)))) [
              | None ↦ λ f s. absurd (cc)
              | Some d ↦ λ f s. given-taken (with_entry code m c d) ms h.1.1
                  ∙ ap Some (λ i q. given-later m c t d q (first_and_last_at read code q ms) f i)
            ] refl h.1.0
      ] refl h.0

  pub taken-given : (m n : MapContent C) (ms : Members) → after_members (map_member read code of) m ms ≡ Some n → AllAccepted read of ms
  taken-given m n no_members e = tt
  taken-given m n (member k t ms) e =
      elim (read k) as (λ o. option_and_then (λ r. after_members (map_member read code of) r ms)
      (option_and_then (λ c. option_map (with_entry code m c) (of t)) o) ≡ Some n
      → IsSome o × (IsSome (of t) × AllAccepted read of ms)) [
        | None ↦ λ h. absurd (cc)
        | Some c ↦ elim (of t) as (λ p. option_and_then (λ r. after_members (map_member read code of) r ms)
            (option_map (with_entry code m c) p) ≡ Some n → IsSome (Some c)
            × (IsSome p × AllAccepted read of ms)) [
              | None ↦ λ h. absurd (cc)
              | Some d ↦ λ h. (refl, (refl, taken-given (with_entry code m c d) n ms h))
            ]
      ] e

  -- if all members are accepted, the last tree of a code gives a content
  pub met-taken : (q : Key) (ms : Members) (p : Key × Tree) → AllAccepted read of ms
      → first_and_last_at read code q ms ≡ Some p → IsSome (of p.1)
  met-taken q no_members p h e = absurd (cc)
  met-taken q (member k u ms) p h e =
      elim (key_at code q (read k)) as (λ o. first_and_last o u (first_and_last_at read code q ms) ≡ Some p → IsSome (of p.1)) [
        | None ↦ λ g. met-taken q ms p h.1.1 g
        | Some c ↦ elim (first_and_last_at read code q ms)
            as (λ o. first_and_last_at read code q ms ≡ o → first_and_last (Some c) u o ≡ Some p
            → IsSome (of p.1)) [
              | None ↦ λ f g. subst (λ x. IsSome (of x)) (ap (λ z. z.1) (same_Some _ _ g)) h.1.0
              | Some w ↦ λ f g. subst (λ x. IsSome (of x)) (ap (λ z. z.1) (same_Some _ _ g)) (met-taken q ms w h.1.1 f)
            ] refl
      ] e

  -- if all members are accepted, the map has for each code the first key and the content for the last tree
  pub map-taken : (ms : Members) → AllAccepted read of ms
      → map_of read code of (members ms) ≡ Some (λ q. given_at of None (first_and_last_at read code q ms))
  map-taken ms h = given-taken no_entries ms h

module _ {K V C : Type 0} (read : Name → Option Key) (code : Key → Key) (content : K → Key) (of : Tree → Option C)
    (value : V → C) (R : Tree → V → Type 0) (given : (t : Tree) (v : V) → R t v ↔ (of t ≡ Some (value v))) where
  means-given : (o : Option (Key × Tree)) (p : Option (K × V)) → EntryFits content R o p
      → given_at of None o ≡ option_map (λ e. (content e.0, value e.1)) p
  means-given None None h = refl
  means-given None (Some e) h = absurd h
  means-given (Some t) None h = absurd h
  means-given (Some t) (Some e) h = rw ((given t.1 e.1).0 h.1) (ap (λ c. Some (c, value e.1)) (sym h.0))

  given-means : (o : Option (Key × Tree)) (p : Option (K × V)) → ((t : Key × Tree) → o ≡ Some t → IsSome (of t.1))
      → given_at of None o ≡ option_map (λ e. (content e.0, value e.1)) p → EntryFits content R o p
  given-means None None s h = tt
  given-means None (Some e) s h = absurd (cc)
  given-means (Some t) None s h = elim (of t.1) as (λ o. of t.1 ≡ o → option_map {U = Key × C} (λ d. (t.0, d)) o ≡ None → ⊥) [
    | None ↦ λ e g. let k = s t refl in cc
    | Some d ↦ λ e g. absurd (cc)
  ] refl h
  given-means (Some t) (Some e) s h =
      elim (of t.1) as (λ o. of t.1 ≡ o → option_map {U = Key × C} (λ d. (t.0, d)) o ≡ Some (content e.0, value e.1)
      → (content e.0 ≡ t.0) × R t.1 e.1) [
        | None ↦ λ k g. absurd (cc)
        | Some d ↦ λ k g. let p = same_Some _ _ g in (sym (ap (λ z. z.0) p), (given t.1 e.1).1 (k ∙ ap (λ z. Some z.1) p))
      ] refl h

  pub map-given : (t : Tree) (es : List (K × V)) → MapReads (key_meaning read code content) of R t es
      ↔ (map_of read code of t ≡ Some (map_content code content value es))
  map-given null es = (λ h. absurd h, λ h. absurd (cc))
  map-given (truth b) es = (λ h. absurd h, λ h. absurd (cc))
  map-given (nonneg n) es = (λ h. absurd h, λ h. absurd (cc))
  map-given (neg n) es = (λ h. absurd h, λ h. absurd (cc))
  map-given (num x) es = (λ h. absurd h, λ h. absurd (cc))
  map-given (str x) es = (λ h. absurd h, λ h. absurd (cc))
  map-given (list ts) es = (λ h. absurd h, λ h. absurd (cc))
  map-given (members ms) es = (
    λ h. given-taken read code of no_entries ms h.0
        ∙ ap Some (λ i q. means-given (first_and_last_at read code q ms) (entry_at (λ k. code (content k)) q es)
        (h.1 q) i),
    λ h.
        let taken = taken-given read code of no_entries (map_content code content value es) ms h in
        let same : (λ q. given_at of None (first_and_last_at read code q ms)) ≡ map_content code content value es =
        same_Some _ _ (sym (given-taken read code of no_entries ms taken) ∙ h) in (
          taken,
          λ q. given-means (first_and_last_at read code q ms) (entry_at (λ k. code (content k)) q es)
              (λ t e. met-taken read code of q ms t taken e) (ap (λ f. f q) same),
        ),
  )
