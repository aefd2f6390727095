-- If the members of a map have a content, their normal form has the same content, provided that no two names are read
-- as equal keys. By recursion over the members: putting a member in its place changes neither which one is met at a
-- code (`met_first`) nor that all are accepted (`taken_first`).
use Rattle.std.proofs.Common.{◌≡◌, true, false, cond, Option, Some, None, refl, sym, ap, subst, ◌∙◌, Less, Equal, Greater, true≢false}
use Rattle.std.specs.Prelude.{IsSome, option_map, bytes_eq}
use Rattle.std.specs.Ordering.{match_ordering, is_eq}
use Rattle.std.proofs.lemmas.Cmp.{nat_list_cmp_total, tied_itself}
use Rattle.std.proofs.lemmas.Option.{same_Some}
use Rattle.std.proofs.lemmas.Map.Lookups.{exact_bytes}
use Rattle.std.proofs.lemmas.Slice.Eq.{bytes_eq-Decides}
use Rattle.miniserde_model.specs.Tree.{Tree, members, Members, no_members, member}
use Rattle.miniserde_model.specs.Normal.{text_cmp, with_if_absent, norm, norm_members}
use Rattle.miniserde_keys.specs.Keys.{Key}
use Rattle.miniserde_read.specs.types.Objects.{Name}
use Rattle.miniserde_read.specs.types.Maps.{key_at, first_and_last, first_and_last_at, AllAccepted, MapContent, no_entries, map_of}
use Rattle.miniserde_read.specs.laws.Maps.{given_at, taken-given, met-taken, map-taken}
use Rattle.miniserde_stored.specs.Stable.{IsStable}
use Rattle.miniserde_stored.specs.laws.Leaves.{stable-by}

-- names in order are not one name
pub apart : (a b : Name) → text_cmp a b ≡ Greater → a ≡ b → ⊥
apart a b g same =
    let tied : text_cmp a b ≡ Equal = ap (text_cmp a) (sym same) ∙ tied_itself nat_list_cmp_total a in
    true≢false (ap is_eq (sym tied ∙ g))

-- ---- what is met

met_twice : (o : Option Key) (t u : Tree) (p : Option (Key × Tree)) → first_and_last o t (first_and_last o u p) ≡ first_and_last o u p
met_twice None t u p = refl
met_twice (Some c) t u None = refl
met_twice (Some c) t u (Some p) = refl

met_swapped : (o r : Option Key) (t u : Tree) (p : Option (Key × Tree))
    → ((c d : Key) → o ≡ Some c → r ≡ Some d → ⊥) → first_and_last r u (first_and_last o t p) ≡ first_and_last o t
    (first_and_last r u p)
met_swapped None r t u p h = refl
met_swapped (Some c) None t u p h = refl
met_swapped (Some c) (Some d) t u p h = absurd (h c d refl refl)

met_norm : (o : Option Key) (t : Tree) (p : Option (Key × Tree))
    → first_and_last o (norm t) (option_map (λ p. (p.0, norm p.1)) p) ≡ option_map (λ p. (p.0, norm p.1))
    (first_and_last o t p)
met_norm None t p = refl
met_norm (Some c) t None = refl
met_norm (Some c) t (Some p) = refl

-- a key at a code is one that is read and has the code
at_code : (code : Key → Key) (q : Key) (o : Option Key) (c : Key) → key_at code q o ≡ Some c → (o ≡ Some c) × (code c ≡ q)
at_code code q None c e = absurd (cc)
at_code code q (Some d) c e =
    elim (bytes_eq (code d) q) as (λ b. bytes_eq (code d) q ≡ b → cond b (Some d) None ≡ Some c → (Some d ≡ Some c)
    × (code c ≡ q)) [
      | true ↦ λ b f. (f, ap code (sym (same_Some _ _ f)) ∙ (bytes_eq-Decides (code d) q).0 b)
      | false ↦ λ b f. absurd (cc)
    ] refl e

-- ---- what is taken

module _ {C : Type 0} (read : Name → Option Key) (code : Key → Key) (of : Tree → Option C) where
  pub taken_first : (n : Name) (t : Tree) (ms : Members) → IsSome (read n) → IsSome (of t) → AllAccepted read of ms
      → AllAccepted read of (with_if_absent n t ms)
  taken_first n t no_members r g h = (r, (g, tt))
  taken_first n t (member o u ms) r g h =
      elim (text_cmp n o) as (λ c. AllAccepted read of (match_ordering c (member n t (member o u ms)) (member o u ms) (member o u
      (with_if_absent n t ms)))) [
        | Less ↦ (r, (g, h))
        | Equal ↦ h
        | Greater ↦ (h.0, (h.1.0, taken_first n t ms r g h.1.1))
      ]

-- ---- what is met of the normal form

module _ (read : Name → Option Key) (code : Key → Key)
    (one_name : (n m : Name) (c d : Key) → read n ≡ Some c → read m ≡ Some d → code c ≡ code d → n ≡ m) where
  -- a member in its place is met as one in front is
  met_first : (q : Key) (n : Name) (t : Tree) (ms : Members) → first_and_last_at read code q (with_if_absent n t ms)
      ≡ first_and_last (key_at code q (read n)) t (first_and_last_at read code q ms)
  met_first q n t no_members = refl
  met_first q n t (member o u ms) =
      elim (text_cmp n o) as (λ r. text_cmp n o ≡ r
      → first_and_last_at read code q (match_ordering r (member n t (member o u ms)) (member o u ms) (member o u
      (with_if_absent n t ms))) ≡ first_and_last
      (key_at code q (read n)) t (first_and_last (key_at code q (read o)) u (first_and_last_at read code q ms))) [
        | Less ↦ λ r. refl
        | Equal ↦ λ r.
            let same : n ≡ o = exact_bytes n o r in
            subst (λ k. first_and_last (key_at code q (read o)) u (first_and_last_at read code q ms) ≡ first_and_last
            (key_at code q (read k)) t
            (first_and_last (key_at code q (read o)) u (first_and_last_at read code q ms))) (sym same)
            (sym (met_twice (key_at code q (read o)) t u (first_and_last_at read code q ms)))
        | Greater ↦ λ r.
            ap (first_and_last (key_at code q (read o)) u) (met_first q n t ms)
            ∙ met_swapped (key_at code q (read n)) (key_at code q (read o)) t u (first_and_last_at read code q ms) (λ c d e f.
            let a = at_code code q (read n) c e in
            let b = at_code code q (read o) d f in
            apart n o r (one_name n o c d a.0 b.0 (a.1 ∙ sym b.1)))
      ] refl

  pub met_normal : (q : Key) (ms : Members) → first_and_last_at read code q (norm_members ms)
      ≡ option_map (λ p. (p.0, norm p.1)) (first_and_last_at read code q ms)
  met_normal q no_members = refl
  met_normal q (member n t ms) =
      met_first q n (norm t) (norm_members ms)
      ∙ ap (first_and_last (key_at code q (read n)) (norm t)) (met_normal q ms)
      ∙ met_norm (key_at code q (read n)) t (first_and_last_at read code q ms)

-- ---- what is given

module _ {C : Type 0} (read : Name → Option Key) (code : Key → Key) (of : Tree → Option C) (stays : IsStable of)
    (one_name : (n m : Name) (c d : Key) → read n ≡ Some c → read m ≡ Some d → code c ≡ code d → n ≡ m) where
  some_stays : (t : Tree) → IsSome (of t) → IsSome (of (norm t))
  some_stays t s = elim (of t) as (λ o. of t ≡ o → IsSome o → IsSome (of (norm t))) [
    | None ↦ λ e s. absurd (cc)
    | Some c ↦ λ e s. rw (stays t c e) refl
  ] refl s

  taken_normal : (ms : Members) → AllAccepted read of ms → AllAccepted read of (norm_members ms)
  taken_normal no_members h = tt
  taken_normal (member n t ms) h = taken_first read code of n (norm t) (norm_members ms) h.0 (some_stays t h.1.0) (taken_normal ms h.1.1)

  given_normal : (o : Option (Key × Tree)) → ((p : Key × Tree) → o ≡ Some p → IsSome (of p.1))
      → given_at {C = C} of None (option_map (λ p. (p.0, norm p.1)) o) ≡ given_at of None o
  given_normal None s = refl
  given_normal (Some p) s =
      elim (of p.1) as (λ o. of p.1 ≡ o → IsSome o → option_map {U = Key × C} (λ d. (p.0, d)) (of (norm p.1))
      ≡ option_map (λ d. (p.0, d)) o) [
        | None ↦ λ e i. absurd (cc)
        | Some c ↦ λ e i. ap (option_map {U = Key × C} (λ d. (p.0, d))) (stays p.1 c e)
      ] refl (s p refl)

  members-stay : (ms : Members) (c : MapContent C) → map_of read code of (members ms) ≡ Some c
      → map_of read code of (members (norm_members ms)) ≡ Some c
  members-stay ms c e =
      let taken = taken-given read code of no_entries c ms e in
      let same : (λ q. given_at of None (first_and_last_at read code q (norm_members ms)))
      ≡ (λ q. given_at of None (first_and_last_at read code q ms)) =
      λ i q. (ap (given_at of None) (met_normal read code one_name q ms)
      ∙ given_normal (first_and_last_at read code q ms) (λ p f. met-taken read code of q ms p taken f)) i in
      map-taken read code of (norm_members ms) (taken_normal ms taken) ∙ ap Some same ∙ sym (map-taken read code of ms taken) ∙ e

  pub stable-map : IsStable (map_of read code of)
  stable-map = stable-by (map_of read code of) (λ z c e. absurd (cc)) (λ ts c e. e) members-stay
