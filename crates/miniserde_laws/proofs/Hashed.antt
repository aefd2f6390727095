-- Two hash maps whose entries agree at each code have the same members in the order of their names. Each entry of one
-- map stands in the members of the other (`stands`); if each code has one name, the order changes neither which
-- members are accepted (`taken_in_order`) nor which is met at a code (`met_first`).
use Rattle.std.proofs.Common.{◌≡◌, ℕ, List, [], ◌∷◌, Option, Some, None, refl, sym, ap, ◌∙◌}
use Rattle.std.specs.Prelude.{IsSome, bytes_eq, Contains}
use Rattle.std.specs.Map.{keys_of}
use Rattle.std.specs.declared.cmp.Ordering.TheVariants.{Less, Equal, Greater}
use Rattle.std.specs.List.{AllByRecursion, IsDistinct}
use Rattle.std.proofs.lemmas.Option.{same_Some}
use Rattle.std.proofs.lemmas.List.Elements.{All-contains, All-from_recursion}
use Rattle.std.proofs.lemmas.Map.Lookups.{exact_bytes}
use Rattle.std.specs.Ordering.{match_ordering}
use Rattle.miniserde_model.specs.Tree.{Tree, Members, no_members, member}
use Rattle.miniserde_model.specs.Normal.{text_cmp, with_if_absent, last_of}
use Rattle.miniserde_keys.specs.Keys.{Key}
use Rattle.miniserde_read.specs.types.Objects.{Name}
use Rattle.miniserde_read.specs.types.Maps.{key_at, first_and_last, first_and_last_at, AllAccepted, entry_at}
use Rattle.miniserde_read.proofs.Entries.{same, contains-first, contains-later, found, at-contained}
use Rattle.miniserde_ser.specs.Trees.{members_of, in_order}
use Rattle.miniserde_ser.proofs.Ordered.{Stands, names, all_stand, in_order_same}
use Rattle.miniserde_laws.proofs.Agree.{written, Agree}

-- what each element has, all have
all_contained : {X : Type 0} (P : X → Type 0) (xs : List X) → ((x : X) → Contains xs x → P x) → AllByRecursion P xs
all_contained P [] h = tt
all_contained P (x ∷ xs) h = (h x (contains-first x xs), all_contained P xs (λ y c. h y (contains-later x y xs c)))

module _ {K V : Type 0} (code : K → Key) (text : K → List ℕ) (f : V → Tree) where
  -- each entry of the one stands in the members of the other
  stands : (es fs : List (K × V)) → Agree code text f es fs → IsDistinct (same code) (keys_of fs)
      → IsDistinct bytes_eq (names text f es) → (g : K × V) → Contains fs g → Stands text f (members_of text f es) g
  stands es fs a d n g c =
      let own = all_stand text f es n in
      elim (entry_at code (code g.0) es)
      as (λ o. entry_at code (code g.0) es ≡ o → written code text f o ≡ Some (text g.0, f g.1)
      → Stands text f (members_of text f es) g) [
        | None ↦ λ h s. absurd (cc)
        | Some e ↦ λ h s.
            let there = (found code (code g.0) es e h).0 in
            let stood = All-contains (Stands text f (members_of text f es)) es e (All-from_recursion _ es own) there in
            let one = same_Some _ _ s in
            ap (λ n. last_of n (members_of text f es)) (sym (ap (λ z. z.0) one)) ∙ stood ∙ ap Some (ap (λ z. z.1) one)
      ] refl (a (code g.0) ∙ ap (written code text f) (at-contained code (code g.0) fs g d c refl))

  pub hashed_same : (es fs : List (K × V)) → IsDistinct (same code) (keys_of es)
      → IsDistinct (same code) (keys_of fs) → IsDistinct bytes_eq (names text f es)
      → IsDistinct bytes_eq (names text f fs) → Agree code text f es fs
      → in_order (members_of text f es) ≡ in_order (members_of text f fs)
  hashed_same es fs d p n m a = in_order_same text f es fs
      (all_contained (Stands text f (members_of text f fs)) es (stands fs es (λ q. sym (a q)) d m))
      (all_contained (Stands text f (members_of text f es)) fs (stands es fs a p n))

-- ---- members in the order of their names

module _ {C : Type 0} (read : Name → Option Key) (code : Key → Key) (of : Tree → Option C) where
  taken_first : (n : Name) (t : Tree) (ms : Members) → IsSome (read n) → IsSome (of t) → AllAccepted read of ms
      → AllAccepted read of (with_if_absent n t ms)
  taken_first n t no_members r g h = (r, (g, tt))
  taken_first n t (member o u ms) r g h =
      elim (text_cmp n o) as (λ c. AllAccepted read of (match_ordering c (member n t (member o u ms)) (member o u ms) (member o u
      (with_if_absent n t ms)))) [
        | Less ↦ (r, (g, h))
        | Equal ↦ h
        | Greater ↦ (h.0, (h.1.0, taken_first n t ms r g h.1.1))
      ]

  pub taken_in_order : (ms : Members) → AllAccepted read of ms → AllAccepted read of (in_order ms)
  taken_in_order no_members h = tt
  taken_in_order (member n t ms) h = taken_first n t (in_order ms) h.0 h.1.0 (taken_in_order ms h.1.1)

  -- a name at another code changes nothing
  pub met_other : (q : Key) (n : Name) (t : Tree) (ms : Members) → key_at code q (read n) ≡ None
      → first_and_last_at read code q (with_if_absent n t ms) ≡ first_and_last_at read code q ms
  met_other q n t no_members k = rw k refl
  met_other q n t (member o u ms) k =
      elim (text_cmp n o) as (λ c.
      first_and_last_at read code q (match_ordering c (member n t (member o u ms)) (member o u ms) (member o u
      (with_if_absent n t ms))) ≡ first_and_last_at
      read code q (member o u ms)) [
        | Less ↦ rw k refl
        | Equal ↦ refl
        | Greater ↦ ap (first_and_last (key_at code q (read o)) u) (met_other q n t ms k)
      ]

  -- nothing is met where a member in front is not met, and nothing behind it
  met_none : (o : Option Key) (t : Tree) (p : Option (Key × Tree)) → first_and_last o t p ≡ None → (o ≡ None) × (p ≡ None)
  met_none None t p e = (refl, e)
  met_none (Some c) t None e = absurd (cc)
  met_none (Some c) t (Some p) e = absurd (cc)

  -- a name at the code, where no other is
  pub met_first : (q : Key) (n : Name) (t : Tree) (c : Key) (ms : Members) → key_at code q (read n) ≡ Some c
      → first_and_last_at read code q ms ≡ None → first_and_last_at read code q (with_if_absent n t ms)
      ≡ Some (c, t)
  met_first q n t c no_members k m = rw k refl
  met_first q n t c (member o u ms) k m =
      let none = met_none (key_at code q (read o)) u (first_and_last_at read code q ms) m in
      elim (text_cmp n o) as (λ r. text_cmp n o ≡ r
      → first_and_last_at read code q (match_ordering r (member n t (member o u ms)) (member o u ms) (member o u
      (with_if_absent n t ms))) ≡ Some (c, t)) [
        | Less ↦ λ r. ap (first_and_last (key_at code q (read n)) t) m ∙ ap (λ z. first_and_last z t None) k
        | Equal ↦ λ r. let s : n ≡ o = exact_bytes n o r in absurd (cc (sym k ∙ ap (λ z. key_at code q (read z)) s ∙ none.0))
        | Greater ↦ λ r. rw (none.0) (met_first q n t c ms k none.1)
      ] refl
