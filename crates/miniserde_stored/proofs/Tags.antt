-- An internally tagged enum reads from the normal form of a tree the content that it reads from the tree. The tag is a
-- field (`stable-field`).
use Rattle.std.proofs.Common.{◌≡◌, false, List, [], ◌∷◌, Option, Some, None, refl, sym, ap, ◌∙◌}
use Rattle.std.specs.Prelude.{option_map, option_and_then}
use Rattle.std.specs.Option.{option_or}
use Rattle.std.proofs.lemmas.Option.{same_Some}
use Rattle.miniserde_model.specs.Tree.{Tree, str, members, Members}
use Rattle.miniserde_model.specs.Normal.{norm, norm_members}
use Rattle.miniserde_read.specs.types.Objects.{Name}
use Rattle.miniserde_read.specs.types.Words.{string_of}
use Rattle.miniserde_record.specs.Fields.{other_members, last_content}
use Rattle.miniserde_enum.specs.Tagging.{content_by_tagging, internal}
use Rattle.miniserde_stored.specs.Stable.{IsStable}
use Rattle.miniserde_stored.specs.StableFields.{AreStable}
use Rattle.miniserde_stored.proofs.Fields.{stable-field}

-- ---- the tag and the data

-- a tag as a struct's field, with what p gives of the name beside it
abbrev field : {C : Type 0} → (Name → Option C) → Option (Option Name) → Option (Name × C)
field p o = option_and_then (λ o. option_and_then (λ n. option_map (λ c. (n, c)) (p n)) (option_or o None)) o

field-some : {C : Type 0} (p : Name → Option C) (o : Option (Option Name)) (n : Name) (c : C)
    → field p o ≡ Some (n, c) → (option_and_then (λ o. o) o ≡ Some n) × (p n ≡ Some c)
field-some p None n c e = absurd (cc)
field-some p (Some None) n c e = absurd (cc)
field-some {C} p (Some (Some k)) n c e =
    elim (p k) as (λ q. p k ≡ q → ◌≡◌ {A = Option (Name × C)} (option_map (λ c. (k, c)) q) (Some (n, c))
    → (Some k ≡ Some n) × (p n ≡ Some c)) [
      | None ↦ λ f g. absurd (cc)
      | Some d ↦ λ f g.
          let i = same_Some _ _ g in
          let j = ap (λ z. z.0) i in
          (ap Some j, ap p (sym j) ∙ f ∙ ap (λ z. Some z.1) i)
    ] refl e

some-field : {C : Type 0} (p : Name → Option C) (o : Option (Option Name)) (n : Name) (c : C)
    → option_and_then (λ o. o) o ≡ Some n → p n ≡ Some c → field p o ≡ Some (n, c)
some-field p None n c e f = absurd (cc)
some-field p (Some None) n c e f = absurd (cc)
some-field p (Some (Some k)) n c e f = let i : k ≡ n = same_Some _ _ e in rw (i, f) refl

-- ---- the normal form

string-stable : IsStable string_of
string-stable (str s) c e = e
string-stable t c e = absurd (cc)

module _ {C : Type 0} (tag : Name) (f : Name → Option Tree → Option C)
    (stable : (n : Name) (o : Option Tree) (c : C) → f n o ≡ Some c → f n (option_map norm o) ≡ Some c) where
  abbrev beside_it : Name → List Name → Unit {0} → Members → Option C
  beside_it n ns s ms = f n (Some (members ms))

  given : (o : Option (Option Name)) (u : Option Tree) (c : C)
      → option_and_then (λ (v : Name × Option Tree). f v.0 v.1)
      (option_map (λ n. (n, u)) (option_and_then (λ o. o) o)) ≡ Some c
      → (n : Name) × (option_and_then (λ o. o) o ≡ Some n) × (f n u ≡ Some c)
  given None u c e = absurd (cc)
  given (Some None) u c e = absurd (cc)
  given (Some (Some n)) u c e = (n, refl, e)

  pub tagged-stable : IsStable (content_by_tagging (internal tag) f)
  tagged-stable (members ms) c e =
      let o = last_content false string_of tag None ms in
      let q = last_content false string_of tag None (norm_members ms) in
      let a = given o (Some (members (other_members tag ms))) c e in
      let n = a.0 in
      let later : AreStable (beside_it n) = λ ns s ms c e. stable n (Some (members ms)) c e in
      let was = some-field (λ k. f n (Some (members (other_members tag ms)))) o n c a.1 a.2 in
      let is = stable-field (record { once = false; absent = None; of = string_of }) string-stable (beside_it n) later (tag ∷ [])
      (None, tt) ms (n, c) was in
      let b = field-some (λ k. f n (Some (members (other_members tag (norm_members ms))))) q n c is in
      rw (b.0, b.1) refl
  tagged-stable t c e = absurd (cc)
