-- If the members give a field the value `v`, they give a second field of that name the value `w` exactly if `w` has
-- the content of `v`, or is its image in a second type (`same_field`, `other_field`). By cases on the last member of
-- the name; if there is none, the field is missing (`says_missing`).
use Rattle.std.proofs.Common.{◌≡◌, cond, Bool, true, false, Option, Some, None, refl, sym, ap, ◌∙◌, subst}
use Rattle.std.specs.Prelude.{◌↔◌, bytes_eq, IsSome, MatchOption}
use Rattle.miniserde.specs.Tree.{Tree, Members, no_members, member}
use Rattle.miniserde.specs.Normal.{or_else, last_of}
use Rattle.miniserde.specs.Objects.{Name}
use Rattle.miniserde.specs.Fields.{AllOfName, LastMemberReads}

-- a tree of a needed field means a second value exactly if that one has the first one's content
pub same_field : {A C : Type 0} (R : Tree → A → Type 0) (of : Tree → Option C) (content : A → C)
    → ((t : Tree) (v : A) → R t v ↔ (of t ≡ Some (content v))) → (n : Name) (ms : Members) (v w : A)
    → LastMemberReads ⊥ (λ t. R t v) of n ms
    → LastMemberReads ⊥ (λ t. R t w) of n ms ↔ (content w ≡ content v)
same_field {A} R of content agrees n ms v w r =
    let means : A → Option Tree → Type 0 = λ v o. MatchOption o ⊥ (λ t. R t v) in
    let go : (o : Option Tree) → means v o → means w o ↔ (content w ≡ content v) =
    λ o. elim o as (λ o. means v o → means w o ↔ (content w ≡ content v)) [
      | None ↦ λ h. absurd h
      | Some t ↦ λ h. let e = (agrees t v).0 h in (λ g. let f = (agrees t w).0 g in cc, λ q. (agrees t w).1 (e ∙ ap Some (sym q)))
    ] in
    let s = go (last_of n ms) r.1 in
    (λ h. s.0 h.1, λ q. (r.0, s.1 q))

-- each member of a name is accepted where there is none
pub none_named : {C : Type 0} (of : Tree → Option C) (n : Name) (ms : Members) → last_of n ms ≡ None → AllOfName of n ms
none_named of n no_members e = tt
none_named of n (member k t ms) e =
    let go : (o : Option Tree) (b : Bool) → or_else o (cond b (Some t) None) ≡ None → (o ≡ None) × (b ≡ false) =
    λ o b. elim o as (λ o. or_else o (cond b (Some t) None) ≡ None → (o ≡ None) × (b ≡ false)) [
      | None ↦ elim b as (λ b. cond b (Some t) None ≡ None → (◌≡◌ {A = Option Tree} None None) × (b ≡ false))
          [ true ↦ λ e. absurd (cc) | false ↦ λ e. (refl, refl) ]
      | Some u ↦ λ e. absurd (cc)
    ] in
    let s = go (last_of n ms) (bytes_eq k n) e in
    (λ q. absurd (cc), none_named of n ms s.0)

-- a missing field is as where none is met
pub says_missing : {C : Type 0} (missing : Type 0) (Is : Tree → Type 0) (of : Tree → Option C) (n : Name)
    (ms : Members) → last_of n ms ≡ None → LastMemberReads missing Is of n ms ↔ missing
says_missing missing Is of n ms e = (
  λ h. subst (λ o. MatchOption o missing Is) e h.1,
  λ m.
      (none_named of n ms e, subst (λ o. MatchOption o missing Is) (sym e) m),
)

-- each member of a name is accepted by a second word that accepts what the first one does
all_among : {C D : Type 0} (of : Tree → Option C) (to : Tree → Option D)
    → ((t : Tree) → IsSome (of t) → IsSome (to t)) → (n : Name) (ms : Members) → AllOfName of n ms → AllOfName to n ms
all_among of to more n no_members h = tt
all_among of to more n (member k t ms) h = (λ e. more t (h.0 e), all_among of to more n ms h.1)

-- the same of a field of an enum, of which each tree means the value of a second enum that `to` gives
pub other_field : {A B : Type 0} (R : Tree → A → Type 0) (of : Tree → Option A)
    → ((t : Tree) (v : A) → R t v ↔ (of t ≡ Some v)) → (S : Tree → B → Type 0) (by : Tree → Option B)
    → ((t : Tree) (w : B) → S t w ↔ (by t ≡ Some w)) → (to : A → B)
    → ((t : Tree) (v : A) (w : B) → R t v → S t w ↔ (w ≡ to v))
    → (n : Name) (ms : Members) (v : A) (w : B) → LastMemberReads ⊥ (λ t. R t v) of n ms
    → LastMemberReads ⊥ (λ t. S t w) by n ms ↔ (w ≡ to v)
other_field {A} {B} R of agrees S by gives to law n ms v w r =
    let more : (t : Tree) → IsSome (of t) → IsSome (by t) = λ t. elim (of t) as (λ o. of t ≡ o → IsSome o → IsSome (by t)) [
      | None ↦ λ e h. absurd (cc)
      | Some x ↦ λ e h. subst IsSome (sym ((gives t (to x)).0 ((law t x (to x) ((agrees t x).1 e)).1 refl))) refl
    ] refl in
    let was : Option Tree → Type 0 = λ o. MatchOption o ⊥ (λ t. R t v) in
    let is : Option Tree → Type 0 = λ o. MatchOption o ⊥ (λ t. S t w) in
    let go : (o : Option Tree) → was o → is o ↔ (w ≡ to v) = λ o. elim o as (λ o. was o → is o ↔ (w ≡ to v)) [
      | None ↦ λ h. absurd h
      | Some t ↦ λ h. law t v w h
    ] in
    let s = go (last_of n ms) r.1 in
    (λ h. s.0 h.1, λ q. (all_among of by more n ms r.0, s.1 q))
