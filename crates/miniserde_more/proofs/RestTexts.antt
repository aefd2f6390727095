-- The text of members, of which some come behind others (`text_then`), and what a turn of a loop over a map's entries adds to
-- the text of those that are kept (`kept_step`).
use Rattle.std.proofs.Common.{◌≡◌, ℕ, Bool, true, false, cond, ◌&&◌, List, [], ◌∷◌, ◌++◌, refl, sym, ap, ◌∙◌, append_assoc, IsUtf8}
use Rattle.std.proofs.lemmas.List.{append-nil}
use Rattle.miniserde_model.specs.Tree.{Tree, members, Members, no_members, member}
use Rattle.miniserde_model.specs.Compact.{compact, string_text, compact_more_members}
use Rattle.miniserde_model.specs.Normal.{norm}
use Rattle.miniserde_model.specs.InRange.{InRange, MembersInRange}
use Rattle.miniserde_read.specs.types.Objects.{Name}
use Rattle.miniserde_ser.specs.Trees.{members_of, TreesAreNormal}
use Rattle.miniserde_record.specs.Marks.{is_among, has_no_members}
use Rattle.miniserde_record.specs.Structs.{members_text}
use Rattle.miniserde_more.specs.Rest.{kept, members_then}

-- further members, behind further members
more_then : (ms ns : Members) → compact_more_members (members_then ms ns) ≡ compact_more_members ms ++ compact_more_members ns
more_then no_members ns = refl
more_then (member k t ms) ns = rw (more_then ms ns) (simp append_assoc refl)

-- members behind members: a comma stands between them, if there are any before
pub text_then : (b : Bool) (ms ns : Members) → members_text b (members_then ms ns)
    ≡ members_text b ms ++ members_text (has_no_members ms && b) ns
text_then true no_members ns = refl
text_then false no_members ns = refl
text_then true (member k t ms) ns = rw (more_then ms ns) (simp append_assoc refl)
text_then false (member k t ms) ns = rw (more_then ms ns) (simp append_assoc refl)

-- members are in range if those before and those behind are
pub range_then : (ms ns : Members) → MembersInRange ms → MembersInRange ns → MembersInRange (members_then ms ns)
range_then no_members ns p q = q
range_then (member k t ms) ns p q = (p.0, p.1, range_then ms ns p.2 q)

-- the trees are in normal form if those before and those behind are
pub normal_then : (ms ns : Members) → TreesAreNormal ms → TreesAreNormal ns → TreesAreNormal (members_then ms ns)
normal_then no_members ns p q = q
normal_then (member k t ms) ns p q = (p.0, normal_then ms ns p.1 q)

-- there are none if there are none before and none behind
pub none_then : (ms ns : Members) → has_no_members (members_then ms ns) ≡ (has_no_members ms && has_no_members ns)
none_then no_members ns = refl
none_then (member k t ms) ns = refl

module _ {K V : Type 0} (text : K → Name) (f : V → Tree) (ns : List Name) where
  -- the members that are written of entries
  abbrev pub written : List (K × V) → Members
  written es = members_of text f (kept text ns es)

  -- an entry of one of the names adds nothing
  pub written_known : (es : List (K × V)) (e : K × V) → is_among ns (text e.0) ≡ true → written (es ++ e ∷ []) ≡ written es
  written_known [] e h = rw h refl
  written_known (d ∷ es) e h =
      elim (is_among ns (text d.0)) as (λ b. members_of text f (cond b (kept text ns (es ++ e ∷ [])) (d ∷ kept text ns (es ++ e ∷ [])))
      ≡ members_of text f (cond b (kept text ns es) (d ∷ kept text ns es)))
      [ true ↦ written_known es e h | false ↦ ap (member (text d.0) (f d.1)) (written_known es e h) ]

  -- an entry of another name adds its member
  pub written_other : (es : List (K × V)) (e : K × V) → is_among ns (text e.0) ≡ false
      → written (es ++ e ∷ []) ≡ members_then (written es) (member (text e.0) (f e.1) no_members)
  written_other [] e h = rw h refl
  written_other (d ∷ es) e h =
      elim (is_among ns (text d.0)) as (λ b. members_of text f (cond b (kept text ns (es ++ e ∷ [])) (d ∷ kept text ns (es ++ e ∷ [])))
      ≡ members_then (members_of text f (cond b (kept text ns es) (d ∷ kept text ns es))) (member (text e.0) (f e.1) no_members))
      [ true ↦ written_other es e h | false ↦ ap (member (text d.0) (f d.1)) (written_other es e h) ]

  -- what a turn that writes an entry appends
  pub text_step : (es : List (K × V)) (e : K × V) (b : Bool) (pre : List ℕ) {now : Bool} {old mid new : List ℕ}
      → is_among ns (text e.0) ≡ false
      → old ≡ pre ++ members_text b (written es) → now ≡ (has_no_members (written es) && b)
      → mid ≡ old ++ ((cond now [] (44 ∷ []) ++ string_text (text e.0)) ++ 58 ∷ []) → new ≡ mid ++ compact (f e.1)
      → new ≡ pre ++ members_text b (written (es ++ e ∷ []))
  text_step es e b pre {now = now} h is first m w =
      rw (w, m, is, written_other es e h, text_then b (written es) (member (text e.0) (f e.1) no_members), sym first)
      (elim now as (λ c. ((pre ++ members_text b (written es)) ++ ((cond c [] (44 ∷ []) ++ string_text (text e.0)) ++ 58 ∷ []))
      ++ compact (f e.1)
      ≡ pre ++ (members_text b (written es) ++ members_text c (member (text e.0) (f e.1) no_members))) [
        | true ↦ rw (append-nil {A = ℕ}) (simp append_assoc refl)
        | false ↦ rw (append-nil {A = ℕ}) (simp append_assoc refl)
      ])

  -- the members so far are in range
  pub range_step : (es : List (K × V)) (e : K × V) → is_among ns (text e.0) ≡ false → MembersInRange (written es)
      → IsUtf8 (text e.0) → InRange (f e.1) → MembersInRange (written (es ++ e ∷ []))
  range_step es e h r u i = rw (written_other es e h) (range_then (written es) (member (text e.0) (f e.1) no_members) r (u, i, tt))

  -- their trees are in normal form
  pub normal_step : (es : List (K × V)) (e : K × V) → is_among ns (text e.0) ≡ false → TreesAreNormal (written es)
      → norm (f e.1) ≡ f e.1 → TreesAreNormal (written (es ++ e ∷ []))
  normal_step es e h p q = rw (written_other es e h) (normal_then (written es) (member (text e.0) (f e.1) no_members) p (q, tt))

  -- after a member was written the next one is not the first
  pub first_step : (es : List (K × V)) (e : K × V) (b : Bool) {new : Bool} → is_among ns (text e.0) ≡ false → new ≡ false
      → new ≡ (has_no_members (written (es ++ e ∷ [])) && b)
  first_step es e b h n =
      n ∙ rw (written_other es e h, none_then (written es) (member (text e.0) (f e.1) no_members))
      (elim (has_no_members (written es)) as (λ c. false ≡ ((c && false) && b)) [ true ↦ refl | false ↦ refl ])

-- what was found of one text is found of an equal one
pub found : (names : List Name) {k n : Name} {b c : Bool} → n ≡ k → b ≡ is_among names n → b ≡ c → is_among names k ≡ c
found names s f e = ap (is_among names) (sym s) ∙ sym f ∙ e

-- the text of members that were written in two parts
pub parts_text : (fs rs : Members) (old : List ℕ) (first : Bool) {mid new : List ℕ} {next : Bool} → mid ≡ old ++ members_text first fs
    → next ≡ (has_no_members fs && first) → new ≡ mid ++ members_text next rs → new ≡ old ++ members_text first (members_then fs rs)
parts_text fs rs old first m x n = rw (n, x, m, text_then first fs rs) (simp append_assoc refl)

-- the text of an object whose members were written
pub object_text : (ms : Members) (old : List ℕ) {opened done new : List ℕ} {first : Bool} → opened ≡ old ++ 123 ∷ [] → first ≡ true
    → done ≡ opened ++ members_text first ms → new ≡ done ++ 125 ∷ [] → new ≡ old ++ compact (members ms)
object_text ms old o f d n = rw (n, d, f, o) (simp append_assoc refl)
