-- While an object is read member by member, the remaining members give from the state so far what the whole object
-- gives from the empty state. `ObjectGoes` is this invariant: `object_begins` establishes it, `object_goes` carries
-- it over one member, and `object_ends`, `object_none` and `no_object_follows` use it at the exits of the loop.
use Rattle.std.proofs.Common.{◌≡◌, ℕ, Bool, true, false, List, Option, Some, None, refl, ap, subst, ◌∙◌, arith}
use Rattle.miniserde_model.specs.Tree.{Tree, members, Members, no_members, member}
use Rattle.miniserde_model.specs.Step.{map}
use Rattle.miniserde_model.specs.Lexing.{Names, Follows}
use Rattle.miniserde_model.specs.declared.kind.Kind.TheVariants.{Map}
use Rattle.miniserde_text.specs.Lexer.{event_of_token, text_of}
use Rattle.miniserde_text.specs.declared.json.lex.Event.{Event}
use Rattle.miniserde_text.specs.declared.json.lex.Event.TheVariants.{MapStart}
use Rattle.miniserde_text.specs.declared.json.lex.Text.{Text}
use Rattle.miniserde_read.specs.Due.{ReadsDue, RejectsDue}
use Rattle.miniserde_read.specs.Rest.{ValueAt, MembersAt, GivesAt, GivesNoneAt}
use Rattle.miniserde_read.specs.Source.{NameFollows}
use Rattle.miniserde_read.specs.types.Objects.{Name, after_members}
use Rattle.miniserde_read.proofs.Due.{due_front}
use Rattle.miniserde_read.proofs.Same.{value_same, tag, first_event, value_event}
use Rattle.miniserde_read.proofs.Steps.{members_follow, members_name, members_there, members_close}

-- The object began with the text `begin` behind its brace. What is left, s, goes on as some members exactly where the
-- whole goes on from the beginning, and from m they give what the whole gives from `empty`.
pub record ObjectGoes {S : Type 0} (next : S → Name → Tree → Option S) (empty : S) (begin : List ℕ) (first : Bool)
    (s : List ℕ) (m : S) : Type 0 where
  pub on : (us : Members) (r : List ℕ) → MembersAt us first s r → (ms : Members) × MembersAt ms true begin r
      × (after_members next empty ms ≡ after_members next m us)
  pub back : (ms : Members) (r : List ℕ) → MembersAt ms true begin r → (us : Members) × MembersAt us first s r
      × (after_members next empty ms ≡ after_members next m us)

-- The object began with the text `begin` behind its brace, and gave the state m. Then its closing brace was taken, if
-- `close` is true, or what stands before its next member; s is left.
pub record ObjectNext {S : Type 0} (next : S → Name → Tree → Option S) (empty : S) (begin : List ℕ) (close : Bool)
    (s : List ℕ) (m : S) : Type 0 where
  pub first : Bool
  pub before : List ℕ
  pub goes : ObjectGoes next empty begin first before m
  pub follows : Follows Map first close before s

module _ {S : Type 0} (next : S → Name → Tree → Option S) where
  pub object_begins : (empty : S) (begin : List ℕ) → ObjectGoes next empty begin true begin empty
  object_begins empty begin = record { on = λ us r p. (us, p, refl); back = λ ms r p. (ms, p, refl) }

  one_more : (m m' : S) (n : Name) (t : Tree) (us : Members) → next m n t ≡ Some m'
      → after_members next m (member n t us) ≡ after_members next m' us
  one_more m m' n t us e = rw e refl

  none_more : (m : S) (n : Name) (t : Tree) (us : Members) → next m n t ≡ None → after_members next m (member n t us) ≡ None
  none_more m n t us e = rw e refl

module _ {S : Type 0} {next : S → Name → Tree → Option S} {empty : S} {begin : List ℕ} {f : Bool} {s : List ℕ} {m : S}
    (g : ObjectGoes next empty begin f s m) where
  pub object_goes : (x c d : List ℕ) {o : Option Text} {name : Text} {m' : S} → NameFollows o x f s c → o ≡ Some name
      → ReadsDue (next m (text_of name x)) c d m' → ObjectGoes next empty begin false d m'
  object_goes x c d {o = None} h e p = absurd (cc)
  object_goes x c d {o = Some o} {name} {m'} h e p =
      let n = text_of name x in
      let same : o ≡ name = cc in
      let j : Names h.0 n c = subst (λ z. Names h.0 (text_of z x) c) same h.2 in
      record {
        on = λ us r q.
            let a = g.on (member n p.one us) r
            (record {
              begin = h.0;
              named = c;
              event = p.event;
              behind = p.behind;
              rest = d;
              follows = h.1;
              names = j;
              starts = p.starts;
              is_value = p.is_value;
              is_rest = q;
            }) in
            (a.0, a.1, a.2 ∙ one_more next m m' n p.one us p.gives);
        back = λ ms r q.
            let a = g.back ms r q in
            let u = members_there a.0 f s h.1 j a.1 in
            let v = due_front u.rest u.event p.event u.one p.starts u.starts u.is_value in
            let one = value_same u.one p.one p.event p.behind u.rest d v p.is_value in (
              u.more,
              subst (λ z. MembersAt u.more false z r) one.1 u.is_rest,
              a.2 ∙ ap (after_members next m) (u.is ∙ ap (λ z. member n z u.more) one.0) ∙ one_more next m m' n p.one u.more p.gives,
            );
      }

  -- the next member gives nothing
  pub object_none : (x c : List ℕ) {o : Option Text} {name : Text} → NameFollows o x f s c → o ≡ Some name
      → RejectsDue (next m (text_of name x)) c → (ms : Members) (r : List ℕ) → MembersAt ms true begin r
      → after_members next empty ms ≡ None
  object_none x c {o = None} h e n ms r p = absurd (cc)
  object_none x c {o = Some o} {name} h e n ms r p =
      let same : o ≡ name = cc in
      let a = g.back ms r p in
      let u = members_there a.0 f s h.1 h.2 a.1 in
      a.2 ∙ ap (after_members next m) u.is ∙ none_more next m (text_of o x) u.one u.more
      (ap (λ z. next m (text_of z x) u.one) same ∙ n u.one u.event u.behind u.rest u.starts u.is_value)

  -- if the rest of the text goes on as no members, no object begins as the text does
  pub no_object_follows : ((us : Members) (r : List ℕ) → MembersAt us f s r → ⊥) → (ms : Members) (r : List ℕ)
      → MembersAt ms true begin r → ⊥
  no_object_follows n ms r p = let a = g.back ms r p in n a.0 r a.1

  -- neither the closing brace nor a member is next
  pub no_member_follows : ((a : Bool) (b : List ℕ) → Follows Map f a s b → ⊥) → (ms : Members) (r : List ℕ)
      → MembersAt ms true begin r → ⊥
  no_member_follows n = no_object_follows (λ us r p. let q = members_follow us f s r p in n q.0 q.1 q.2)

  -- a member is next, but no name
  pub no_name_follows : (b : List ℕ) → Follows Map f false s b → ((n c : List ℕ) → Names b n c → ⊥) → (ms : Members) (r : List ℕ)
      → MembersAt ms true begin r → ⊥
  no_name_follows b h n = no_object_follows (λ us r p. let q = members_name us f s b r h p in n q.0 q.1 q.2)

  -- the object ends
  pub object_ends : (x b : List ℕ) {o : Option Text} → NameFollows o x f s b → o ≡ None
      → (ms : Members) × MembersAt ms true begin b × (after_members next empty ms ≡ Some m)
  object_ends x b {o = Some n} h e = absurd (cc)
  object_ends x b {o = None} h e = g.on no_members b h

  pub object_ended : (x b : List ℕ) {o : Option Text} → NameFollows o x f s b → o ≡ None → (ms : Members) (r : List ℕ)
      → MembersAt ms true begin r → after_members next empty ms ≡ Some m
  object_ended x b {o = Some n} h e ms r p = absurd (cc)
  object_ended x b {o = None} h e ms r p =
      let a = g.back ms r p in
      a.2 ∙ ap (after_members next m) (members_close a.0 f s b r h a.1).0

-- what begins with `{` is an object
opened_object : (t : Tree) (s r : List ℕ) → ValueAt t map s r → (ms : Members) × (t ≡ members ms) × MembersAt ms true s r
opened_object (members ms) s r p = (ms, refl, p.1)
opened_object t s r p = let k : 7 ≡ tag (first_event t) = ap tag (value_event t map s r p) in absurd (omega (arith, k))

module _ {R : Type 0} (of : Tree → Option R) (e : Event) (x : List ℕ) {s : List ℕ} where
  -- what an object of these members gives, a text that begins with `{` gives
  pub object_gives : {r : List ℕ} {c : R} → e ≡ MapStart → (ms : Members) × MembersAt ms true s r × (of (members ms) ≡ Some c)
      → GivesAt of (event_of_token e x) s r c
  object_gives i d = (members d.0, (ap (λ z. event_of_token z x) i, d.1), d.2)

  pub object_rejects : e ≡ MapStart → ((ms : Members) (r : List ℕ) → MembersAt ms true s r → of (members ms) ≡ None)
      → GivesNoneAt of (event_of_token e x) s
  object_rejects i n t r p =
      let o = opened_object t s r (subst (λ z. ValueAt t (event_of_token z x) s r) i p) in
      ap of o.1 ∙ n o.0 r o.2
