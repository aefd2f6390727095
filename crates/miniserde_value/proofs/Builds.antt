-- Each step of the reader passes events of the text, and makes the next hole of them. By cases of the event (first
-- token, element, name, end); `Builds-append` joins the steps, and `read_ok` and `read_none` are the two ends.
use Rattle.std.proofs.Common.{cond, ◌≡◌, ℕ, Bool, true, false, Option, Some, None, is_some, option_map, List, []}
use Rattle.std.proofs.Common.{◌∷◌, ◌++◌, append_assoc, append-nil, refl, sym, ap, subst, ◌∙◌}
use Rattle.std.proofs.Math.Bool.{and-false}
use Rattle.std.specs.Prelude.{◌&&◌, option_and_then}
use Rattle.miniserde_model.specs.Tree.{Tree, no_members}
use Rattle.miniserde_model.specs.Step.{Step, boolean, string, negative, nonnegative, float, seq, element, map, key, finish}
use Rattle.miniserde_model.specs.Step as step
use Rattle.miniserde_model.specs.Lexing.{Starts, Names, Follows}
use Rattle.miniserde_model.specs.private.Reading.{due}
use Rattle.miniserde_text.specs.Lexer.{event_of_token}
use Rattle.miniserde_model.specs.declared.kind.Kind.{Kind}
use Rattle.miniserde_model.specs.declared.kind.Kind.TheVariants as kind
use Rattle.miniserde_text.specs.declared.json.lex.Event as token
use Rattle.miniserde_text.specs.declared.json.lex.Event.TheVariants as variant
use Rattle.miniserde_text.specs.private.Stack.{with_opened, outer, innermost}
use Rattle.miniserde_text.specs.private.Moments.{opened_kind, first_or_after, MomentFits}
use Rattle.miniserde_read.specs.Rest.{ValueAt}
use Rattle.miniserde_text.specs.private.EventRuns.{Runs, text_at, Consumes, NeverRuns}
use Rattle.miniserde_text.proofs.Consumes.{Consumes-none, Consumes-append, close_passed, element_passed, key_passed}
use Rattle.miniserde_text.proofs.Consumes.{value_passed, live_opened}
use Rattle.miniserde_read.proofs.Values.{value_later, whole_at}
use Rattle.miniserde_value.specs.Hole.{Hole, outside, in_list, in_members, has_member, with_tree, with_name, after_close}
use Rattle.miniserde_value.specs.Hole.{complete_tree, after_begin, after_step, repeats, outcome}
use Rattle.miniserde_value.specs.Retained.{retained_tree, retained_if}
use Rattle.miniserde_value.specs.Containers.{innermost_kind, pending, with_next_name}
use Rattle.miniserde_value.specs.laws.Unique.{gives-retained}
use Rattle.miniserde_value.specs.private.Builds.{ReaderState, state_before, state_due, outcome_at, Builds, HoleAdvancesBy, text_of_state}
use Rattle.miniserde_value.specs.private.Builds.{NeverGives, kinds, is_due}

-- ---- the open containers

-- The stack of kinds, of which the lexer's lemmas speak, has on top the kind of the hole's innermost container. So what
-- a hole says serves the lemmas on closing brackets, elements and keys.
pub innermost_of_kinds : (h : Hole) → innermost (kinds h) ≡ (innermost_kind h)
innermost_of_kinds (outside ts) = refl
innermost_of_kinds (in_list ts h) = refl
innermost_of_kinds (in_members ms n h) = refl

kinds_put : (t : Tree) (h : Hole) → kinds (with_tree t h) ≡ kinds h
kinds_put t (outside ts) = refl
kinds_put t (in_list ts h) = refl
kinds_put t (in_members ms None h) = refl
kinds_put t (in_members ms (Some n) h) = refl

kinds_closed : (h : Hole) → kinds (after_close h) ≡ outer (kinds h)
kinds_closed (outside ts) = refl
kinds_closed (in_list ts h) = kinds_put _ h
kinds_closed (in_members ms n h) = kinds_put _ h

kinds_some : (t : Tree) (h g : Hole) → ◌≡◌ {A = Option Hole} (Some (with_tree t h)) (Some g) → kinds g ≡ kinds h
kinds_some t h g e = let i : g ≡ with_tree t h = cc in ap kinds i ∙ kinds_put t h

kinds_begun : (e : Step) (h g : Hole) → after_begin e h ≡ Some g → kinds g ≡ with_opened (opened_kind e) (kinds h)
kinds_begun step.null h g b = kinds_some _ h g b
kinds_begun (boolean x) h g b = kinds_some _ h g b
kinds_begun (string x) h g b = kinds_some _ h g b
kinds_begun (negative x) h g b = kinds_some _ h g b
kinds_begun (nonnegative x) h g b = kinds_some _ h g b
kinds_begun (float x) h g b = kinds_some _ h g b
kinds_begun seq h g b = let i : g ≡ in_list [] h = cc in ap kinds i
kinds_begun map h g b = let i : g ≡ in_members no_members None h = cc in ap kinds i
kinds_begun element h g b = absurd (cc)
kinds_begun (key k) h g b = absurd (cc)
kinds_begun finish h g b = absurd (cc)

-- each token begins a value
pub begins : (x : token.Event) (scratch : List ℕ) (h : Hole) → after_begin (event_of_token x scratch) h ≡ None → ⊥
begins variant.Null scratch h e = absurd (cc)
begins (variant.Bool b) scratch h e = absurd (cc)
begins (variant.Negative n) scratch h e = absurd (cc)
begins (variant.Nonnegative n) scratch h e = absurd (cc)
begins (variant.Number x) scratch h e = absurd (cc)
begins (variant.Str t) scratch h e = absurd (cc)
begins variant.SeqStart scratch h e = absurd (cc)
begins variant.MapStart scratch h e = absurd (cc)

-- ---- the name of the next value

pending_put : (t : Tree) (h : Hole) → pending (with_tree t h) ≡ None
pending_put t (outside ts) = refl
pending_put t (in_list ts h) = refl
pending_put t (in_members ms None h) = refl
pending_put t (in_members ms (Some n) h) = refl

pending_some : (f g : Hole) → ◌≡◌ {A = Option Hole} (Some f) (Some g) → pending f ≡ None → pending g ≡ None
pending_some f g e p = let i : g ≡ f = cc in ap pending i ∙ p

-- after a value or an opening bracket no name has come for the next value
pub pending_begun : (e : Step) (h g : Hole) → after_begin e h ≡ Some g → pending g ≡ None
pending_begun step.null h g b = pending_some _ g b (pending_put _ h)
pending_begun (boolean x) h g b = pending_some _ g b (pending_put _ h)
pending_begun (string x) h g b = pending_some _ g b (pending_put _ h)
pending_begun (negative x) h g b = pending_some _ g b (pending_put _ h)
pending_begun (nonnegative x) h g b = pending_some _ g b (pending_put _ h)
pending_begun (float x) h g b = pending_some _ g b (pending_put _ h)
pending_begun seq h g b = pending_some _ g b refl
pending_begun map h g b = pending_some _ g b refl
pending_begun element h g b = absurd (cc)
pending_begun (key k) h g b = absurd (cc)
pending_begun finish h g b = absurd (cc)

-- ---- one step

not_due : (f : Bool) → is_due (first_or_after f) ≡ false
not_due true = refl
not_due false = refl

-- an event is taken that repeats no name
goes_on : (once due : Bool) (h : Hole) (e : Step) {d : Bool} {g : Hole} → (once && repeats e h) ≡ false
    → after_step due h e ≡ Some (d, g) → (es : List Step) → outcome once due h (e ∷ es) ≡ outcome once d g es
goes_on once true h e n t es =
    let rest : Bool × Hole → Option Tree = λ s. outcome once s.0 s.1 es in
    ap (λ z. option_and_then rest (cond z None (after_step true h e))) n ∙ ap (option_and_then rest) t
goes_on once false h e n t es =
    let rest : Bool × Hole → Option Tree = λ s. outcome once s.0 s.1 es in
    ap (λ z. option_and_then rest (cond z None (after_step false h e))) n ∙ ap (option_and_then rest) t

closes_hole : (once : Bool) (h : Hole) (k : Kind) → innermost_kind h ≡ Some k → (es : List Step)
    → outcome once false h (finish ∷ es) ≡ outcome once false (after_close h) es
closes_hole once (outside ts) k i es = absurd (cc)
closes_hole once (in_list ts h) k i es = goes_on once false (in_list ts h) finish (and-false once) refl es
closes_hole once (in_members ms n h) k i es = goes_on once false (in_members ms n h) finish (and-false once) refl es

close_makes : (once : Bool) (h : Hole) (s r : List ℕ) (k : Kind) (f : Bool) → innermost_kind h ≡ Some k
    → HoleAdvancesBy once (state_before f h s) (finish ∷ []) (state_before false (after_close h) r)
close_makes once h s r k f i = λ es. ap (λ z. outcome once z h (finish ∷ es)) (not_due f) ∙ closes_hole once h k i es

-- if the closing bracket of the innermost container is next, the text builds the hole after the close
pub close_builds : (once : Bool) (h : Hole) {s r : List ℕ} (k : Kind) (f : Bool) → innermost_kind h ≡ Some k
    → Follows k f true s r → Builds once (state_before f h s) (state_before false (after_close h) r)
close_builds once h {s = s} {r = r} k f i p = record {
  done = finish ∷ [];
  passed = close_passed k f (innermost_of_kinds h ∙ i) p (kinds_closed h);
  makes = close_makes false h s r k f i;
  repeats_none = close_makes once h s r k f i;
}

goes_to_element : (once : Bool) (h : Hole) (k : Kind) → innermost_kind h ≡ Some k → k ≡ kind.Seq → (es : List Step)
    → outcome once false h (element ∷ es) ≡ outcome once true h es
goes_to_element once (outside ts) k i q es = absurd (cc)
goes_to_element once (in_list ts h) k i q es = goes_on once false (in_list ts h) element (and-false once) refl es
goes_to_element once (in_members ms n h) k i q es = absurd (cc)

element_makes : (once : Bool) (h : Hole) (s r : List ℕ) {k : Kind} (f : Bool) → innermost_kind h ≡ Some k → k ≡ kind.Seq
    → HoleAdvancesBy once (state_before f h s) (element ∷ []) (state_due h r)
element_makes once h s r {k = k} f i q = λ es. ap (λ z. outcome once z h (element ∷ es)) (not_due f) ∙ goes_to_element once h k i q es

-- if the innermost container is an array and an element is next, the event `element` leaves the hole as it is, and a
-- value is due
pub element_builds : (once : Bool) (h : Hole) {s r : List ℕ} (k : Kind) (f : Bool) → innermost_kind h ≡ Some k
    → k ≡ kind.Seq → Follows k f false s r → Builds once (state_before f h s) (state_due h r)
element_builds once h {s = s} {r = r} k f i q p = record {
  done = element ∷ [];
  passed = element_passed k f (innermost_of_kinds h ∙ i) q p;
  makes = element_makes false h s r f i q;
  repeats_none = element_makes once h s r f i q;
}

-- In the text s a member of the name n is next, in the hole's innermost container, which is an object; `opened` says that
-- its opening bracket was just taken. u is the text behind the name.
pub record MemberNext (h : Hole) (opened : Bool) (s n u : List ℕ) : Type 0 where
  pub container : Kind
  -- the text from the name on
  pub names : List ℕ
  pub inside : innermost_kind h ≡ Some container
  pub is_object : container ≡ kind.Map
  pub follows : Follows container opened false s names
  pub is_name : Names names n u

goes_to_member : (once : Bool) (h : Hole) (n : List ℕ) {k : Kind} → innermost_kind h ≡ Some k → k ≡ kind.Map
    → (once && has_member n h) ≡ false → (es : List Step)
    → outcome once false h (key n ∷ es) ≡ outcome once true (with_name n h) es
goes_to_member once (outside ts) n i q l es = absurd (cc)
goes_to_member once (in_list ts h) n i q l es = absurd (cc)
goes_to_member once (in_members ms m h) n i q l es = goes_on once false (in_members ms m h) (key n) l refl es

key_makes : (once : Bool) {h : Hole} {f : Bool} {s n u : List ℕ} → MemberNext h f s n u → (once && has_member n h) ≡ false
    → HoleAdvancesBy once (state_before f h s) (key n ∷ []) (state_due (with_name n h) u)
key_makes once {h = h} {f = f} {n = n} p l = λ es. ap (λ z. outcome once z h (key n ∷ es)) (not_due f)
    ∙ goes_to_member once h n p.inside p.is_object l es

kinds_named : (h : Hole) (n : List ℕ) → kinds (with_name n h) ≡ kinds h
kinds_named (outside ts) n = refl
kinds_named (in_list ts h) n = refl
kinds_named (in_members ms m h) n = refl

kinds_next : (n : Option (List ℕ)) (h : Hole) → kinds (with_next_name n h) ≡ kinds h
kinds_next None h = refl
kinds_next (Some n) h = kinds_named h n

key_done : {h : Hole} {f : Bool} {s n u : List ℕ} → MemberNext h f s n u
    → Consumes (text_at (first_or_after f) (kinds h) s) (key n ∷ []) (text_at due (kinds h) u)
key_done {h = h} {f = f} p =
    key_passed p.container f (innermost_of_kinds h ∙ p.inside) p.is_object p.follows p.is_name

-- if a member is next in the innermost object, and `once` allows its name, the text builds the hole g with the name
pub key_builds : (once : Bool) {h g : Hole} {f : Bool} {s n u : List ℕ} → MemberNext h f s n u
    → (once && has_member n h) ≡ false → g ≡ with_name n h → Builds once (state_before f h s) (state_due g u)
key_builds once {h = h} {f = f} {s = s} {n = n} {u = u} p l e =
    subst (λ z. Builds once (state_before f h s) (state_due z u)) (sym e)
    (record {
      done = key n ∷ [];
      passed = subst (λ z. Consumes (text_at (first_or_after f) (kinds h) s) (key n ∷ []) (text_at due z u))
          (sym (kinds_named h n)) (key_done p);
      makes = key_makes false p refl;
      repeats_none = key_makes once p l;
    })

start_new : (once : Bool) (e : Step) (h g : Hole) → after_begin e h ≡ Some g → (once && repeats e h) ≡ false
start_new once step.null h g b = and-false once
start_new once (boolean x) h g b = and-false once
start_new once (string x) h g b = and-false once
start_new once (negative x) h g b = and-false once
start_new once (nonnegative x) h g b = and-false once
start_new once (float x) h g b = and-false once
start_new once seq h g b = and-false once
start_new once map h g b = and-false once
start_new once element h g b = absurd (cc)
start_new once (key k) h g b = absurd (cc)
start_new once finish h g b = absurd (cc)

start_makes : (once : Bool) (e : Step) (h g : Hole) → after_begin e h ≡ Some g → (es : List Step)
    → outcome once true h (e ∷ es) ≡ outcome once false g es
start_makes once e h g b es = goes_on once true h e (start_new once e h g b) (ap (option_map (λ (z : Hole). (false, z))) b) es

-- if a text starts with e, and e makes g of the hole h, the text builds g
pub start_builds : (once : Bool) (h g : Hole) {s r : List ℕ} (e : Step) {f : Bool} → Starts s e r
    → f ≡ is_some (opened_kind e) → after_begin e h ≡ Some g → Builds once (state_due h s) (state_before f g r)
start_builds once h g {s = s} {r = r} e {f = f} p q b = record {
  done = e ∷ [];
  passed = value_passed e f p q (kinds_begun e h g b);
  makes = λ es. start_makes false e h g b es ∙ ap (λ z. outcome false z g es) (sym (not_due f));
  repeats_none = λ es. start_makes once e h g b es ∙ ap (λ z. outcome once z g es) (sym (not_due f));
}

-- ---- several

-- two steps that build holes, one after the other, are one step
pub Builds-append : (once : Bool) {from mid to : ReaderState} → Builds once from mid → Builds once mid to → Builds once from to
Builds-append once {from = from} {mid = mid} {to = to} p q = record {
  done = p.done ++ q.done;
  passed = Consumes-append p.passed q.passed;
  makes = λ es. ap (outcome_at false from) (append_assoc p.done q.done es) ∙ p.makes (q.done ++ es) ∙ q.makes es;
  repeats_none = λ es. ap (outcome_at once from) (append_assoc p.done q.done es) ∙ p.repeats_none (q.done ++ es) ∙ q.repeats_none es;
}

-- a child's first token is taken, behind its name, if it has one, and behind the events before it
pub child_builds : (once : Bool) {from mid : ReaderState} {h g : Hole} {s r : List ℕ} {e d : Step} {opened : Bool}
    → Builds once from mid → Builds once mid (state_due h s) → Starts s e r → d ≡ e → opened ≡ is_some (opened_kind d)
    → after_begin d h ≡ Some g → Builds once from (state_before opened g r)
child_builds once {h = h} {g = g} {e = e} before named starts same opens begun =
    Builds-append once (Builds-append once before named)
    (start_builds once h g e starts (opens ∙ ap (λ z. is_some (opened_kind z)) same) (ap (λ z. after_begin z h) (sym same) ∙ begun))

-- ---- the innermost container stays

same_stack : (o : Option Kind) (st : List Kind) → false ≡ is_some o → with_opened o st ≡ st
same_stack None st e = refl
same_stack (Some k) st e = absurd (cc)

-- a leaf, with a name or without one, leaves the innermost container open
pub leaf_stays : (n : Option (List ℕ)) (e : Step) (h g : Hole) → after_begin e (with_next_name n h) ≡ Some g
    → false ≡ is_some (opened_kind e) → innermost_kind g ≡ innermost_kind h
leaf_stays n e h g b f =
    sym (innermost_of_kinds g)
    ∙ ap innermost (kinds_begun e (with_next_name n h) g b ∙ same_stack (opened_kind e) _ f ∙ kinds_next n h)
    ∙ innermost_of_kinds h

-- ---- what can give no value

-- if no prefix of the text closes all containers, no events give a tree
pub stuck : (once : Bool) (now : ReaderState) → NeverRuns (text_of_state now) → NeverGives once now
stuck once now n es r g = absurd (n es r g)

-- if no events give a tree behind a step that builds a hole, none give one before it
pub never_behind : (once : Bool) {from to : ReaderState} → Builds once from to → NeverGives once to → NeverGives once from
never_behind once {from = from} p n es r g =
    let a = p.passed.back es r g in
    ap (outcome_at once from) a.1 ∙ p.repeats_none a.0 ∙ n a.0 r a.2

-- a name that the object has, where none may be repeated
pub repeat_gives : (once : Bool) {h : Hole} {f : Bool} {s n u : List ℕ} → MemberNext h f s n u
    → (once && has_member n h) ≡ true → NeverGives once (state_before f h s)
repeat_gives once {h = h} {f = f} {n = n} p l es r g =
    let a = (key_done p).back es r g in
    let rest : Bool × Hole → Option Tree = λ x. outcome once x.0 x.1 a.0 in
    ap (λ z. outcome once z h es) (not_due f) ∙ ap (outcome once false h) a.1
    ∙ ap (λ z. option_and_then rest (cond z None (after_step false h (key n)))) l

-- ---- a whole value

-- The first event e of a value was taken, and then those that build the state `now`. s is the text behind the value's
-- first token.
pub record BuiltSince (once : Bool) (e : Step) (s : List ℕ) (now : ReaderState) : Type 0 where
  -- the hole after e
  pub hole : Hole
  pub is_hole : after_begin e (outside []) ≡ Some hole
  pub builds : Builds once (state_before (is_some (opened_kind e)) hole s) now

-- its first token was taken
pub builds_init : (once : Bool) (e : Step) (h : Hole) (f : Bool) (s : List ℕ) → f ≡ is_some (opened_kind e)
    → after_begin e (outside []) ≡ Some h → Builds once (state_before (is_some (opened_kind e)) h s) (state_before f h s)
builds_init once e h f s q b =
    subst (λ z. Builds once (state_before (is_some (opened_kind e)) h s) (state_before z h s)) (sym q)
    (record {
      done = [];
      passed = Consumes-none (subst (λ z. MomentFits (first_or_after (is_some (opened_kind e))) z)
          (sym (kinds_begun e (outside []) h b)) (live_opened e));
      makes = λ es. refl;
      repeats_none =
          λ es. refl;
    })

-- no container is left open
pub read_ok : (once : Bool) (x : token.Event) (scratch : List ℕ) {s r : List ℕ} (f : Bool) (g : Hole) → innermost_kind g ≡ None
    → BuiltSince once (event_of_token x scratch) s (state_before f g r)
    → (t : Tree) × ValueAt t (event_of_token x scratch) s r × (complete_tree g ≡ Some (retained_tree t))
    × (complete_tree g ≡ retained_if once t)
read_ok once x scratch true (outside ts) i p = absurd p.builds.passed.live
read_ok once x scratch {s = s} {r = r} false (outside ts) i p =
    let e = event_of_token x scratch in
    let h = p.hole in
    let done = p.builds.done in
    let m = first_or_after (is_some (opened_kind e)) in
    let runs : Runs m done (with_opened (opened_kind e) []) s r =
    subst (λ z. Runs m done z s r) (kinds_begun e (outside []) h p.is_hole)
    (subst (λ z. Runs m z (kinds h) s r) (append-nil done) (p.builds.passed.on [] r refl)) in
    let w = whole_at x scratch done s r runs in
    let ends : (o : Bool)
    → HoleAdvancesBy o (state_before (is_some (opened_kind e)) h s) done (state_before false (outside ts) r)
    → complete_tree (outside ts) ≡ retained_if o w.tree = λ o makes.
    sym (makes []) ∙ ap (λ z. outcome o z h (done ++ [])) (not_due (is_some (opened_kind e))) ∙ ap (outcome o false h) (append-nil done)
    ∙ sym (start_makes o e (outside []) h p.is_hole done) ∙ ap (outcome o true (outside [])) w.is ∙ gives-retained o w.tree in
    (w.tree, w.is_value, ends false p.builds.makes, ends once p.builds.repeats_none)
read_ok once x scratch f (in_list ts g) i p = absurd (cc)
read_ok once x scratch f (in_members ms n g) i p = absurd (cc)

-- no tree that the text spells is kept
pub read_none : (once : Bool) {e : Step} {s : List ℕ} {now : ReaderState} → BuiltSince once e s now → NeverGives once now
    → (t : Tree) (r : List ℕ) → ValueAt t e s r → retained_if once t ≡ None
read_none once {e = e} {s = s} p n t r v =
    let h = p.hole in
    let l = value_later t e s r v in
    let none = never_behind once p.builds n l.later r
    (subst (λ z. Runs (first_or_after (is_some (opened_kind e))) l.later z s r) (sym (kinds_begun e (outside []) h p.is_hole)) l.runs) in
    sym (gives-retained once t) ∙ ap (outcome once true (outside [])) l.is ∙ start_makes once e (outside []) h p.is_hole l.later
    ∙ ap (λ z. outcome once z h l.later) (sym (not_due (is_some (opened_kind e)))) ∙ none
