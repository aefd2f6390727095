-- A text goes on as a list of events exactly if it goes on as the trees of these events. From trees to events by
-- recursion over the tree (`value_then_runs`), and back by recursion over the number of events (`find_value`);
-- `value_later` and `whole_at` state both for a value whose first event was taken.
use Rattle.std.proofs.Common.{◌≡◌, ℕ, zero, suc, ◌≤◌, Bool, true, false, is_some, List, [], ◌∷◌, ◌++◌, length, refl}
use Rattle.std.proofs.Common.{sym, ap, subst, ◌∙◌, append_assoc, arith, length-append}
use Rattle.miniserde_model.specs.Tree.{Tree, null, truth, nonneg, neg, num, str, list, members, Trees, no_trees}
use Rattle.miniserde_model.specs.Tree.{tree, Members, no_members, member}
use Rattle.miniserde_model.specs.Step.{Step, boolean, string, negative, nonnegative, float, seq, element, map, key}
use Rattle.miniserde_model.specs.Step.{finish, events, child_events, member_events}
use Rattle.miniserde_model.specs.Step as step
use Rattle.miniserde_model.specs.Lexing.{Starts, Names, Follows}
use Rattle.miniserde_model.specs.declared.kind.Kind.{Kind}
use Rattle.miniserde_model.specs.declared.kind.Kind.TheVariants.{Seq, Map}
use Rattle.miniserde_model.specs.private.Reading.{due, first, after}
use Rattle.miniserde_text.specs.private.Stack.{with_opened}
use Rattle.miniserde_text.specs.private.Moments.{opened_kind, first_or_after}
use Rattle.miniserde_text.specs.Lexer.{event_of_token}
use Rattle.miniserde_text.specs.declared.json.lex.Event as lexed
use Rattle.miniserde_text.specs.declared.json.lex.Event.TheVariants as variant
use Rattle.miniserde_read.specs.Rest.{ValueAt, ElementsAt, MembersAt}
use Rattle.miniserde_text.specs.private.EventRuns.{Runs}
use Rattle.miniserde_text.proofs.Wholes.{no_events_left}

-- ---- from the tree to its events

mutual
  -- where a value is due, a text that spells t and then runs through es runs through the events of t and then es
  pub value_then_runs : (t : Tree) (e : Step) (j s x : List ℕ) (es : List Step) (st : List Kind) (r : List ℕ)
      → Starts j e s → ValueAt t e s x → Runs after es st x r → Runs due (events t ++ es) st j r
  value_then_runs null e j s x es st r k v h = (s, subst (λ z. Starts j z s) v.0 k, subst (λ z. Runs after es st z r) v.1 h)
  value_then_runs (truth b) e j s x es st r k v h = (s, subst (λ z. Starts j z s) v.0 k, subst (λ z. Runs after es st z r) v.1 h)
  value_then_runs (nonneg n) e j s x es st r k v h = (s, subst (λ z. Starts j z s) v.0 k, subst (λ z. Runs after es st z r) v.1 h)
  value_then_runs (neg n) e j s x es st r k v h = (s, subst (λ z. Starts j z s) v.0 k, subst (λ z. Runs after es st z r) v.1 h)
  value_then_runs (num y) e j s x es st r k v h = (s, subst (λ z. Starts j z s) v.0 k, subst (λ z. Runs after es st z r) v.1 h)
  value_then_runs (str y) e j s x es st r k v h = (s, subst (λ z. Starts j z s) v.0 k, subst (λ z. Runs after es st z r) v.1 h)
  value_then_runs (list ts) e j s x es st r k v h = (
    s,
    subst (λ z. Starts j z s) v.0 k,
    subst (λ z. Runs first z (Seq ∷ st) s r)
        (sym (append_assoc (child_events ts) (finish ∷ []) es)) (elements_run ts true s x es st r v.1 h),
  )
  value_then_runs (members ms) e j s x es st r k v h = (
    s,
    subst (λ z. Starts j z s) v.0 k,
    subst (λ z. Runs first z (Map ∷ st) s r)
        (sym (append_assoc (member_events ms) (finish ∷ []) es)) (members_run ms true s x es st r v.1 h),
  )

  pub elements_run : (ts : Trees) (f : Bool) (s x : List ℕ) (es : List Step) (st : List Kind) (r : List ℕ)
      → ElementsAt ts f s x → Runs after es st x r → Runs (first_or_after f) (child_events ts ++ finish ∷ es)
      (Seq ∷ st) s r
  elements_run no_trees true s x es st r p h = (x, p, h)
  elements_run no_trees false s x es st r p h = (x, p, h)
  elements_run (tree t ts) true s x es st r p h = (
    p.begin,
    p.follows,
    subst (λ z. Runs due z (Seq ∷ st) p.begin r)
        (sym (append_assoc (events t) (child_events ts) (finish ∷ es)))
        (value_then_runs t p.event p.begin p.behind p.rest (child_events ts ++ finish ∷ es) (Seq ∷ st) r p.starts
        p.is_value (elements_run ts false p.rest x es st r p.is_rest h)),
  )
  elements_run (tree t ts) false s x es st r p h = (
    p.begin,
    p.follows,
    subst (λ z. Runs due z (Seq ∷ st) p.begin r)
        (sym (append_assoc (events t) (child_events ts) (finish ∷ es)))
        (value_then_runs t p.event p.begin p.behind p.rest (child_events ts ++ finish ∷ es) (Seq ∷ st) r p.starts
        p.is_value (elements_run ts false p.rest x es st r p.is_rest h)),
  )

  pub members_run : (ms : Members) (f : Bool) (s x : List ℕ) (es : List Step) (st : List Kind) (r : List ℕ)
      → MembersAt ms f s x → Runs after es st x r → Runs (first_or_after f) (member_events ms ++ finish ∷ es)
      (Map ∷ st) s r
  members_run no_members true s x es st r p h = (x, p, h)
  members_run no_members false s x es st r p h = (x, p, h)
  members_run (member n t ms) true s x es st r p h = (
    p.begin,
    p.named,
    p.follows,
    p.names,
    subst (λ z. Runs due z (Map ∷ st) p.named r)
        (sym (append_assoc (events t) (member_events ms) (finish ∷ es)))
        (value_then_runs t p.event p.named p.behind p.rest (member_events ms ++ finish ∷ es) (Map ∷ st) r p.starts
        p.is_value (members_run ms false p.rest x es st r p.is_rest h)),
  )
  members_run (member n t ms) false s x es st r p h = (
    p.begin,
    p.named,
    p.follows,
    p.names,
    subst (λ z. Runs due z (Map ∷ st) p.named r)
        (sym (append_assoc (events t) (member_events ms) (finish ∷ es)))
        (value_then_runs t p.event p.named p.behind p.rest (member_events ms ++ finish ∷ es) (Map ∷ st) r p.starts
        p.is_value (members_run ms false p.rest x es st r p.is_rest h)),
  )

-- the events behind the first one, where that was taken
pub record Later (t : Tree) (e : Step) (s r : List ℕ) : Type 0 where
  pub later : List Step
  pub is : events t ≡ e ∷ later
  pub runs : Runs (first_or_after (is_some (opened_kind e))) later (with_opened (opened_kind e) []) s r

-- the same where the event is d
later_as : (t : Tree) (d e : Step) (s r : List ℕ) → e ≡ d → Later t d s r → Later t e s r
later_as t d e s r q h = subst (λ z. Later t z s r) (sym q) h

-- behind the first event e of a tree, the text runs on as the other events of the tree
pub value_later : (t : Tree) (e : Step) (s r : List ℕ) → ValueAt t e s r → Later t e s r
value_later null e s r v = later_as null step.null e s r v.0 (record { later = []; is = refl; runs = v.1 })
value_later (truth b) e s r v = later_as (truth b) (boolean b) e s r v.0 (record { later = []; is = refl; runs = v.1 })
value_later (nonneg n) e s r v = later_as (nonneg n) (nonnegative n) e s r v.0 (record { later = []; is = refl; runs = v.1 })
value_later (neg n) e s r v = later_as (neg n) (negative n) e s r v.0 (record { later = []; is = refl; runs = v.1 })
value_later (num y) e s r v = later_as (num y) (float y) e s r v.0 (record { later = []; is = refl; runs = v.1 })
value_later (str y) e s r v = later_as (str y) (string y) e s r v.0 (record { later = []; is = refl; runs = v.1 })
value_later (list ts) e s r v =
    later_as (list ts) seq e s r v.0
    (record { later = child_events ts ++ finish ∷ []; is = refl; runs = elements_run ts true s r [] [] r v.1 refl })
value_later (members ms) e s r v =
    later_as (members ms) map e s r v.0
    (record { later = member_events ms ++ finish ∷ []; is = refl; runs = members_run ms true s r [] [] r v.1 refl })

-- ---- from the events to the tree

-- in a run, the value t stands first, and the run goes on behind it
pub record At (t : Tree) (rest : List Step) (st : List Kind) (s r : List ℕ) : Type 0 where
  pub event : Step
  pub behind : List ℕ
  pub end : List ℕ
  pub starts : Starts s event behind
  pub is_value : ValueAt t event behind end
  pub is_rest : Runs after rest st end r

-- a leaf stands where its token does
pub leaf_at : {t : Tree} (e : Step) {rest : List Step} {st : List Kind} {s b r : List ℕ} → Starts s e b → ValueAt t e b b
    → Runs after rest st b r → At t rest st s r
leaf_at e {b = b} k v h = record { event = e; behind = b; end = b; starts = k; is_value = v; is_rest = h }

-- elements stand first, up to the closing bracket, and the run goes on behind it
abbrev pub ElementsEnd : Trees → Bool → List Step → List Kind → List ℕ → List ℕ → Type 0
ElementsEnd ts f rest st s r = (x : List ℕ) × ElementsAt ts f s x × Runs after rest st x r

-- the same of members
abbrev pub MembersEnd : Members → Bool → List Step → List Kind → List ℕ → List ℕ → Type 0
MembersEnd ms f rest st s r = (x : List ℕ) × MembersAt ms f s x × Runs after rest st x r

-- one element and those behind it
pub element_at : (t : Tree) (ts : Trees) (f : Bool) {es : List Step} (rest : List Step) {st : List Kind} {s b r : List ℕ}
    → Follows Seq f false s b → (a : At t es (Seq ∷ st) b r) → ElementsEnd ts false rest st a.end r
    → ElementsEnd (tree t ts) f rest st s r
element_at t ts f rest {b = b} p a m = (
  m.0,
  record {
    begin = b;
    event = a.event;
    behind = a.behind;
    rest = a.end;
    follows = p;
    starts = a.starts;
    is_value = a.is_value;
    is_rest = m.1;
  },
  m.2,
)

-- one member and those behind it
pub member_at : {n : List ℕ} (t : Tree) (ms : Members) (f : Bool) {es : List Step} (rest : List Step) {st : List Kind}
    {s b c r : List ℕ} → Follows Map f false s b → Names b n c → (a : At t es (Map ∷ st) c r) → MembersEnd ms false rest st a.end r
    → MembersEnd (member n t ms) f rest st s r
member_at t ms f rest {b = b} {c = c} p q a m = (
  m.0,
  record {
    begin = b;
    named = c;
    event = a.event;
    behind = a.behind;
    rest = a.end;
    follows = p;
    names = q;
    starts = a.starts;
    is_value = a.is_value;
    is_rest = m.1;
  },
  m.2,
)

-- an array stands where its opening bracket does
pub list_at : {ts : Trees} {rest : List Step} {st : List Kind} {s b r : List ℕ} → Starts s seq b
    → ElementsEnd ts true rest st b r → At (list ts) rest st s r
list_at {b = b} k a =
    record { event = seq; behind = b; end = a.0; starts = k; is_value = (refl, a.1); is_rest = a.2 }

-- an object stands where its opening bracket does
pub object_at : {ms : Members} {rest : List Step} {st : List Kind} {s b r : List ℕ} → Starts s map b
    → MembersEnd ms true rest st b r → At (members ms) rest st s r
object_at {b = b} k a =
    record { event = map; behind = b; end = a.0; starts = k; is_value = (refl, a.1); is_rest = a.2 }

record FoundValue (es : List Step) (st : List Kind) (s r : List ℕ) : Type 0 where
  found : Tree
  left : List Step
  is : es ≡ events found ++ left
  at : At found left st s r

record FoundElements (f : Bool) (es : List Step) (st : List Kind) (s r : List ℕ) : Type 0 where
  found : Trees
  left : List Step
  is : es ≡ child_events found ++ finish ∷ left
  at : ElementsEnd found f left st s r

record FoundMembers (f : Bool) (es : List Step) (st : List Kind) (s r : List ℕ) : Type 0 where
  found : Members
  left : List Step
  is : es ≡ member_events found ++ finish ∷ left
  at : MembersEnd found f left st s r

shorter : (n : ℕ) (es : List Step) (st : List Kind) (s r : List ℕ) (v : FoundValue es st s r) → length es ≤ n → length v.left ≤ n
shorter n es st s r v h = omega (arith, ap length v.is, length-append (events v.found) v.left)

joined : (e : Step) {es gs : List Step} (fs hs left : List Step) → es ≡ fs ++ gs → gs ≡ hs ++ finish ∷ left
    → e ∷ es ≡ (e ∷ (fs ++ hs)) ++ finish ∷ left
joined e fs hs left p q = ap (λ z. e ∷ z) (p ∙ ap (λ z. fs ++ z) q ∙ sym (append_assoc fs hs (finish ∷ left)))

add_element : (f : Bool) {es : List Step} {st : List Kind} {s b r : List ℕ} → Follows Seq f false s b
    → (v : FoundValue es (Seq ∷ st) b r) → FoundElements false v.left st v.at.end r
    → FoundElements f (element ∷ es) st s r
add_element f p v m =
    record {
      found = tree v.found m.found;
      left = m.left;
      is = joined element (events v.found) (child_events m.found) m.left v.is m.is;
      at = element_at v.found m.found f m.left p v.at m.at;
    }

add_member : (f : Bool) {es : List Step} {st : List Kind} {s b n c r : List ℕ} → Follows Map f false s b
    → Names b n c → (v : FoundValue es (Map ∷ st) c r) → FoundMembers false v.left st v.at.end r
    → FoundMembers f (key n ∷ es) st s r
add_member f {n = n} p q v m =
    record {
      found = member n v.found m.found;
      left = m.left;
      is = joined (key n) (events v.found) (member_events m.found) m.left v.is m.is;
      at = member_at v.found m.found f m.left p q v.at m.at;
    }

leaf_found : (t : Tree) (e : Step) {es : List Step} {st : List Kind} {s b r : List ℕ} → e ∷ es ≡ events t ++ es
    → Starts s e b → ValueAt t e b b → Runs after es st b r → FoundValue (e ∷ es) st s r
leaf_found t e {es = es} i k v h = record { found = t; left = es; is = i; at = leaf_at e k v h }

mutual
  find_value : (n : ℕ) (es : List Step) (st : List Kind) (s r : List ℕ) → length es ≤ n → Runs due es st s r → FoundValue es st s r
  find_value n [] st s r l h = absurd h
  find_value n (step.null ∷ es) st s r l h = leaf_found null step.null refl h.1 (refl, refl) h.2
  find_value n (boolean x ∷ es) st s r l h = leaf_found (truth x) (boolean x) refl h.1 (refl, refl) h.2
  find_value n (string x ∷ es) st s r l h = leaf_found (str x) (string x) refl h.1 (refl, refl) h.2
  find_value n (negative z ∷ es) st s r l h = leaf_found (neg z) (negative z) refl h.1 (refl, refl) h.2
  find_value n (nonnegative m ∷ es) st s r l h = leaf_found (nonneg m) (nonnegative m) refl h.1 (refl, refl) h.2
  find_value n (float x ∷ es) st s r l h = leaf_found (num x) (float x) refl h.1 (refl, refl) h.2
  find_value (suc n) (seq ∷ es) st s r l h =
      let f = find_elements n true es st h.0 r (omega arith) h.2 in
      record {
        found = list f.found;
        left = f.left;
        is = ap (λ z. seq ∷ z) (f.is ∙ sym (append_assoc (child_events f.found) (finish ∷ []) f.left));
        at = list_at h.1 f.at;
      }
  find_value (suc n) (map ∷ es) st s r l h =
      let f = find_members n true es st h.0 r (omega arith) h.2 in
      record {
        found = members f.found;
        left = f.left;
        is = ap (λ z. map ∷ z) (f.is ∙ sym (append_assoc (member_events f.found) (finish ∷ []) f.left));
        at = object_at h.1 f.at;
      }
  find_value zero (seq ∷ es) st s r l h = absurd (omega arith)
  find_value zero (map ∷ es) st s r l h = absurd (omega arith)
  find_value n (element ∷ es) st s r l h = absurd (h.1.0.is_part)
  find_value n (key k ∷ es) st s r l h = absurd (h.1.0.is_part)
  find_value n (finish ∷ es) st s r l h = absurd (h.1.0.is_part)

  find_elements : (n : ℕ) (f : Bool) (es : List Step) (st : List Kind) (s r : List ℕ) → length es ≤ n
      → Runs (first_or_after f) es (Seq ∷ st) s r → FoundElements f es st s r
  find_elements n true (finish ∷ es) st s r l h =
      record { found = no_trees; left = es; is = refl; at = h }
  find_elements n false (finish ∷ es) st s r l h =
      record { found = no_trees; left = es; is = refl; at = h }
  find_elements (suc n) true (element ∷ es) st s r l h =
      let v = find_value n es (Seq ∷ st) h.0 r (omega arith) h.2 in
      add_element true h.1 v (find_elements n false v.left st v.at.end r (shorter n es _ h.0 r v (omega arith)) v.at.is_rest)
  find_elements (suc n) false (element ∷ es) st s r l h =
      let v = find_value n es (Seq ∷ st) h.0 r (omega arith) h.2 in
      add_element false h.1 v (find_elements n false v.left st v.at.end r (shorter n es _ h.0 r v (omega arith)) v.at.is_rest)
  find_elements zero true (element ∷ es) st s r l h = absurd (omega arith)
  find_elements zero false (element ∷ es) st s r l h = absurd (omega arith)
  find_elements n _ _ st s r l h = absurd h

  find_members : (n : ℕ) (f : Bool) (es : List Step) (st : List Kind) (s r : List ℕ) → length es ≤ n
      → Runs (first_or_after f) es (Map ∷ st) s r → FoundMembers f es st s r
  find_members n true (finish ∷ es) st s r l h =
      record { found = no_members; left = es; is = refl; at = h }
  find_members n false (finish ∷ es) st s r l h =
      record { found = no_members; left = es; is = refl; at = h }
  find_members (suc n) true (key k ∷ es) st s r l h =
      let v = find_value n es (Map ∷ st) h.1 r (omega arith) h.4 in
      add_member true h.2 h.3 v
      (find_members n false v.left st v.at.end r (shorter n es _ h.1 r v (omega arith)) v.at.is_rest)
  find_members (suc n) false (key k ∷ es) st s r l h =
      let v = find_value n es (Map ∷ st) h.1 r (omega arith) h.4 in
      add_member false h.2 h.3 v
      (find_members n false v.left st v.at.end r (shorter n es _ h.1 r v (omega arith)) v.at.is_rest)
  find_members zero true (key k ∷ es) st s r l h = absurd (omega arith)
  find_members zero false (key k ∷ es) st s r l h = absurd (omega arith)
  find_members n _ _ st s r l h = absurd h

-- where the first event was taken, those behind it make a tree
pub record Whole (e : Step) (later : List Step) (s r : List ℕ) : Type 0 where
  pub tree : Tree
  pub is : e ∷ later ≡ events tree
  pub is_value : ValueAt tree e s r

leaf_whole : (t : Tree) (e : Step) {es : List Step} {s r : List ℕ} → events t ≡ e ∷ []
    → ((z : List ℕ) → z ≡ s → ValueAt t e s z) → Runs after es [] s r → Whole e es s r
leaf_whole t e {es = es} {s = s} {r = r} i v h =
    let n = no_events_left es s r h in record { tree = t; is = ap (λ z. e ∷ z) n.0 ∙ sym i; is_value = v r n.1 }

list_whole : (es : List Step) (s r : List ℕ) → Runs first es (Seq ∷ []) s r → Whole seq es s r
list_whole es s r h =
    let f = find_elements (length es) true es [] s r (omega arith) h in
    let n = no_events_left f.left f.at.0 r f.at.2 in
    record {
      tree = list f.found;
      is = ap (λ z. seq ∷ z) (f.is ∙ ap (λ z. child_events f.found ++ finish ∷ z) n.0);
      is_value = (refl, subst (λ z. ElementsAt f.found true s z) (sym n.1) f.at.1);
    }

object_whole : (es : List Step) (s r : List ℕ) → Runs first es (Map ∷ []) s r → Whole map es s r
object_whole es s r h =
    let f = find_members (length es) true es [] s r (omega arith) h in
    let n = no_events_left f.left f.at.0 r f.at.2 in
    record {
      tree = members f.found;
      is =
          ap (λ z. map ∷ z) (f.is ∙ ap (λ z. member_events f.found ++ finish ∷ z) n.0);
      is_value =
          (refl, subst (λ z. MembersAt f.found true s z) (sym n.1) f.at.1);
    }

-- x is the first token of a value. If the text from s to r spells the events es, which close what x opened, the event
-- of x and es are the events of a tree, which x and that text spell.
pub whole_at : (x : lexed.Event) (scratch : List ℕ) (es : List Step) (s r : List ℕ)
    → Runs (first_or_after (is_some (opened_kind (event_of_token x scratch)))) es
    (with_opened (opened_kind (event_of_token x scratch)) []) s r → Whole (event_of_token x scratch) es s r
whole_at variant.Null scratch es s r h = leaf_whole null step.null refl (λ z i. (refl, i)) h
whole_at (variant.Bool b) scratch es s r h = leaf_whole (truth b) (boolean b) refl (λ z i. (refl, i)) h
whole_at (variant.Negative n) scratch es s r h = leaf_whole (neg n) (negative n) refl (λ z i. (refl, i)) h
whole_at (variant.Nonnegative n) scratch es s r h = leaf_whole (nonneg n) (nonnegative n) refl (λ z i. (refl, i)) h
whole_at (variant.Number x) scratch es s r h = leaf_whole (num x.now) (float x.now) refl (λ z i. (refl, i)) h
whole_at (variant.Str t) scratch es s r h = leaf_whole (str _) (event_of_token (variant.Str t) scratch) refl (λ z i. (refl, i)) h
whole_at variant.SeqStart scratch es s r h = list_whole es s r h
whole_at variant.MapStart scratch es s r h = object_whole es s r h
