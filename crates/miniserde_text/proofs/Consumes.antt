-- A token taken from the text consumes its event: every list of events on which the text goes on begins with that
-- event. One lemma for each event (`passed_start`, `passed_close`, `passed_element`, `passed_key`), by cases on the
-- container and on whether it was just opened; `Consumes-append` composes them.
use Rattle.std.proofs.Common.{◌≡◌, ℕ, ◌⊎◌, inl, inr, Bool, true, false, Some, is_some, List, [], ◌∷◌, ◌++◌, refl, sym, ap}
use Rattle.std.proofs.Common.{subst, ◌∙◌, append_assoc}
use Rattle.miniserde_model.specs.Step.{Step, element, key, finish}
use Rattle.miniserde_model.specs.Lexing.{Starts, Names, Follows}
use Rattle.miniserde_model.specs.declared.kind.Kind.{Kind}
use Rattle.miniserde_model.specs.declared.kind.Kind.TheVariants.{Seq, Map}
use Rattle.miniserde_model.specs.private.Reading.{due, after}
use Rattle.miniserde_text.specs.private.Stack.{with_opened, innermost, outer}
use Rattle.miniserde_text.specs.private.Moments.{opened_kind, first_or_after, MomentFits}
use Rattle.miniserde_text.proofs.Stacks.{split_top}
use Rattle.miniserde_text.specs.private.EventRuns.{Runs, TextAt, text_at, Consumes, Reaches, NeverRuns}
use Rattle.miniserde_text.proofs.FirstEvents.{live_at, same_start, same_name}
use Rattle.miniserde_text.proofs.NextChild.{close_same, next_same, close_no_next}

-- ---- a value's first event

start_back : (st : List Kind) {s : List ℕ} (e : Step) {b : List ℕ} → Starts s e b → (es : List Step) (r : List ℕ)
    → Runs due es st s r → (rest : List Step) × (es ≡ e ∷ rest) × Runs (first_or_after (is_some (opened_kind e))) rest
    (with_opened (opened_kind e) st) b r
start_back st e p [] r h = absurd h
start_back st {s = s} e {b = b} p (d ∷ es) r h =
    let same = same_start s d e h.0 b h.1 p in (
      es,
      ap (λ z. z ∷ es) same.0,
      subst (λ z. Runs (first_or_after (is_some (opened_kind e))) es (with_opened (opened_kind e) st) z r) same.1
          (subst (λ z. Runs (first_or_after (is_some (opened_kind z))) es (with_opened (opened_kind z) st) h.0 r)
          same.0 h.2),
    )

pub passed_start : (st : List Kind) {s : List ℕ} (e : Step) {b : List ℕ} → Starts s e b → Consumes (text_at due st s) (e ∷ [])
    (text_at (first_or_after (is_some (opened_kind e))) (with_opened (opened_kind e) st) b)
passed_start st e {b = b} p = record { on = λ es r h. (b, p, h); back = start_back st e p; live = live_at (opened_kind e) st }

-- ---- the closing bracket

close_on : (k : Kind) (f : Bool) (st : List Kind) {s b : List ℕ} → Follows k f true s b
    → (es : List Step) (r : List ℕ) → Runs after es st b r → Runs (first_or_after f) (finish ∷ es) (k ∷ st) s r
close_on k true st {b = b} p es r h = (b, p, h)
close_on k false st {b = b} p es r h = (b, p, h)

close_back : (k : Kind) (f : Bool) {st : List Kind} {s b : List ℕ} → Follows k f true s b
    → (es : List Step) (r : List ℕ) → Runs (first_or_after f) es (k ∷ st) s r → (rest : List Step)
    × (es ≡ finish ∷ rest) × Runs after rest st b r
close_back k true {st = st} {s = s} {b = b} p (finish ∷ es) r h =
    (es, refl, subst (λ z. Runs after es st z r) (close_same k true s h.0 b h.1 p) h.2)
close_back k false {st = st} {s = s} {b = b} p (finish ∷ es) r h =
    (es, refl, subst (λ z. Runs after es st z r) (close_same k false s h.0 b h.1 p) h.2)
close_back Seq true {s = s} {b = b} p (element ∷ es) r h = absurd (close_no_next Seq true s b h.0 p h.1)
close_back Seq false {s = s} {b = b} p (element ∷ es) r h = absurd (close_no_next Seq false s b h.0 p h.1)
close_back Map true {s = s} {b = b} p (key n ∷ es) r h = absurd (close_no_next Map true s b h.0 p h.2)
close_back Map false {s = s} {b = b} p (key n ∷ es) r h = absurd (close_no_next Map false s b h.0 p h.2)
close_back _ _ p _ r h = absurd h

pub passed_close : (k : Kind) (f : Bool) {st : List Kind} {s b : List ℕ} → Follows k f true s b
    → Consumes (text_at (first_or_after f) (k ∷ st) s) (finish ∷ []) (text_at after st b)
passed_close k f {st = st} p = record { on = close_on k f st p; back = close_back k f p; live = tt }

-- ---- an element

element_back : (f : Bool) {st : List Kind} (s : List ℕ) {b : List ℕ} → Follows Seq f false s b → (es : List Step) (r : List ℕ)
    → Runs (first_or_after f) es (Seq ∷ st) s r → (rest : List Step) × (es ≡ element ∷ rest)
    × Runs due rest (Seq ∷ st) b r
element_back true {st = st} s {b = b} p (element ∷ es) r h =
    (es, refl, subst (λ z. Runs due es (Seq ∷ st) z r) (next_same Seq true s h.0 b h.1 p) h.2)
element_back false {st = st} s {b = b} p (element ∷ es) r h =
    (es, refl, subst (λ z. Runs due es (Seq ∷ st) z r) (next_same Seq false s h.0 b h.1 p) h.2)
element_back true s {b = b} p (finish ∷ es) r h = absurd (close_no_next Seq true s h.0 b h.1 p)
element_back false s {b = b} p (finish ∷ es) r h = absurd (close_no_next Seq false s h.0 b h.1 p)
element_back _ s p _ r h = absurd h

pub passed_element : (f : Bool) {st : List Kind} {s b : List ℕ} → Follows Seq f false s b
    → Consumes (text_at (first_or_after f) (Seq ∷ st) s) (element ∷ []) (text_at due (Seq ∷ st) b)
passed_element true {s = s} {b = b} p = record { on = λ es r h. (b, p, h); back = element_back true s p; live = tt }
passed_element false {s = s} {b = b} p = record { on = λ es r h. (b, p, h); back = element_back false s p; live = tt }

-- ---- a member

named : {b b' n m c d : List ℕ} → b' ≡ b → Names b n c → Names b' m d → (m ≡ n) × (d ≡ c)
named {b = b} {n = n} {m = m} {c = c} {d = d} e p q = same_name b m n d c (subst (λ z. Names z m d) e q) p

key_back : (f : Bool) {st : List Kind} (s : List ℕ) {b n c : List ℕ} → Follows Map f false s b → Names b n c
    → (es : List Step) (r : List ℕ) → Runs (first_or_after f) es (Map ∷ st) s r → (rest : List Step)
    × (es ≡ key n ∷ rest) × Runs due rest (Map ∷ st) c r
key_back true {st = st} s {b = b} p q (key m ∷ es) r h =
    let same = named (next_same Map true s h.0 b h.2 p) q h.3 in
    (es, ap (λ z. key z ∷ es) same.0, subst (λ z. Runs due es (Map ∷ st) z r) same.1 h.4)
key_back false {st = st} s {b = b} p q (key m ∷ es) r h =
    let same = named (next_same Map false s h.0 b h.2 p) q h.3 in
    (es, ap (λ z. key z ∷ es) same.0, subst (λ z. Runs due es (Map ∷ st) z r) same.1 h.4)
key_back true s {b = b} p q (finish ∷ es) r h = absurd (close_no_next Map true s h.0 b h.1 p)
key_back false s {b = b} p q (finish ∷ es) r h = absurd (close_no_next Map false s h.0 b h.1 p)
key_back _ s p q _ r h = absurd h

pub passed_key : (f : Bool) {st : List Kind} {s b n c : List ℕ} → Follows Map f false s b → Names b n c
    → Consumes (text_at (first_or_after f) (Map ∷ st) s) (key n ∷ []) (text_at due (Map ∷ st) c)
passed_key true {s = s} {b = b} {c = c} p q =
    record { on = λ es r h. (b, c, p, q, h); back = key_back true s p q; live = tt }
passed_key false {s = s} {b = b} {c = c} p q =
    record { on = λ es r h. (b, c, p, q, h); back = key_back false s p q; live = tt }

-- ---- by the innermost container

-- if the closing bracket of the innermost container is next, the text consumes `finish`
pub close_passed : {st st' : List Kind} {s r : List ℕ} (k : Kind) (f : Bool) → innermost st ≡ Some k → Follows k f true s r
    → st' ≡ outer st → Consumes (text_at (first_or_after f) st s) (finish ∷ []) (text_at after st' r)
close_passed {st = st} {s = s} {r = r} k f h p q =
    subst (λ z. Consumes (text_at (first_or_after f) st s) (finish ∷ []) (text_at after z r)) (sym q)
    (subst (λ z. Consumes (text_at (first_or_after f) z s) (finish ∷ []) (text_at after (outer st) r)) (sym (split_top st k h))
    (passed_close k f p))

-- if the innermost container is an array and an element is next, the text consumes `element`
pub element_passed : {st : List Kind} {s r : List ℕ} (k : Kind) (f : Bool) → innermost st ≡ Some k → k ≡ Seq
    → Follows k f false s r → Consumes (text_at (first_or_after f) st s) (element ∷ []) (text_at due st r)
element_passed {st = st} {s = s} {r = r} k f h e p =
    subst (λ z. Consumes (text_at (first_or_after f) z s) (element ∷ []) (text_at due z r)) (sym (split_top st Seq (h ∙ ap Some e)))
    (passed_element f (subst (λ z. Follows z f false s r) e p))

-- if the innermost container is an object and a member of the name n is next, the text consumes `key n`
pub key_passed : {st : List Kind} {s r n x : List ℕ} (k : Kind) (f : Bool) → innermost st ≡ Some k → k ≡ Map
    → Follows k f false s r → Names r n x → Consumes (text_at (first_or_after f) st s) (key n ∷ []) (text_at due st x)
key_passed {st = st} {s = s} {r = r} {n = n} {x = x} k f h e p q =
    subst (λ z. Consumes (text_at (first_or_after f) z s) (key n ∷ []) (text_at due z x)) (sym (split_top st Map (h ∙ ap Some e)))
    (passed_key f (subst (λ z. Follows z f false s r) e p) q)

runs_follow : (k : Kind) (f : Bool) (es : List Step) (st : List Kind) (s r : List ℕ)
    → Runs (first_or_after f) es (k ∷ st) s r → (a : Bool) × (b : List ℕ) × Follows k f a s b
runs_follow k true (finish ∷ es) st s r h = (true, h.0, h.1)
runs_follow k false (finish ∷ es) st s r h = (true, h.0, h.1)
runs_follow Seq true (element ∷ es) st s r h = (false, h.0, h.1)
runs_follow Seq false (element ∷ es) st s r h = (false, h.0, h.1)
runs_follow Map true (key n ∷ es) st s r h = (false, h.0, h.2)
runs_follow Map false (key n ∷ es) st s r h = (false, h.0, h.2)
runs_follow _ _ _ st s r h = absurd h

-- if events run on inside an object, its closing bracket or a member with its name is next
runs_name : (f : Bool) (es : List Step) (st : List Kind) (s r : List ℕ) → Runs (first_or_after f) es (Map ∷ st) s r
    → ((b : List ℕ) × Follows Map f true s b) ⊎ ((b n c : List ℕ) × Follows Map f false s b × Names b n c)
runs_name true (finish ∷ es) st s r h = inl (h.0, h.1)
runs_name false (finish ∷ es) st s r h = inl (h.0, h.1)
runs_name true (key n ∷ es) st s r h = inr (h.0, n, h.1, h.2, h.3)
runs_name false (key n ∷ es) st s r h = inr (h.0, n, h.1, h.2, h.3)
runs_name _ _ st s r h = absurd h

runs_start : (es : List Step) (st : List Kind) (s r : List ℕ) → Runs due es st s r → (e : Step) × (b : List ℕ) × Starts s e b
runs_start [] st s r h = absurd h
runs_start (e ∷ es) st s r h = (e, h.0, h.1)

-- ---- where a token is missing

-- if neither a closing bracket nor a child is next in the innermost container, no prefix of the text closes all
pub after_ends : (st : List Kind) {s : List ℕ} (k : Kind) (f : Bool) → innermost st ≡ Some k
    → ((a : Bool) (r : List ℕ) → Follows k f a s r → ⊥) → NeverRuns (text_at (first_or_after f) st s)
after_ends st {s = s} k f h n es r g =
    let t = runs_follow k f es (outer st) s r (subst (λ z. Runs (first_or_after f) es z s r) (split_top st k h) g) in
    n t.0 t.1 t.2

-- if a member without a name is next in the innermost object, no prefix of the text closes all containers
pub name_ends : (st : List Kind) (s : List ℕ) {b : List ℕ} (k : Kind) (f : Bool) → innermost st ≡ Some k → k ≡ Map
    → Follows k f false s b → ((n x : List ℕ) → Names b n x → ⊥) → NeverRuns (text_at (first_or_after f) st s)
name_ends st s {b = b} k f h e p n es r g =
    let q = subst (λ z. Follows z f false s b) e p in
    elim (runs_name f es (outer st) s r (subst (λ z. Runs (first_or_after f) es z s r) (split_top st Map (h ∙ ap Some e)) g)) [
      | inl t ↦ close_no_next Map f s t.0 b t.1 q
      | inr t ↦ n t.1 t.2 (subst (λ z. Names z t.1 t.2) (next_same Map f s t.0 b t.3 q) t.4)
    ]

-- if a value is due and the text starts with none, no prefix of the text closes all containers
pub start_ends : (st : List Kind) {s : List ℕ} → ((e : Step) (r : List ℕ) → Starts s e r → ⊥) → NeverRuns (text_at due st s)
start_ends st {s = s} n es r h = let f = runs_start es st s r h in n f.0 f.1 f.2

-- ---- several

-- if the text consumes es and then fs, it consumes es ++ fs
pub Consumes-append : {old mid new : TextAt} {es fs : List Step} → Consumes old es mid → Consumes mid fs new
    → Consumes old (es ++ fs) new
Consumes-append {old = old} {es = es} {fs = fs} p q = record {
  on = λ rest r h. subst (λ z. Runs old.moment z old.stack old.rest r) (sym (append_assoc es fs rest))
      (p.on (fs ++ rest) r (q.on rest r h));
  back = λ gs r h. let a = p.back gs r h in let b = q.back a.0 r a.2 in
      (b.0, a.1 ∙ ap (λ z. es ++ z) b.1 ∙ sym (append_assoc es fs b.0), b.2);
  live = q.live;
}

-- from any moment that fits the open containers, a text consumes the empty list of events, and stays where it is
pub Consumes-none : {now : TextAt} → MomentFits now.moment now.stack → Consumes now [] now
Consumes-none l = record { on = λ es r h. h; back = λ es r h. (es, refl, h); live = l }

-- a text that consumes one event reaches the moment after it
pub Reaches-one : {old new : TextAt} {e : Step} → Consumes old (e ∷ []) new → Reaches old new
Reaches-one {e = e} p = record { done = e ∷ []; passed = p }

-- if a text reaches a moment, and from there another, it reaches the other
pub Reaches-append : {old mid new : TextAt} → Reaches old mid → Reaches mid new → Reaches old new
Reaches-append p q = record { done = p.done ++ q.done; passed = Consumes-append p.passed q.passed }

-- if a text reaches a moment from which it never runs on, it never runs on from where it was
pub ends_behind : {old new : TextAt} → Reaches old new → NeverRuns new → NeverRuns old
ends_behind p n es r h = let a = p.passed.back es r h in n a.0 r a.2

-- where e opens the only container
pub live_opened : (e : Step) → MomentFits (first_or_after (is_some (opened_kind e))) (with_opened (opened_kind e) [])
live_opened e = live_at (opened_kind e) []

-- the first event of a value
pub value_passed : {st st' : List Kind} {s r : List ℕ} (e : Step) (f : Bool) → Starts s e r → f ≡ is_some (opened_kind e)
    → st' ≡ with_opened (opened_kind e) st → Consumes (text_at due st s) (e ∷ []) (text_at (first_or_after f) st' r)
value_passed {st = st} {st' = st'} {s = s} {r = r} e f p q h =
    subst (λ z. Consumes (text_at due st s) (e ∷ []) (text_at (first_or_after z) st' r)) (sym q)
    (subst (λ z. Consumes (text_at due st s) (e ∷ []) (text_at (first_or_after (is_some (opened_kind e))) z r)) (sym h)
    (passed_start st e p))
