-- Some text spells the events that the engine hands on, and events that begin a value can be completed. By cases of
-- the event, each with a text, and by recursion over the open containers, which are closed one by one.
use Rattle.std.proofs.Common.{◌≡◌, ℕ, Bool, true, false, Some, is_some, List, [], ◌∷◌, ◌++◌, length, codes, refl}
use Rattle.std.proofs.Common.{sym, ap, subst, ◌∙◌, true≢false, arith, length-append}
use Rattle.std.specs.Prelude.{⊤}
use Rattle.miniserde_model.specs.Tree.{Tree}
use Rattle.miniserde_model.specs.InRange.{InRange}
use Rattle.miniserde_model.specs.Step.{Step, seq, element, map, key, finish, events}
use Rattle.miniserde_model.specs.Step as step
use Rattle.miniserde_model.specs.Lexing.{Starts, Names}
use Rattle.miniserde_model.specs.declared.kind.Kind.{Kind}
use Rattle.miniserde_model.specs.declared.kind.Kind.TheVariants.{Seq, Map}
use Rattle.miniserde_model.specs.private.Reading.{Moment, due, first, after}
use Rattle.miniserde_model.proofs.TreeEvents.{at_front}
use Rattle.miniserde_model.proofs.ReadBack.{spells_json, no_events_left}
use Rattle.miniserde_model.proofs.Accepted.{json_tree}
use Rattle.miniserde_text.specs.Lexer.{event_of_token}
use Rattle.miniserde_text.specs.declared.json.lex.Event as lexed
use Rattle.miniserde_text.specs.declared.json.lex.Event.TheVariants as variant
use Rattle.miniserde_text.specs.private.Stack.{with_opened, innermost, outer}
use Rattle.miniserde_text.specs.private.Moments.{opened_kind, first_or_after, MomentFits}
use Rattle.miniserde_text.proofs.Stacks.{split_top}
use Rattle.miniserde_text.proofs.FirstEvents.{starts_on}
use Rattle.miniserde_place.specs.private.EngineRuns.{Spellable}

-- ---- one event before others

with_finish : (k : Kind) (f : Bool) (st : List Kind) (es : List Step) → Spellable after es st
    → Spellable (first_or_after f) (finish ∷ es) (k ∷ st)
with_finish Seq true st es h = (93 ∷ h.0, at_front (93 ∷ []) h.0 _ refl h.1 refl)
with_finish Seq false st es h = (93 ∷ h.0, at_front (93 ∷ []) h.0 _ refl h.1 refl)
with_finish Map true st es h = (125 ∷ h.0, at_front (125 ∷ []) h.0 _ refl h.1 refl)
with_finish Map false st es h = (125 ∷ h.0, at_front (125 ∷ []) h.0 _ refl h.1 refl)

with_element : (f : Bool) (st : List Kind) (es : List Step) → Spellable due es (Seq ∷ st)
    → Spellable (first_or_after f) (element ∷ es) (Seq ∷ st)
with_element true st es h = h
with_element false st es h = (44 ∷ h.0, at_front (44 ∷ []) h.0 _ refl h.1 refl)

with_key : (f : Bool) (st : List Kind) {s r n : List ℕ} → Names s n r → (es : List Step)
    → Spellable due es (Map ∷ st) → Spellable (first_or_after f) (key n ∷ es) (Map ∷ st)
with_key true st p es h = (p.part ++ h.0, at_front p.part h.0 _ p.is_part h.1 refl)
with_key false st p es h =
    let named = at_front p.part h.0 _ p.is_part h.1 refl in
    (44 ∷ (p.part ++ h.0), at_front (44 ∷ []) (p.part ++ h.0) _ refl named refl)

-- ---- the same by the innermost container

-- if some text spells the events es after a container, some text spells its end and then es
pub close_spellable : (st st' : List Kind) {k : Kind} (f : Bool) → innermost st ≡ Some k → st' ≡ outer st
    → (es : List Step) → Spellable after es st' → Spellable (first_or_after f) (finish ∷ es) st
close_spellable st st' {k = k} f h q es p =
    subst (λ z. Spellable (first_or_after f) (finish ∷ es) z) (sym (split_top st k h))
    (with_finish k f (outer st) es (subst (λ z. Spellable after es z) q p))

-- if an array is innermost and some text spells es where a value is due, some text spells `element` and then es
pub element_spellable : (st : List Kind) {k : Kind} (f : Bool) → innermost st ≡ Some k → k ≡ Seq → (es : List Step)
    → Spellable due es st → Spellable (first_or_after f) (element ∷ es) st
element_spellable st f h e es =
    subst (λ z. Spellable due es z → Spellable (first_or_after f) (element ∷ es) z)
    (sym (split_top st Seq (h ∙ ap Some e))) (with_element f (outer st) es)

-- if an object is innermost and some text spells es where a value is due, some text spells the name n and then es
pub key_spellable : (st : List Kind) {s r n : List ℕ} {k : Kind} (f : Bool) → innermost st ≡ Some k → k ≡ Map
    → Names s n r → (es : List Step) → Spellable due es st → Spellable (first_or_after f) (key n ∷ es) st
key_spellable st {n = n} f h e p es =
    subst (λ z. Spellable due es z → Spellable (first_or_after f) (key n ∷ es) z)
    (sym (split_top st Map (h ∙ ap Some e))) (with_key f (outer st) p es)

-- if a text starts with e, and some text spells es behind e, some text spells e and then es
pub start_spellable : (st : List Kind) {s r : List ℕ} (e : Step) {f : Bool} {st' : List Kind} → Starts s e r
    → f ≡ is_some (opened_kind e) → st' ≡ with_opened (opened_kind e) st → (es : List Step)
    → Spellable (first_or_after f) es st' → Spellable due (e ∷ es) st
start_spellable st e {f = f} k p q es h =
    let i : Spellable (first_or_after (is_some (opened_kind e))) es (with_opened (opened_kind e) st) =
    subst (λ z. Spellable (first_or_after z) es (with_opened (opened_kind e) st)) p
    (subst (λ z. Spellable (first_or_after f) es z) q h) in
    let b = k.0.part in
    (b ++ i.0, starts_on e st (b ++ i.0) i.0 (record { space = []; part = b; text = refl; white = tt; is_part = k.0.is_part }) es i.1)

-- ---- every beginning can be completed

closers : (st : List Kind) → (rest : List Step) × Spellable after rest st
closers [] = ([], ([], tt))
closers (k ∷ st) = let r = closers st in (finish ∷ r.0, with_finish k false st r.0 r.1)

-- a value is due, or a container is open
abbrev pub Unfinished : Moment → List Kind → Type 0
Unfinished after [] = ⊥
Unfinished _ _ = ⊤

-- inside an open container, the moment before a child is unfinished
pub inside_unfinished : (f : Bool) (st : List Kind) (k : Kind) → innermost st ≡ Some k → Unfinished (first_or_after f) st
inside_unfinished f [] k h = absurd (true≢false (ap is_some (sym h)))
inside_unfinished true (c ∷ st) k h = tt
inside_unfinished false (c ∷ st) k h = tt

-- what is unfinished can be completed, and by no fewer than one event
pub more_to_come : (m : Moment) (st : List Kind) → MomentFits m st → Unfinished m st
    → (e : Step) × (rest : List Step) × Spellable m (e ∷ rest) st
more_to_come after [] l u = absurd u
more_to_come after (k ∷ st) l u = let r = closers st in (finish, r.0, with_finish k false st r.0 r.1)
more_to_come due st l u = let r = closers st in (step.null, r.0, (codes "null" ++ r.1.0, at_front (codes "null") r.1.0 _ refl r.1.1 refl))
more_to_come first [] l u = absurd l
more_to_come first (k ∷ st) l u = let r = closers st in (finish, r.0, with_finish k true st r.0 r.1)

-- ---- what some text spells is a tree's

-- a list with an event in it is not empty
pub more_behind : (es : List Step) (e : Step) (rest : List Step) → es ++ e ∷ rest ≡ [] → ⊥
more_behind es e rest h = omega (arith, ap length h, length-append es (e ∷ rest))

-- behind a leaf no event comes
leaf_ends : {A : Type 0} (es : List Step) → (es ≡ [] → ⊥) → Spellable after es [] → A
leaf_ends es n h = absurd (n (no_events_left es h.0 h.1).0)

spelled_events : (es : List Step) → Spellable due es [] → (u : Tree) × (es ≡ events u) × InRange u
spelled_events es h = let t = spells_json es h.0 h.1 in (t.0, t.1, json_tree h.0 t.0 t.2)

-- the events behind a value's first token, where there are some
pub tree_spelled : (x : lexed.Event) (scratch : List ℕ) (es : List Step) → (es ≡ [] → ⊥)
    → Spellable (first_or_after (is_some (opened_kind (event_of_token x scratch)))) es
    (with_opened (opened_kind (event_of_token x scratch)) [])
    → (t : Tree) × (event_of_token x scratch ∷ es ≡ events t) × InRange t
tree_spelled variant.Null scratch es n h = leaf_ends es n h
tree_spelled (variant.Bool b) scratch es n h = leaf_ends es n h
tree_spelled (variant.Negative z) scratch es n h = leaf_ends es n h
tree_spelled (variant.Nonnegative m) scratch es n h = leaf_ends es n h
tree_spelled (variant.Number x) scratch es n h = leaf_ends es n h
tree_spelled (variant.Str t) scratch es n h = leaf_ends es n h
tree_spelled variant.SeqStart scratch es n h = spelled_events (seq ∷ es) (91 ∷ h.0, at_front (91 ∷ []) h.0 _ refl h.1 refl)
tree_spelled variant.MapStart scratch es n h = spelled_events (map ∷ es) (123 ∷ h.0, at_front (123 ∷ []) h.0 _ refl h.1 refl)
