-- `skip` succeeds only behind a whole value, and returns `Invalid` only if no value follows. Each exit of its loop is
-- a lemma over plain variables, from the invariant that the events so far lead to the present stack and text
-- (`Reaches`).
use Rattle.std.proofs.Common.{◌≡◌, ℕ, Bool, true, false, None, is_some, List, [], ◌∷◌, append-nil, refl, sym, ap, subst, true≢false}
use Rattle.miniserde_model.specs.Tree.{Tree}
use Rattle.miniserde_model.specs.Step.{Step}
use Rattle.std.specs.Prelude.{Result, Ok, Err, IfOk}
use Rattle.miniserde_model.specs.Lexing.{Starts}
use Rattle.miniserde_model.specs.declared.kind.Kind.{Kind}
use Rattle.miniserde_model.specs.private.Reading.{due}
use Rattle.miniserde_text.specs.Lexer.{event_of_token}
use Rattle.miniserde_model.specs.declared.error.Error.{Error}
use Rattle.miniserde_text.specs.declared.json.lex.Event as lexed
use Rattle.miniserde_read.specs.Rest.{ValueAt}
use Rattle.miniserde_text.specs.private.Stack.{with_opened, innermost}
use Rattle.miniserde_text.specs.private.Moments.{opened_kind, first_or_after}
use Rattle.miniserde_text.specs.private.EventRuns.{Runs, text_at, behind_first, Reaches, NeverRuns}
use Rattle.miniserde_text.proofs.Consumes.{Consumes-none, live_opened, value_passed}
use Rattle.miniserde_read.proofs.Values.{value_later, whole_at}

-- If `enter` succeeded on the first token of a due value, the token leads to the text r behind it: to the moment
-- `first` in the container that it opens, or, if it opens none, to the moment `after` in the containers st.
pub entered : (result : Result Bool Error) (st : List Kind) {s r : List ℕ} (e : Step) (st' : List Kind)
    → Starts s e r → IfOk result (λ b. b ≡ is_some (opened_kind e))
    → IfOk result (λ _. st' ≡ with_opened (opened_kind e) st)
    → IfOk result (λ b. Reaches (text_at due st s) (text_at (first_or_after b) st' r))
entered (Ok b) st e st' p q h = record { done = e ∷ []; passed = value_passed e b p q h }
entered (Err x) st e st' p q h = tt

-- before the first turn
pub reaches_init : (e : Step) {f : Bool} {st : List Kind} {s : List ℕ} → f ≡ is_some (opened_kind e)
    → st ≡ with_opened (opened_kind e) [] → Reaches (behind_first e s) (text_at (first_or_after f) st s)
reaches_init e {st = st} {s = s} p q =
    subst (λ z. Reaches (behind_first e s) (text_at (first_or_after z) st s)) (sym p)
    (subst (λ z. Reaches (behind_first e s) (text_at (first_or_after (is_some (opened_kind e))) z s)) (sym q)
    (record { done = []; passed = Consumes-none (live_opened e) }))

-- where no container is left open
pub skip_ok : (x : lexed.Event) (scratch : List ℕ) {s s' : List ℕ} (f : Bool) (st' : List Kind) → innermost st' ≡ None
    → Reaches (behind_first (event_of_token x scratch) s) (text_at (first_or_after f) st' s')
    → (t : Tree) × ValueAt t (event_of_token x scratch) s s'
skip_ok x scratch true [] h p = absurd p.passed.live
skip_ok x scratch {s = s} {s' = s'} false [] h p =
    let e = event_of_token x scratch in
    let runs : Runs (first_or_after (is_some (opened_kind e))) p.done (with_opened (opened_kind e) []) s s' =
    subst (λ z. Runs (first_or_after (is_some (opened_kind e))) z (with_opened (opened_kind e) []) s s')
    (append-nil p.done) (p.passed.on [] s' refl) in
    let w = whole_at x scratch p.done s s' runs in
    (w.tree, w.is_value)
skip_ok x scratch f (c ∷ st) h p = absurd (true≢false (ap is_some h))

-- where the text cannot go on
pub skip_none : (e : Step) (s : List ℕ) → NeverRuns (behind_first e s) → (t : Tree) (r : List ℕ) → ValueAt t e s r → ⊥
skip_none e s n t r v = let l = value_later t e s r v in n l.later r l.runs
