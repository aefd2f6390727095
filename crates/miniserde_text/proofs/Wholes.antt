-- A whole text is a run whose rest is whitespace: a text that spells events runs on as them (`spells_run`), and back
-- (`run_spells`). By recursion over the events.
use Rattle.std.proofs.Common.{◌≡◌, ℕ, ◌<◌, true, false, is_some, List, [], ◌∷◌, ◌++◌, refl, sym, ap, subst, ◌∙◌, append_assoc, arith}
use Rattle.miniserde_model.specs.Tree.{Tree}
use Rattle.miniserde_model.specs.Whitespace.{IsWhitespace}
use Rattle.miniserde_model.specs.Value.{IsJson}
use Rattle.miniserde_model.specs.Step.{Step, boolean, string, negative, nonnegative, float, seq, element, map, key, finish, events}
use Rattle.miniserde_model.specs.Step as step
use Rattle.miniserde_model.specs.Bytes.{StopsAt, is_number_byte}
use Rattle.miniserde_model.specs.Lexing.{Stands, Starts, Begins, Follows}
use Rattle.miniserde_model.specs.declared.kind.Kind.{Kind}
use Rattle.miniserde_model.specs.declared.kind.Kind.TheVariants.{Seq, Map}
use Rattle.miniserde_model.specs.private.Reading.{Moment, due, first, after, Spells}
use Rattle.miniserde_model.proofs.Prefixes.{space_ends_number}
use Rattle.miniserde_model.proofs.TreeEvents.{due_space, front_byte_stops, space_append, json_spells}
use Rattle.miniserde_model.proofs.ReadBack.{spells_json}
use Rattle.miniserde_model.proofs.Unique.{leading_kind, Head, known_no_space}
use Rattle.miniserde_text.specs.private.Stack.{with_opened}
use Rattle.miniserde_text.specs.private.Moments.{opened_kind, first_or_after}
use Rattle.miniserde_text.specs.private.EventRuns.{Runs}
use Rattle.miniserde_text.proofs.FirstEvents.{class, class_below, piece_head, name_head, stands, standing, starts_on}
use Rattle.miniserde_text.proofs.NextChild.{bare}

-- ---- from a run

after_bare : {P : List ℕ → Type 0} (s b c : List ℕ) → Stands (λ z. z ≡ []) s b → Stands P b c → Stands P s c
after_bare s b c p q = record {
  space = p.space ++ q.space;
  part = q.part;
  text = bare s b p ∙ ap (λ z. p.space ++ z) q.text ∙ sym (append_assoc p.space q.space (q.part ++ c));
  white = space_append p.space q.space p.white q.white;
  is_part = q.is_part;
}

-- if the text from s to r spells the events (`Runs`) and r is whitespace, the whole text s spells them (`Spells`)
pub run_spells : (m : Moment) (es : List Step) (st : List Kind) (s r : List ℕ) → Runs m es st s r → IsWhitespace r → Spells m es st s
run_spells due (e ∷ es) st s r h w =
    starts_on e st s h.0 h.1.0 es
    (run_spells (first_or_after (is_some (opened_kind e))) es (with_opened (opened_kind e) st) h.0 r h.2 w)
run_spells first (element ∷ es) (Seq ∷ st) s r h w =
    subst (Spells due es (Seq ∷ st)) (sym (bare s h.0 h.1.0))
    (due_space es (Seq ∷ st) h.1.0.space h.0 h.1.0.white (run_spells due es (Seq ∷ st) h.0 r h.2 w))
run_spells first (key n ∷ es) (Map ∷ st) s r h w =
    standing s h.1 (after_bare s h.0 h.1 h.2.0 h.3) (run_spells due es (Map ∷ st) h.1 r h.4 w)
run_spells first (finish ∷ es) (Seq ∷ st) s r h w = standing s h.0 h.1 (run_spells after es st h.0 r h.2 w)
run_spells first (finish ∷ es) (Map ∷ st) s r h w = standing s h.0 h.1 (run_spells after es st h.0 r h.2 w)
run_spells after [] [] s r h w = subst IsWhitespace h w
run_spells after (element ∷ es) (Seq ∷ st) s r h w = standing s h.0 h.1 (run_spells due es (Seq ∷ st) h.0 r h.2 w)
run_spells after (key n ∷ es) (Map ∷ st) s r h w =
    standing s h.0 h.2 (standing h.0 h.1 h.3 (run_spells due es (Map ∷ st) h.1 r h.4 w))
run_spells after (finish ∷ es) (Seq ∷ st) s r h w = standing s h.0 h.1 (run_spells after es st h.0 r h.2 w)
run_spells after (finish ∷ es) (Map ∷ st) s r h w = standing s h.0 h.1 (run_spells after es st h.0 r h.2 w)
run_spells _ _ _ s r h w = absurd h

-- ---- to a run

all_space_stops : (b : List ℕ) → IsWhitespace b → StopsAt is_number_byte b
all_space_stops [] h = tt
all_space_stops (c ∷ b) h = space_ends_number (c ∷ b) [] h tt

-- no number goes on behind a value
after_stops : (es : List Step) (st : List Kind) (b : List ℕ) → Spells after es st b → StopsAt is_number_byte b
after_stops [] [] b p = all_space_stops b p
after_stops (element ∷ es) (Seq ∷ st) b p = front_byte_stops 44 _ b refl p
after_stops (finish ∷ es) (Seq ∷ st) b p = front_byte_stops 93 _ b refl p
after_stops (key s ∷ es) (Map ∷ st) b p = front_byte_stops 44 _ b refl p
after_stops (finish ∷ es) (Map ∷ st) b p = front_byte_stops 125 _ b refl p
after_stops _ _ b p = absurd p

-- from the moment on, the text s runs on as the events, up to whitespace
abbrev pub RunsOut : Moment → List Step → List Kind → List ℕ → Type 0
RunsOut m es st s = (r : List ℕ) × Runs m es st s r × IsWhitespace r

begins_so : (b r : List ℕ) (k : ℕ) → Head b k → k < 7 → Begins (b ++ r)
begins_so b r k h l =
    let small : leading_kind h.byte < 7 = omega (arith, h.of_kind, l) in
    record {
      byte = h.byte;
      more = h.rest ++ r;
      text = ap (λ z. z ++ r) h.is;
      no_space = known_no_space h.byte small;
      no_list_end = λ e. omega (arith, ap leading_kind e, small);
      no_members_end = λ e. omega (arith, ap leading_kind e, small);
    }

-- the whitespace before a part, and the part without it
parted : {P : List ℕ → Type 0} (s r : List ℕ) (p : Stands P s r) → Stands (λ b. b ≡ []) s (p.part ++ r) × Stands P (p.part ++ r) r
parted s r p = (
  record { space = p.space; part = []; text = p.text; white = p.white; is_part = refl },
  record { space = []; part = p.part; text = refl; white = tt; is_part = p.is_part },
)

-- behind an opening bracket, the text from the first byte of a value on
bared : (es : List Step) (st : List Kind) (s r : List ℕ) → Runs due es st s r → (b : List ℕ) × Follows Seq true false s b
    × Runs due es st b r
bared [] st s r h = absurd h
bared (e ∷ es) st s r h =
    let p = h.1.0 in
    let q = parted s h.0 p in
    let begins = begins_so p.part h.0 (class e) (piece_head e p.part p.is_part) (class_below e p.part p.is_part) in
    (p.part ++ h.0, (q.0, begins), (h.0, (q.1, h.1.1), h.2))

started : (e : Step) (es : List Step) (st : List Kind) (s b : List ℕ) → Starts s e b
    → RunsOut (first_or_after (is_some (opened_kind e))) es (with_opened (opened_kind e) st) b → RunsOut due (e ∷ es) st s
started e es st s b p k = (k.0, (b, p, k.1), k.2)

-- a text that spells events runs on as them up to whitespace
pub spells_run : (m : Moment) (es : List Step) (st : List Kind) (s : List ℕ) → Spells m es st s → RunsOut m es st s
spells_run due (step.null ∷ es) st s h = started step.null es st s h.rest (stands s h, tt) (spells_run after es st h.rest h.is_rest)
spells_run due (boolean x ∷ es) st s h = started (boolean x) es st s h.rest (stands s h, tt) (spells_run after es st h.rest h.is_rest)
spells_run due (string x ∷ es) st s h = started (string x) es st s h.rest (stands s h, tt) (spells_run after es st h.rest h.is_rest)
spells_run due (negative n ∷ es) st s h =
    started (negative n) es st s h.rest (stands s h, after_stops es st h.rest h.is_rest) (spells_run after es st h.rest h.is_rest)
spells_run due (nonnegative n ∷ es) st s h =
    started (nonnegative n) es st s h.rest (stands s h, after_stops es st h.rest h.is_rest) (spells_run after es st h.rest h.is_rest)
spells_run due (float x ∷ es) st s h =
    started (float x) es st s h.rest (stands s h, after_stops es st h.rest h.is_rest) (spells_run after es st h.rest h.is_rest)
spells_run due (seq ∷ es) st s h = started seq es st s h.rest (stands s h, tt) (spells_run first es (Seq ∷ st) h.rest h.is_rest)
spells_run due (map ∷ es) st s h = started map es st s h.rest (stands s h, tt) (spells_run first es (Map ∷ st) h.rest h.is_rest)
spells_run first (element ∷ es) (Seq ∷ st) s h =
    let k = spells_run due es (Seq ∷ st) s h in
    (k.0, bared es (Seq ∷ st) s k.0 k.1, k.2)
spells_run first (key n ∷ es) (Map ∷ st) s h =
    let k = spells_run due es (Map ∷ st) h.rest h.is_rest in
    let p = stands s h in
    let q = parted s h.rest p in
    let begins = begins_so p.part h.rest 4 (name_head n p.part p.is_part) (omega arith) in
    (k.0, (p.part ++ h.rest, h.rest, (q.0, begins), q.1, k.1), k.2)
spells_run first (finish ∷ es) (Seq ∷ st) s h = let k = spells_run after es st h.rest h.is_rest in (k.0, (h.rest, stands s h, k.1), k.2)
spells_run first (finish ∷ es) (Map ∷ st) s h = let k = spells_run after es st h.rest h.is_rest in (k.0, (h.rest, stands s h, k.1), k.2)
spells_run after [] [] s h = (s, refl, h)
spells_run after (element ∷ es) (Seq ∷ st) s h =
    let k = spells_run due es (Seq ∷ st) h.rest h.is_rest in
    (k.0, (h.rest, stands s h, k.1), k.2)
spells_run after (key n ∷ es) (Map ∷ st) s h =
    let k = spells_run due es (Map ∷ st) h.is_rest.rest h.is_rest.is_rest in
    (k.0, (h.rest, h.is_rest.rest, stands s h, stands h.rest h.is_rest, k.1), k.2)
spells_run after (finish ∷ es) (Seq ∷ st) s h = let k = spells_run after es st h.rest h.is_rest in (k.0, (h.rest, stands s h, k.1), k.2)
spells_run after (finish ∷ es) (Map ∷ st) s h = let k = spells_run after es st h.rest h.is_rest in (k.0, (h.rest, stands s h, k.1), k.2)
spells_run _ _ _ s h = absurd h

-- ---- whole texts

-- a text that spells a tree runs on as the tree's events up to whitespace
pub json_run : (j : List ℕ) (t : Tree) → IsJson j t → RunsOut due (events t) [] j
json_run j t h = spells_run due (events t) [] j (json_spells j t h)

-- if a text runs on as events up to whitespace, they are those of a tree that the text spells
pub run_json : (es : List Step) (j r : List ℕ) → Runs due es [] j r → IsWhitespace r → (t : Tree) × (es ≡ events t) × IsJson j t
run_json es j r h w = spells_json es j (run_spells due es [] j r h w)

-- where no container is open, no event follows a value
pub no_events_left : (es : List Step) (s r : List ℕ) → Runs after es [] s r → (es ≡ []) × (r ≡ s)
no_events_left [] s r p = (refl, p)
no_events_left (e ∷ es) s r p = absurd (go e p)
  where
    go : (d : Step) → Runs after (d ∷ es) [] s r → ⊥
    go element q = q
    go _ q = q
