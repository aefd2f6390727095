-- A whole text spells a tree exactly if it begins with the first event of the tree, the text behind that gives the
-- tree, and only whitespace is left. A whole text is a run up to whitespace (`json_run`, `run_json`), and by recursion
-- over the tree a run over its events gives the tree (`value_at`).
use Rattle.std.proofs.Common.{ℕ, Bool, true, false, List, [], ◌∷◌, ◌++◌, refl, sym, subst}
use Rattle.std.proofs.Common.{append_assoc, append-nil}
use Rattle.miniserde_model.specs.Tree.{Tree, null, truth, nonneg, neg, num, str, list, members, Trees, no_trees}
use Rattle.miniserde_model.specs.Tree.{tree, Members, no_members, member}
use Rattle.miniserde_model.specs.Whitespace.{IsWhitespace}
use Rattle.miniserde_model.specs.Value.{IsJson}
use Rattle.miniserde_model.specs.Step.{Step, boolean, string, negative, nonnegative, float, seq, map}
use Rattle.miniserde_model.specs.Step.{finish, events, child_events, member_events}
use Rattle.miniserde_model.specs.Step as step
use Rattle.miniserde_model.specs.Lexing.{Starts}
use Rattle.miniserde_model.specs.declared.kind.Kind.{Kind}
use Rattle.miniserde_model.specs.declared.kind.Kind.TheVariants.{Seq, Map}
use Rattle.miniserde_model.specs.private.Reading.{due, first}
use Rattle.miniserde_text.specs.private.Moments.{first_or_after}
use Rattle.miniserde_text.specs.private.EventRuns.{Runs}
use Rattle.miniserde_text.proofs.FirstEvents.{same_start}
use Rattle.miniserde_text.proofs.Wholes.{json_run, run_json, no_events_left}
use Rattle.miniserde_read.specs.Rest.{ValueAt}
use Rattle.miniserde_read.proofs.Same.{value_same}
use Rattle.miniserde_read.proofs.Values.{value_then_runs, At, leaf_at, ElementsEnd, MembersEnd}
use Rattle.miniserde_read.proofs.Values.{element_at, member_at, list_at, object_at}

-- ---- from a run over the events of a tree

mutual
  value_at : (t : Tree) (rest : List Step) (st : List Kind) (s r : List ℕ) → Runs due (events t ++ rest) st s r → At t rest st s r
  value_at null rest st s r h = leaf_at step.null h.1 (refl, refl) h.2
  value_at (truth x) rest st s r h = leaf_at (boolean x) h.1 (refl, refl) h.2
  value_at (nonneg n) rest st s r h = leaf_at (nonnegative n) h.1 (refl, refl) h.2
  value_at (neg n) rest st s r h = leaf_at (negative n) h.1 (refl, refl) h.2
  value_at (num x) rest st s r h = leaf_at (float x) h.1 (refl, refl) h.2
  value_at (str x) rest st s r h = leaf_at (string x) h.1 (refl, refl) h.2
  value_at (list ts) rest st s r h =
      let a = elements_at ts true rest st h.0 r
      (subst (λ z. Runs first z (Seq ∷ st) h.0 r) (append_assoc (child_events ts) (finish ∷ []) rest) h.2) in
      list_at h.1 a
  value_at (members ms) rest st s r h =
      let a = members_at ms true rest st h.0 r
      (subst (λ z. Runs first z (Map ∷ st) h.0 r) (append_assoc (member_events ms) (finish ∷ []) rest) h.2) in
      object_at h.1 a

  elements_at : (ts : Trees) (f : Bool) (rest : List Step) (st : List Kind) (s r : List ℕ)
      → Runs (first_or_after f) (child_events ts ++ finish ∷ rest) (Seq ∷ st) s r → ElementsEnd ts f rest st s r
  elements_at no_trees true rest st s r h = h
  elements_at no_trees false rest st s r h = h
  elements_at (tree t ts) true rest st s r h =
      let a = value_at t (child_events ts ++ finish ∷ rest) (Seq ∷ st) h.0 r
      (subst (λ z. Runs due z (Seq ∷ st) h.0 r) (append_assoc (events t) (child_events ts) (finish ∷ rest)) h.2) in
      element_at t ts true rest h.1 a (elements_at ts false rest st a.end r a.is_rest)
  elements_at (tree t ts) false rest st s r h =
      let a = value_at t (child_events ts ++ finish ∷ rest) (Seq ∷ st) h.0 r
      (subst (λ z. Runs due z (Seq ∷ st) h.0 r) (append_assoc (events t) (child_events ts) (finish ∷ rest)) h.2) in
      element_at t ts false rest h.1 a (elements_at ts false rest st a.end r a.is_rest)

  members_at : (ms : Members) (f : Bool) (rest : List Step) (st : List Kind) (s r : List ℕ)
      → Runs (first_or_after f) (member_events ms ++ finish ∷ rest) (Map ∷ st) s r → MembersEnd ms f rest st s r
  members_at no_members true rest st s r h = h
  members_at no_members false rest st s r h = h
  members_at (member n t ms) true rest st s r h =
      let a = value_at t (member_events ms ++ finish ∷ rest) (Map ∷ st) h.1 r
      (subst (λ z. Runs due z (Map ∷ st) h.1 r) (append_assoc (events t) (member_events ms) (finish ∷ rest)) h.4) in
      member_at t ms true rest h.2 h.3 a (members_at ms false rest st a.end r a.is_rest)
  members_at (member n t ms) false rest st s r h =
      let a = value_at t (member_events ms ++ finish ∷ rest) (Map ∷ st) h.1 r
      (subst (λ z. Runs due z (Map ∷ st) h.1 r) (append_assoc (events t) (member_events ms) (finish ∷ rest)) h.4) in
      member_at t ms false rest h.2 h.3 a (members_at ms false rest st a.end r a.is_rest)

-- ---- whole texts

-- the text j is a value that spells t, by its first event and the text behind that, and then whitespace
pub record JsonAt (j : List ℕ) (t : Tree) : Type 0 where
  pub event : Step
  pub behind : List ℕ
  pub end : List ℕ
  pub starts : Starts j event behind
  pub is_value : ValueAt t event behind end
  pub white : IsWhitespace end

-- a text that spells a tree has the first event of the tree, the rest of the value and then whitespace
pub json_at : (j : List ℕ) (t : Tree) → IsJson j t → JsonAt j t
json_at j t h =
    let k = json_run j t h in
    let a = value_at t [] [] j k.0 (subst (λ z. Runs due z [] j k.0) (sym (append-nil (events t))) k.1) in
    record {
      event = a.event;
      behind = a.behind;
      end = a.end;
      starts = a.starts;
      is_value = a.is_value;
      white = subst IsWhitespace (no_events_left [] a.end k.0 a.is_rest).1 k.2;
    }

-- what stands at the front is the front of the whole
pub json_front : (j : List ℕ) (t : Tree) (e : Step) (s : List ℕ) → IsJson j t → Starts j e s
    → (r : List ℕ) × ValueAt t e s r × IsWhitespace r
json_front j t e s h k =
    let a = json_at j t h in
    let one = same_start j a.event e a.behind s a.starts k in
    (a.end, subst (λ z. ValueAt t z s a.end) one.0 (subst (λ z. ValueAt t a.event z a.end) one.1 a.is_value), a.white)

-- a text with the first event of a tree, the rest of the value and then whitespace spells the tree
pub at_json : (j : List ℕ) (t : Tree) → JsonAt j t → IsJson j t
at_json j t p =
    let runs = value_then_runs t p.event j p.behind p.end [] [] p.end p.starts p.is_value refl in
    let u = run_json (events t ++ []) j p.end runs p.white in
    let a = json_front j u.0 p.event p.behind u.2 p.starts in
    subst (λ z. IsJson j z) (value_same u.0 t p.event p.behind a.0 p.end a.1 p.is_value).0 u.2
