-- A text that spells a tree spells the events of the tree, one after another. By recursion over the tree, with the
-- later events as a parameter; whitespace before an event belongs to that event (`due_space`, `after_space`).
use Rattle.std.proofs.Common.{◌≡◌, ℕ, false, List, [], ◌∷◌, ◌++◌, refl, sym, ap, subst, ◌∙◌, append_assoc, append-nil}
use Rattle.miniserde_model.specs.Tree.{Tree, null, truth, nonneg, neg, num, str, list, members, Trees, no_trees}
use Rattle.miniserde_model.specs.Tree.{tree, Members, no_members, member}
use Rattle.miniserde_model.specs.String.{IsString}
use Rattle.miniserde_model.specs.Whitespace.{IsWhitespace}
use Rattle.miniserde_model.specs.Value.{Spaced, Named, Then, Between, IsValue, AreElements, AreMoreElements}
use Rattle.miniserde_model.specs.Value.{AreMembers, AreMoreMembers, IsJson}
use Rattle.miniserde_model.specs.Step.{Step, boolean, string, negative, nonnegative, float, seq, element, map, key}
use Rattle.miniserde_model.specs.Step.{finish, events, child_events, member_events}
use Rattle.miniserde_model.specs.Step as step
use Rattle.miniserde_model.specs.Bytes.{StopsAt, is_number_byte}
use Rattle.miniserde_model.specs.Lexing.{IsByte, IsName}
use Rattle.miniserde_model.specs.declared.kind.Kind.{Kind}
use Rattle.miniserde_model.specs.declared.kind.Kind.TheVariants.{Seq, Map}
use Rattle.miniserde_model.specs.private.Reading.{Moment, due, first, after, StandsThen, Spells}
use Rattle.miniserde_model.proofs.Prefixes.{goes_on, space_ends_number}

-- whitespace with whitespace behind it is whitespace
pub space_append : (v w : List ℕ) → IsWhitespace v → IsWhitespace w → IsWhitespace (v ++ w)
space_append [] w h k = k
space_append (c ∷ v) w h k = (h.0, space_append v w h.1 k)

-- ---- from the tree to the events

front_space : {P K : List ℕ → Type 0} (w b : List ℕ) → IsWhitespace w → StandsThen P K b → StandsThen P K (w ++ b)
front_space w b h p = record {
  space = w ++ p.space;
  part = p.part;
  rest = p.rest;
  text =
      ap (λ z. w ++ z) p.text ∙ sym (append_assoc w p.space (p.part ++ p.rest));
  white =
      space_append w p.space h p.white;
  is_part = p.is_part;
  is_rest = p.is_rest;
}

-- whitespace before what is due
pub due_space : (es : List Step) (st : List Kind) (w b : List ℕ) → IsWhitespace w → Spells due es st b → Spells due es st (w ++ b)
due_space (step.null ∷ es) st w b h p = front_space w b h p
due_space (boolean x ∷ es) st w b h p = front_space w b h p
due_space (string s ∷ es) st w b h p = front_space w b h p
due_space (negative n ∷ es) st w b h p = front_space w b h p
due_space (nonnegative n ∷ es) st w b h p = front_space w b h p
due_space (float x ∷ es) st w b h p = front_space w b h p
due_space (seq ∷ es) st w b h p = front_space w b h p
due_space (map ∷ es) st w b h p = front_space w b h p
due_space _ st w b h p = absurd p

-- after a value, a text that spells events spells them with whitespace before it, too
pub after_space : (es : List Step) (st : List Kind) (w b : List ℕ) → IsWhitespace w → Spells after es st b → Spells after es st (w ++ b)
after_space [] [] w b h p = space_append w b h p
after_space (element ∷ es) (Seq ∷ st) w b h p = front_space w b h p
after_space (finish ∷ es) (Seq ∷ st) w b h p = front_space w b h p
after_space (key s ∷ es) (Map ∷ st) w b h p = front_space w b h p
after_space (finish ∷ es) (Map ∷ st) w b h p = front_space w b h p
after_space _ _ w b h p = absurd p

-- a text that is a part and then a rest, without whitespace before the part
pub at_front : {P K : List ℕ → Type 0} (v r b : List ℕ) → P v → K r → b ≡ v ++ r → StandsThen P K b
at_front v r b p k e = record { space = []; part = v; rest = r; text = e; white = tt; is_part = p; is_rest = k }

-- in front of a byte that is part of no number, no number goes on
pub front_byte_stops : (c : ℕ) (K : List ℕ → Type 0) (b : List ℕ) → goes_on c ≡ false → StandsThen (IsByte c) K b
    → StopsAt is_number_byte b
front_byte_stops c K b h p =
    subst (StopsAt is_number_byte) (sym (p.text ∙ ap (λ z. p.space ++ (z ++ p.rest)) p.is_part))
    (space_ends_number p.space (c ∷ p.rest) p.white h)

-- an element, from what follows its value
spaced_due : {P : List ℕ → Type 0} (es more : List Step) (st : List Kind) {a : List ℕ} (r : List ℕ) (p : Spaced P a)
    → ((r' : List ℕ) → Spells after more st r' → Spells due es st (p.inner ++ r')) → Spells after more st r
    → Spells due es st (a ++ r)
spaced_due es more st r p go k =
    let inner = go (p.after ++ r) (after_space more st p.after r p.is_after k) in
    let all = due_space es st p.before (p.inner ++ (p.after ++ r)) p.is_before inner in
    subst (λ z. Spells due es st z)
    (sym (ap (λ z. z ++ r) p.text ∙ append_assoc p.before (p.inner ++ p.after) r ∙ ap (λ z. p.before ++ z)
    (append_assoc p.inner p.after r))) all

then_split : {P M : List ℕ → Type 0} (b r : List ℕ) (p : Then P M b) → b ++ r ≡ p.first ++ (p.rest ++ r)
then_split b r p = ap (λ z. z ++ r) p.text ∙ append_assoc p.first p.rest r

between_split : {P : List ℕ → Type 0} (l r : ℕ) (b x : List ℕ) (p : Between l P r b) → b ++ x ≡ l ∷ (p.inside ++ r ∷ x)
between_split l r b x p = ap (λ z. z ++ x) p.text ∙ ap (λ z. l ∷ z) (append_assoc p.inside (r ∷ []) x)

regroup : (es fs gs : List Step) (m : Moment) (st : List Kind) (b : List ℕ) → Spells m (es ++ (fs ++ gs)) st b
    → Spells m ((es ++ fs) ++ gs) st b
regroup es fs gs m st b p = subst (λ z. Spells m z st b) (sym (append_assoc es fs gs)) p

-- a name and `:`, from what follows
named_front : {V : List ℕ → Type 0} {K : List ℕ → Type 0} (s a r : List ℕ) (p : Named (λ n. IsString n s) V a)
    → K (p.value ++ r) → StandsThen (IsName s) K (a ++ r)
named_front s a r p k =
    let n = p.is_name in
    let split : a ++ r ≡ n.before ++ ((n.inner ++ (n.after ++ 58 ∷ [])) ++ (p.value ++ r)) =
    ap (λ z. z ++ r) p.text ∙ ap (λ z. (z ++ 58 ∷ p.value) ++ r) n.text ∙ simp append_assoc in
    record {
      space = n.before;
      part = n.inner ++ (n.after ++ 58 ∷ []);
      rest = p.value ++ r;
      text = split;
      white =
          n.is_before;
      is_part = record {
        spelled = n.inner;
        space = n.after;
        text = refl;
        is_spelled =
            n.is_inner;
        white = n.is_after;
      };
      is_rest = k;
    }

front_at : {P K : List ℕ → Type 0} (a b : List ℕ) → a ≡ b → StandsThen P K b → StandsThen P K a
front_at {P} {K} a b e f = subst (λ z. StandsThen P K z) (sym e) f

mutual
  value_spells : (t : Tree) (v : List ℕ) (es : List Step) (st : List Kind) (r : List ℕ) → IsValue t v
      → Spells after es st r → Spells due (events t ++ es) st (v ++ r)
  value_spells null v es st r p k = at_front v r _ p k refl
  value_spells (truth x) v es st r p k = at_front v r _ p k refl
  value_spells (nonneg n) v es st r p k = at_front v r _ p k refl
  value_spells (neg n) v es st r p k = at_front v r _ p k refl
  value_spells (num x) v es st r p k = at_front v r _ p k refl
  value_spells (str s) v es st r p k = at_front v r _ p k refl
  value_spells (list ts) v es st r p k =
      at_front (91 ∷ []) (p.inside ++ 93 ∷ r) (v ++ r) refl
      (regroup (child_events ts) (finish ∷ []) es first (Seq ∷ st) _
      (elements_spell ts p.inside es st r p.is_inside k)) (between_split 91 93 v r p)
  value_spells (members ms) v es st r p k =
      at_front (123 ∷ []) (p.inside ++ 125 ∷ r) (v ++ r) refl
      (regroup (member_events ms) (finish ∷ []) es first (Map ∷ st) _
      (members_spell ms p.inside es st r p.is_inside k)) (between_split 123 125 v r p)

  elements_spell : (ts : Trees) (b : List ℕ) (es : List Step) (st : List Kind) (r : List ℕ) → AreElements ts b
      → Spells after es st r → Spells first (child_events ts ++ finish ∷ es) (Seq ∷ st) (b ++ 93 ∷ r)
  elements_spell no_trees b es st r p k =
      record { space = b; part = 93 ∷ []; rest = r; text = refl; white = p; is_part = refl; is_rest = k }
  elements_spell (tree t ts) b es st r p k =
      subst (λ z. Spells due ((events t ++ child_events ts) ++ finish ∷ es) (Seq ∷ st) z) (sym (then_split b (93 ∷ r) p))
      (regroup (events t) (child_events ts) (finish ∷ es) due (Seq ∷ st) _
      (spaced_due (events t ++ (child_events ts ++ finish ∷ es)) (child_events ts ++ finish ∷ es) (Seq ∷ st)
      (p.rest ++ 93 ∷ r) p.is_first
      (λ r' k'. value_spells t p.is_first.inner (child_events ts ++ finish ∷ es) (Seq ∷ st) r'
      p.is_first.is_inner k') (more_spell ts p.rest es st r p.is_rest k)))

  more_spell : (ts : Trees) (b : List ℕ) (es : List Step) (st : List Kind) (r : List ℕ) → AreMoreElements ts b
      → Spells after es st r → Spells after (child_events ts ++ finish ∷ es) (Seq ∷ st) (b ++ 93 ∷ r)
  more_spell no_trees b es st r p k = at_front (93 ∷ []) r _ refl k (ap (λ z. z ++ 93 ∷ r) p)
  more_spell (tree t ts) b es st r q k =
      let c = q.0 in let p = q.2 in
      at_front (44 ∷ []) (c ++ 93 ∷ r) (b ++ 93 ∷ r) refl (
      subst (λ z. Spells due ((events t ++ child_events ts) ++ finish ∷ es) (Seq ∷ st) z) (sym (then_split c (93 ∷ r) p))
      (regroup (events t) (child_events ts) (finish ∷ es) due (Seq ∷ st) _
      (spaced_due (events t ++ (child_events ts ++ finish ∷ es)) (child_events ts ++ finish ∷ es) (Seq ∷ st)
      (p.rest ++ 93 ∷ r) p.is_first
      (λ r' k'. value_spells t p.is_first.inner (child_events ts ++ finish ∷ es) (Seq ∷ st) r'
      p.is_first.is_inner k') (more_spell ts p.rest es st r p.is_rest k)))) (ap (λ z. z ++ 93 ∷ r) q.1)

  members_spell : (ms : Members) (b : List ℕ) (es : List Step) (st : List Kind) (r : List ℕ) → AreMembers ms b
      → Spells after es st r → Spells first (member_events ms ++ finish ∷ es) (Map ∷ st) (b ++ 125 ∷ r)
  members_spell no_members b es st r p k =
      record { space = b; part = 125 ∷ []; rest = r; text = refl; white = p; is_part = refl; is_rest = k }
  members_spell (member s t ms) b es st r p k =
      front_at (b ++ 125 ∷ r) _ (then_split b (125 ∷ r) p) (named_front s p.first (p.rest ++ 125 ∷ r) p.is_first (
      regroup (events t) (member_events ms) (finish ∷ es) due (Map ∷ st) _
      (spaced_due (events t ++ (member_events ms ++ finish ∷ es)) (member_events ms ++ finish ∷ es) (Map ∷ st)
      (p.rest ++ 125 ∷ r) p.is_first.is_value
      (λ r' k'. value_spells t p.is_first.is_value.inner (member_events ms ++ finish ∷ es) (Map ∷ st) r'
      p.is_first.is_value.is_inner k') (more_members_spell ms p.rest es st r p.is_rest k))))

  more_members_spell : (ms : Members) (b : List ℕ) (es : List Step) (st : List Kind) (r : List ℕ)
      → AreMoreMembers ms b → Spells after es st r → Spells after (member_events ms ++ finish ∷ es) (Map ∷ st)
      (b ++ 125 ∷ r)
  more_members_spell no_members b es st r p k = at_front (125 ∷ []) r _ refl k (ap (λ z. z ++ 125 ∷ r) p)
  more_members_spell (member s t ms) b es st r q k =
      let p = q.2 in
      at_front (44 ∷ []) (q.0 ++ 125 ∷ r) (b ++ 125 ∷ r) refl (
      front_at (q.0 ++ 125 ∷ r) _ (then_split q.0 (125 ∷ r) p) (named_front s p.first (p.rest ++ 125 ∷ r) p.is_first (
      regroup (events t) (member_events ms) (finish ∷ es) due (Map ∷ st) _
      (spaced_due (events t ++ (member_events ms ++ finish ∷ es)) (member_events ms ++ finish ∷ es) (Map ∷ st)
      (p.rest ++ 125 ∷ r) p.is_first.is_value
      (λ r' k'. value_spells t p.is_first.is_value.inner (member_events ms ++ finish ∷ es) (Map ∷ st) r'
      p.is_first.is_value.is_inner k') (more_members_spell ms p.rest es st r p.is_rest k)))))
      (ap (λ z. z ++ 125 ∷ r) q.1)

-- what spells a tree spells its events
pub json_spells : (b : List ℕ) (t : Tree) → IsJson b t → Spells due (events t) [] b
json_spells b t p =
    subst (λ z. Spells due z [] b) (append-nil (events t))
    (subst (λ z. Spells due (events t ++ []) [] z) (append-nil b)
    (spaced_due (events t ++ []) [] [] [] p (λ r k. value_spells t p.inner [] [] r p.is_inner k) tt))
