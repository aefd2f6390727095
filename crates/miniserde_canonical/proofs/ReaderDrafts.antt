-- The draft of a reader takes each token that the reader takes. `Taken` is the invariant of the reader's loop: the
-- tokens so far, the steps over them from the start, and a draft that represents the state after them.
use Rattle.std.proofs.Common.{◌≡◌, ◌≤◌, ℕ, Bool, true, false, None, is_some, List, [], ◌∷◌, ◌++◌, length, refl, sym}
use Rattle.std.proofs.Common.{ap, subst, ◌∙◌, arith, length-append, append_assoc}
use Rattle.miniserde_model.specs.Ascii.{begin_array, end_array, begin_object, end_object, name_separator, value_separator}
use Rattle.miniserde_model.specs.Tree.{Tree}
use Rattle.miniserde_model.specs.Value.{IsJson}
use Rattle.miniserde_model.specs.Whitespace.{IsWhitespace}
use Rattle.miniserde_model.specs.Compact.{compact, string_text}
use Rattle.miniserde_model.specs.Normal.{norm}
use Rattle.miniserde_model.specs.Step.{Step, boolean, string, negative, nonnegative, float, seq, element, map, key, finish}
use Rattle.miniserde_model.specs.Step as step
use Rattle.miniserde_model.specs.Bytes.{is_space, StopsAt}
use Rattle.miniserde_model.specs.Lexing.{Piece, Stands, Starts, Names, Follows, closing}
use Rattle.miniserde_model.specs.declared.kind.Kind.{Kind}
use Rattle.miniserde_model.specs.declared.kind.Kind.TheVariants.{Seq, Map}
use Rattle.miniserde_model.proofs.TreeEvents.{space_append}
use Rattle.miniserde_model.proofs.LongestRuns.{same_run}
use Rattle.miniserde_model.proofs.Prefixes.{space_run}
use Rattle.miniserde_text.specs.Lexer.{Blank}
use Rattle.miniserde_text.proofs.FirstEvents.{piece_no_space, name_no_space}
use Rattle.miniserde_text.proofs.NextChild.{begins_stops}
use Rattle.miniserde_canonical.proofs.Plains.{at_once}
use Rattle.miniserde_model.specs.private.Reading.{Moment, due, after}
use Rattle.miniserde_text.specs.private.Stack.{innermost}
use Rattle.miniserde_text.specs.private.EventRuns.{TextAt, text_at}
use Rattle.miniserde_text.specs.private.Moments.{opened_kind, first_or_after}
use Rattle.miniserde_model.specs.Tokens.{Token, leaf, name, array, array_end, object, object_end, tokens, comma_before}
use Rattle.miniserde_model.specs.Tokens as token
use Rattle.miniserde_canonical.specs.declared.draft.Draft.{Draft}
use Rattle.miniserde_canonical.specs.private.States.{State, Closes, TokenStep, TokenSteps, initial_state}
use Rattle.miniserde_canonical.specs.private.Drafts.{Wrote, Holding, Represents, ChangesOnlyText, Recalls, draft_at}
use Rattle.miniserde_canonical.specs.private.Drafts.{DraftTakes}
use Rattle.miniserde_canonical.specs.private.EventTokens.{first_token, ReadsTokens}
use Rattle.miniserde_canonical.proofs.TreeRuns.{steps_append}
use Rattle.miniserde_canonical.proofs.DraftSteps.{keep_holding, stays}
use Rattle.miniserde_canonical.proofs.InputRuns.{wrote_on}
use Rattle.miniserde_canonical.proofs.WholeTexts.{ReadsTokens-append, end_ok}

-- ---- one token

-- behind a token, which is the front of a value
abbrev fronted : Token → State → State
fronted (leaf t) s = record {
  entries = s.entries;
  last = s.last ++ compact (norm t);
  opened = s.opened;
  first = false;
  distinct = s.distinct;
}
fronted array s = record { entries = s.entries; last = s.last ++ begin_array ∷ []; opened = s.opened; first = true; distinct = s.distinct }
fronted object s = record {
  entries = s.entries;
  last = s.last ++ begin_object ∷ [];
  opened =
      s.opened ++ length s.entries ∷ [];
  first = true;
  distinct = s.distinct;
}
fronted _ s = s

front_step : (e : Step) (b : List ℕ) → Piece e b → (s : State)
    → TokenStep (first_token e) s (fronted (first_token e) s) × Recalls (first_or_after (is_some (opened_kind e)))
    (fronted (first_token e) s)
front_step step.null b p s = (((refl, refl, refl, refl), refl), refl)
front_step (boolean x) b p s = (((refl, refl, refl, refl), refl), refl)
front_step (string x) b p s = (((refl, refl, refl, refl), refl), refl)
front_step (negative z) b p s = (((refl, refl, refl, refl), refl), refl)
front_step (nonnegative n) b p s = (((refl, refl, refl, refl), refl), refl)
front_step (float x) b p s = (((refl, refl, refl, refl), refl), refl)
front_step seq b p s = (((refl, refl, refl, refl), refl), refl)
front_step map b p s = ((refl, refl, refl, refl, refl), refl)
front_step element b p s = absurd p
front_step (key x) b p s = absurd p
front_step finish b p s = absurd p

-- from d to d' the whitespace between `rest` and rest' was left out
pub record LeavesOut (d d' : Draft) (rest rest' : List ℕ) : Type 0 where
  pub wrote : (bs : List ℕ) → Wrote d rest bs → Wrote d' rest' bs
  pub only_text : ChangesOnlyText d d'

-- whitespace changes nothing
skipped : {d d' : Draft} {rest rest' : List ℕ} {s : State} → LeavesOut d d' rest rest' → Represents d rest s → Represents d' rest' s
skipped k r = record { bytes = r.bytes; wrote = k.wrote r.bytes r.wrote; holding = keep_holding k.only_text r.holding }

-- a draft takes a value's first token if it leaves out whitespace, and then makes the token's step
pub takes_front : {rest mid rest' : List ℕ} {d d1 d' : Draft} (e : Step) (b : List ℕ) (o : Bool) → Piece e b
    → o ≡ is_some (opened_kind e) → LeavesOut d d1 rest mid
    → ((s s' : State) → Represents d1 mid s → TokenStep (first_token e) s s' → Represents d' rest' s')
    → DraftTakes (draft_at due rest d) (first_token e ∷ []) (draft_at (first_or_after o) rest' d')
takes_front e b o p q k f = λ s r h.
    let t = front_step e b p s in
    let s' = fronted (first_token e) s in
    (s', (s', t.0, refl), f s s' (skipped k r) t.0, subst (λ z. Recalls (first_or_after z) s') (sym q) t.1)

recalled : (f : Bool) (s : State) → Recalls (first_or_after f) s → s.first ≡ f
recalled true s h = h
recalled false s h = h

-- a draft takes the beginning of an element if it leaves out whitespace; a comma before the element joins the run
pub takes_element : {rest mid : List ℕ} {d d' : Draft} (f : Bool) (rest' : List ℕ) → LeavesOut d d' rest mid
    → mid ≡ comma_before f ++ rest'
    → DraftTakes (draft_at (first_or_after f) rest d) (token.element ∷ []) (draft_at due rest' d')
takes_element {mid = mid} f rest' k e = λ s r h.
    let s' : State = record {
      entries = s.entries;
      last = s.last ++ comma_before s.first;
      opened = s.opened;
      first =
          s.first;
      distinct = s.distinct;
    } in
    let a : TokenStep token.element s s' = (refl, refl, refl, refl) in
    let comma : mid ≡ comma_before s.first ++ rest' = e ∙ ap (λ z. comma_before z ++ rest') (sym (recalled f s h)) in (
      s',
      (s', a, refl),
      stays (comma_before s.first) rest' a (skipped k r) comma,
      tt,
    )

-- behind a comma, if any, and whitespace, a name
pub takes_name : {rest mid at rest' : List ℕ} {d d1 d2 d' : Draft} (f : Bool) (n behind : List ℕ) → LeavesOut d d1 rest mid
    → mid ≡ comma_before f ++ behind → LeavesOut d1 d2 behind at
    → ((before : List ℕ) (s s' : State) → Wrote d2 at (before ++ comma_before s.first) → Holding d2 before s
    → s.first ≡ f → TokenStep (name n) s s' → Represents d' rest' s')
    → DraftTakes (draft_at (first_or_after f) rest d) (name n ∷ []) (draft_at due rest' d')
takes_name {mid = mid} f n behind k e w g = λ s r h.
    let s' : State = record {
      entries = s.entries ++ record { earlier_text = s.last; first = s.first; name = n } ∷ [];
      last = string_text n ++ name_separator ∷ [];
      opened = s.opened;
      first = s.first;
      distinct = s.distinct;
    } in
    let a : TokenStep (name n) s s' = (refl, refl, refl, refl) in
    let q = skipped k r in
    let i = recalled f s h in
    let comma : mid ≡ comma_before s.first ++ behind = e ∙ ap (λ z. comma_before z ++ behind) (sym i) in
    let wrote = w.wrote (q.bytes ++ comma_before s.first) (wrote_on (comma_before s.first) behind q.wrote comma) in
    (s', (s', a, refl), g q.bytes s s' wrote (keep_holding w.only_text q.holding) i a, tt)

-- the state behind a closing bracket
abbrev ended : ℕ → State → State
ended b s = record { entries = s.entries; last = s.last ++ b ∷ []; opened = s.opened; first = false; distinct = s.distinct }

-- a draft takes the end of an array if it leaves out whitespace; the bracket joins the run
pub takes_array_end : {rest mid rest' : List ℕ} {d d' : Draft} (m : Moment) → LeavesOut d d' rest mid → mid ≡ end_array ∷ rest'
    → DraftTakes (draft_at m rest d) (array_end ∷ []) (draft_at after rest' d')
takes_array_end {rest' = rest'} m k e = λ s r h.
    let t = ended end_array s in
    (t, (t, ((refl, refl, refl, refl), refl), refl), stays (end_array ∷ []) rest' (refl, refl, refl, refl) (skipped k r) e, refl)

-- a draft takes the end of an object if it leaves out whitespace, and then closes the object; the bracket joins the run
pub takes_object_end : {rest mid rest' : List ℕ} {d d1 : Draft} (m : Moment) (d' : Draft) → LeavesOut d d1 rest mid
    → mid ≡ end_object ∷ rest' → ((s : State) → Represents d1 mid s → (n : State) × Closes s n × Represents d' mid n)
    → DraftTakes (draft_at m rest d) (object_end ∷ []) (draft_at after rest' d')
takes_object_end {rest' = rest'} m d' k e f = λ s r h.
    let q = f s (skipped k r) in
    let t = ended end_object q.0 in (
      t,
      (t, (q.0, q.1, (refl, refl, refl, refl), refl), refl),
      stays (end_object ∷ []) rest' (refl, refl, refl, refl) q.2 e,
      refl,
    )

-- ---- all tokens so far

-- the tokens of j up to `now` were read, and the draft d took them from `initial_state` on
pub record Taken (j : List ℕ) (now : TextAt) (d : Draft) : Type 0 where
  pub tokens : List Token
  pub state : State
  pub reads : ReadsTokens (text_at due [] j) tokens now
  pub steps : TokenSteps tokens initial_state state
  pub represents : Represents d now.rest state
  pub recalls : Recalls now.moment state

-- if ks are read from the beginning of j, and a draft that represents `initial_state` takes them, `Taken` holds
pub taken_first : {j s : List ℕ} {st : List Kind} {ks : List Token} {new : TextAt} {d d' : Draft}
    → st ≡ [] → s ≡ j → Represents d j initial_state → ReadsTokens (text_at due st s) ks new
    → DraftTakes (draft_at due j d) ks (draft_at new.moment new.rest d') → Taken j new d'
taken_first {j = j} {st = st} {ks = ks} {new = new} e f r p t =
    let a = t initial_state r tt in
    record {
      tokens = ks;
      state = a.0;
      reads =
          subst (λ z. ReadsTokens (text_at due z j) ks new) e (subst (λ z. ReadsTokens (text_at due st z) ks new) f p);
      steps = a.1;
      represents = a.2;
      recalls = a.3;
    }

-- if `Taken` holds, and then more tokens are read and taken, `Taken` holds after them
pub taken_more : {j : List ℕ} {old new : TextAt} {ks : List Token} {d d' : Draft} → Taken j old d → ReadsTokens old ks new
    → DraftTakes (draft_at old.moment old.rest d) ks (draft_at new.moment new.rest d') → Taken j new d'
taken_more {ks = ks} t p f =
    let a = f t.state t.represents t.recalls in
    record {
      tokens = t.tokens ++ ks;
      state = a.0;
      reads =
          ReadsTokens-append t.reads p;
      steps =
          steps_append t.tokens ks initial_state t.state a.0 t.steps a.1;
      represents = a.2;
      recalls = a.3;
    }

-- if no container is open and only whitespace is left, the tokens taken are those of a tree that j spells
pub taken_all : {j rest : List ℕ} {st : List Kind} {d : Draft} (f : Bool) → innermost st ≡ None
    → IsWhitespace rest → Taken j (text_at (first_or_after f) st rest) d → (t : Tree) × (s : State) × IsJson j t
    × TokenSteps (tokens t []) initial_state s × Represents d rest s
taken_all {st = st} f e w k =
    let t = end_ok f st e k.reads w in
    (t.0, k.state, t.1, subst (λ z. TokenSteps z initial_state k.state) t.2 k.steps, k.represents)

-- the rest after whitespace and a part is no longer than the text
pub stands_less : {P : List ℕ → Type 0} (s r : List ℕ) → Stands P s r → length r ≤ length s
stands_less s r p = omega (arith, ap length p.text, length-append p.space (p.part ++ r), length-append p.part r)

-- the rest after what the lexer takes inside a container is no longer than the text
pub follows_less : (k : Kind) (f c : Bool) (s r : List ℕ) → Follows k f c s r → length r ≤ length s
follows_less k f true s r p = stands_less s r p
follows_less k true false s r p = stands_less s r p.0
follows_less k false false s r p = stands_less s r p

-- ---- behind whitespace

stands_behind : {P : List ℕ → Type 0} {s m r : List ℕ} → Blank s m → Stands P m r → Stands P s r
stands_behind {r = r} b p =
    record {
      space = b.space ++ p.space;
      part = p.part;
      text =
          b.text ∙ ap (λ z. b.space ++ z) p.text ∙ sym (append_assoc b.space p.space (p.part ++ r));
      white =
          space_append b.space p.space b.white p.white;
      is_part = p.is_part;
    }

-- if m is s without its first whitespace and begins with a value's first token, so does s
pub starts_behind : {s m : List ℕ} (e : Step) (r : List ℕ) → Blank s m → Starts m e r → Starts s e r
starts_behind e r b p = (stands_behind b p.0, p.1)

-- if m is s without its first whitespace and begins with a name, so does s
pub names_behind : {s m : List ℕ} (n r : List ℕ) → Blank s m → Names m n r → Names s n r
names_behind n r b p = stands_behind b p

-- if m is s without its first whitespace, what follows in m inside a container follows in s
pub follows_behind : {s m : List ℕ} (k : Kind) (f c : Bool) (r : List ℕ) → Blank s m → Follows k f c m r → Follows k f c s r
follows_behind k f true r b p = stands_behind b p
follows_behind k true false r b p = (stands_behind b p.0, p.1)
follows_behind k false false r b p = stands_behind b p

-- what stands behind whitespace stands at its end
stands_at : {P : List ℕ → Type 0} {s m r : List ℕ} → Blank s m → (p : Stands P s r) → StopsAt is_space (p.part ++ r) → Stands P m r
stands_at {m = m} {r = r} b p h =
    let same = same_run (space_run b.text b.white b.stops) (space_run p.text p.white h) in
    record { space = []; part = p.part; text = same.1; white = tt; is_part = p.is_part }

-- if m is s without its first whitespace and s begins with a value's first token, so does m
pub starts_at : {s m : List ℕ} (e : Step) (r : List ℕ) → Blank s m → Starts s e r → Starts m e r
starts_at e r b p = (stands_at b p.0 (piece_no_space e p.0.part r p.0.is_part), p.1)

-- if m is s without its first whitespace and s begins with a name, so does m
pub names_at : {s m : List ℕ} (n r : List ℕ) → Blank s m → Names s n r → Names m n r
names_at n r b p = stands_at b p (name_no_space n p.part r p.is_part)

byte_stops : (c : ℕ) (part r : List ℕ) → is_space c ≡ false → part ≡ c ∷ [] → StopsAt is_space (part ++ r)
byte_stops c part r h e = subst (λ z. StopsAt is_space (z ++ r)) (sym e) h

-- if m is s without its first whitespace, what follows in s inside a container follows in m
pub follows_at : {s m : List ℕ} (k : Kind) (f c : Bool) (r : List ℕ) → Blank s m → Follows k f c s r → Follows k f c m r
follows_at Seq f true r b p = stands_at b p (byte_stops end_array p.part r refl p.is_part)
follows_at Map f true r b p = stands_at b p (byte_stops end_object p.part r refl p.is_part)
follows_at k true false r b p =
    (stands_at b p.0 (subst (λ z. StopsAt is_space (z ++ r)) (sym p.0.is_part) (begins_stops r p.1)), p.1)
follows_at k false false r b p = stands_at b p (byte_stops value_separator p.part r refl p.is_part)

-- what is taken between children where no whitespace stands
pub closing_at : (k : Kind) (f : Bool) (m r : List ℕ) → StopsAt is_space m → Follows k f true m r → m ≡ closing k ∷ r
closing_at k f m r h p = at_once m r p h ∙ ap (λ z. z ++ r) p.is_part

-- if a child follows in a text without whitespace in front, the text is the child's comma, if any, and r
pub comma_at : (k : Kind) (f : Bool) (m r : List ℕ) → StopsAt is_space m → Follows k f false m r → m ≡ comma_before f ++ r
comma_at k true m r h p = at_once m r p.0 h ∙ ap (λ z. z ++ r) p.0.is_part
comma_at k false m r h p = at_once m r p h ∙ ap (λ z. z ++ r) p.is_part

-- a text without its first whitespace is no longer than the text
pub blank_less : (s r : List ℕ) → Blank s r → length r ≤ length s
blank_less s r b = omega (arith, ap length b.text, length-append b.space r)
