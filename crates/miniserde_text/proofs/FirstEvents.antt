-- A text begins with at most one first event of a value, and the text behind it is shorter. The first byte determines
-- the class of the event (`piece_head`), and within a class both events and both rests are equal (`same_token`).
use Rattle.std.proofs.Common.{◌≡◌, ℕ, ◌<◌, false, Option, Some, None, is_some, List, [], ◌∷◌, ◌++◌, length, codes}
use Rattle.std.proofs.Common.{refl, sym, ap, ◌∙◌, append_assoc, arith, length-append}
use Rattle.miniserde_model.specs.Tree.{Tree, null, truth, nonneg, neg, num, str}
use Rattle.miniserde_model.specs.Whitespace.{IsWhitespace}
use Rattle.miniserde_model.specs.Step.{Step, boolean, string, negative, nonnegative, float, seq, element, map, key, finish}
use Rattle.miniserde_model.specs.Step as step
use Rattle.miniserde_model.specs.Number.{IsNumber}
use Rattle.miniserde_model.specs.Bytes.{StopsAt, is_space, is_number_byte}
use Rattle.miniserde_model.specs.Lexing.{IsByte, IsName, Stands, Piece, Starts, Names, Begins}
use Rattle.miniserde_model.specs.declared.kind.Kind.{Kind}
use Rattle.miniserde_model.specs.private.Reading.{due, StandsThen, Spells}
use Rattle.miniserde_model.proofs.LongestRuns.{same_run}
use Rattle.miniserde_model.proofs.Numbers.{same_number}
use Rattle.miniserde_model.proofs.Strings.{same_string}
use Rattle.miniserde_model.proofs.Prefixes.{space_run}
use Rattle.miniserde_model.proofs.Unique.{Head, value_head, head_no_space, string_head, same_kind, same_word, same_truth}
use Rattle.miniserde_text.specs.private.Reading.{after_run}
use Rattle.miniserde_text.specs.private.LexerParts.{BeginsWith, TakesToken}
use Rattle.miniserde_text.specs.private.Stack.{with_opened}
use Rattle.miniserde_text.specs.private.Moments.{opened_kind, first_or_after, MomentFits}
use Rattle.miniserde_text.proofs.ByteRuns.{stands_only}

-- ---- the first byte

-- the class of the first byte of the event's token (`leading_kind`); 7 if the event does not begin a value
abbrev pub class : Step → ℕ
class step.null = 0
class (boolean x) = 1
class (negative n) = 3
class (nonnegative n) = 3
class (float x) = 3
class (string s) = 4
class seq = 5
class map = 6
class element = 7
class (key s) = 7
class finish = 7

-- a token begins with a byte of its event's class
pub piece_head : (e : Step) (b : List ℕ) → Piece e b → Head b (class e)
piece_head step.null b p = value_head null b p
piece_head (boolean x) b p = value_head (truth x) b p
piece_head (negative n) b p = value_head (neg n) b p
piece_head (nonnegative n) b p = value_head (nonneg n) b p
piece_head (float x) b p = value_head (num x) b p
piece_head (string s) b p = value_head (str s) b p
piece_head seq b p = record { byte = 91; rest = []; is = p; of_kind = refl }
piece_head map b p = record { byte = 123; rest = []; is = p; of_kind = refl }
piece_head element b p = absurd p
piece_head (key s) b p = absurd p
piece_head finish b p = absurd p

-- the class of an event that has a token is below 7
pub class_below : (e : Step) (b : List ℕ) → Piece e b → class e < 7
class_below step.null b p = omega arith
class_below (boolean x) b p = omega arith
class_below (negative n) b p = omega arith
class_below (nonnegative n) b p = omega arith
class_below (float x) b p = omega arith
class_below (string s) b p = omega arith
class_below seq b p = omega arith
class_below map b p = omega arith
class_below element b p = absurd p
class_below (key s) b p = absurd p
class_below finish b p = absurd p

-- a token does not begin with whitespace, whatever text r follows it
pub piece_no_space : (e : Step) (b r : List ℕ) → Piece e b → StopsAt is_space (b ++ r)
piece_no_space e b r p = head_no_space b r (class e) (class_below e b p) (piece_head e b p)

-- a name begins with a byte of the class of quotes, 4
pub name_head : (n b : List ℕ) → IsName n b → Head b 4
name_head n b p =
    let h = string_head p.spelled n p.is_spelled in
    record {
      byte = h.byte;
      rest = h.rest ++ (p.space ++ 58 ∷ []);
      is =
          p.text ∙ ap (λ z. z ++ (p.space ++ 58 ∷ [])) h.is;
      of_kind = h.of_kind;
    }

-- a name does not begin with whitespace, whatever text r follows it
pub name_no_space : (n b r : List ℕ) → IsName n b → StopsAt is_space (b ++ r)
name_no_space n b r p = head_no_space b r 4 (omega arith) (name_head n b p)

-- the text s is whitespace, then the byte c, which is none, and then r
pub record First (s : List ℕ) (c : ℕ) (r : List ℕ) : Type 0 where
  pub space : List ℕ
  pub text : s ≡ space ++ (c ∷ r)
  pub is_whitespace : IsWhitespace space
  pub no_space : is_space c ≡ false

-- a text has at most one first byte after whitespace, and one rest after that byte
pub same_first : {s : List ℕ} {c d : ℕ} {r x : List ℕ} → First s c r → First s d x → (c ≡ d) × (r ≡ x)
same_first {c = c} {d = d} {r = r} {x = x} p q =
    let both : ◌≡◌ {A = List ℕ} (c ∷ r) (d ∷ x) =
    (same_run (space_run p.text p.is_whitespace p.no_space) (space_run q.text q.is_whitespace q.no_space)).1 in
    (cc, cc)

-- if s has the byte c after whitespace, and c is no whitespace, c is its first byte after whitespace
pub first_byte : (c : ℕ) {s r : List ℕ} → is_space c ≡ false → Stands (IsByte c) s r → First s c r
first_byte c {r = r} h p = record {
  space = p.space;
  text = p.text ∙ ap (λ z. p.space ++ (z ++ r)) p.is_part;
  is_whitespace = p.white;
  no_space = h;
}

-- if r begins a child, and s is whitespace and then r, the byte of r is the first of s after whitespace
pub begins_first : {s r : List ℕ} → Stands (λ b. b ≡ []) s r → (b : Begins r) → First s b.byte b.more
begins_first {r = r} p b = record {
  space = p.space;
  text = p.text ∙ ap (λ z. p.space ++ (z ++ r)) p.is_part ∙ ap (λ z. p.space ++ z) b.text;
  is_whitespace = p.white;
  no_space = b.no_space;
}

-- ---- one front

abbrev leaf_event : Tree → Step
leaf_event (nonneg n) = nonnegative n
leaf_event (neg n) = negative n
leaf_event (num x) = float x
leaf_event _ = step.null

-- a text begins with at most one number that no byte of a number follows
same_number_token : (t u : Tree) {s r x : List ℕ} → BeginsWith (λ b. IsNumber b t) s r × StopsAt is_number_byte r
    → BeginsWith (λ b. IsNumber b u) s x × StopsAt is_number_byte x → (leaf_event t ≡ leaf_event u) × (r ≡ x)
same_number_token t u {r = r} {x = x} ((a, p, j), sx) ((b, q, k), sy) =
    let both = same_number t u a b r x p q sx sy (sym j ∙ k) in (ap leaf_event both.0, both.1)

-- a text begins with at most one token: two have one event and one rest
same_token : (s : List ℕ) (e f : Step) (r x : List ℕ) → TakesToken s e r → TakesToken s f x → (e ≡ f) × (r ≡ x)
same_token s step.null step.null r x ((a, p, j), sx) ((b, q, k), sy) = (refl, same_word (codes "null") p q (sym j ∙ k))
same_token s (boolean v) (boolean w) r x ((a, p, j), sx) ((b, q, k), sy) =
    let both = same_truth v w a b r x p q (sym j ∙ k) in (ap boolean both.0, both.1)
same_token s (string v) (string w) r x ((a, p, j), sx) ((b, q, k), sy) =
    let both = same_string v w a b r x p q (sym j ∙ k) in (ap string both.0, both.1)
same_token s (negative n) (negative m) r x p q = same_number_token (neg n) (neg m) p q
same_token s (negative n) (nonnegative m) r x p q = same_number_token (neg n) (nonneg m) p q
same_token s (negative n) (float m) r x p q = same_number_token (neg n) (num m) p q
same_token s (nonnegative n) (negative m) r x p q = same_number_token (nonneg n) (neg m) p q
same_token s (nonnegative n) (nonnegative m) r x p q = same_number_token (nonneg n) (nonneg m) p q
same_token s (nonnegative n) (float m) r x p q = same_number_token (nonneg n) (num m) p q
same_token s (float n) (negative m) r x p q = same_number_token (num n) (neg m) p q
same_token s (float n) (nonnegative m) r x p q = same_number_token (num n) (nonneg m) p q
same_token s (float n) (float m) r x p q = same_number_token (num n) (num m) p q
same_token s seq seq r x ((a, p, j), sx) ((b, q, k), sy) = (refl, same_word (91 ∷ []) p q (sym j ∙ k))
same_token s map map r x ((a, p, j), sx) ((b, q, k), sy) = (refl, same_word (123 ∷ []) p q (sym j ∙ k))
same_token s element f r x p q = absurd p.0.1
same_token s (key n) f r x p q = absurd p.0.1
same_token s finish f r x p q = absurd p.0.1
same_token s e f r x ((a, p, j), sx) ((b, q, k), sy) =
    let same : class e ≡ class f = same_kind r x (piece_head e a p) (piece_head f b q) (sym j ∙ k) in
    absurd (omega arith)

-- a text begins with at most one first token of a value: two have one event and one rest
pub same_start : (s : List ℕ) (e f : Step) (r x : List ℕ) → Starts s e r → Starts s f x → (e ≡ f) × (r ≡ x)
same_start s e f r x p q =
    let t : List ℕ = after_run is_space s in
    same_token t e f r x (stands_only (Piece e) s t r (λ b. piece_no_space e b r) refl p.0, p.1)
    (stands_only (Piece f) s t x (λ b. piece_no_space f b x) refl q.0, q.1)

colon : (a w r : List ℕ) → (a ++ (w ++ 58 ∷ [])) ++ r ≡ a ++ (w ++ 58 ∷ r)
colon a w r = simp append_assoc

-- a text begins with at most one name and its colon: two have one text and one rest
pub same_name : (s n m r x : List ℕ) → Names s n r → Names s m x → (n ≡ m) × (r ≡ x)
same_name s n m r x p q =
    let one = same_run (space_run p.text p.white (name_no_space n p.part r p.is_part))
    (space_run q.text q.white (name_no_space m q.part x q.is_part)) in
    let a = p.is_part in let b = q.is_part in
    let two = same_string n m a.spelled b.spelled (a.space ++ 58 ∷ r) (b.space ++ 58 ∷ x) a.is_spelled b.is_spelled
    (sym (ap (λ z. z ++ r) a.text ∙ colon a.spelled a.space r) ∙ one.1 ∙ ap (λ z. z ++ x) b.text
    ∙ colon b.spelled b.space x) in
    let three = same_run (space_run refl a.white refl) (space_run two.1 b.white refl) in
    let four : ◌≡◌ {A = List ℕ} (58 ∷ r) (58 ∷ x) = three.1 in
    (two.0, cc)

-- ---- what spells a value that is due

-- `StandsThen` gives `Stands`, without the fact on the rest
pub stands : {P K : List ℕ → Type 0} (b : List ℕ) (p : StandsThen P K b) → Stands P b p.rest
stands b p = record { space = p.space; part = p.part; text = p.text; white = p.white; is_part = p.is_part }

-- if K holds of the rest of a `Stands`, it is a `StandsThen`
pub standing : {P K : List ℕ → Type 0} (s r : List ℕ) → Stands P s r → K r → StandsThen P K s
standing s r p k =
    record { space = p.space; part = p.part; rest = r; text = p.text; white = p.white; is_part = p.is_part; is_rest = k }

-- whitespace and a token of e spell e before the events that r spells after it
pub starts_on : (e : Step) (st : List Kind) (s r : List ℕ) → Stands (Piece e) s r → (rest : List Step)
    → Spells (first_or_after (is_some (opened_kind e))) rest (with_opened (opened_kind e) st) r → Spells due (e ∷ rest) st s
starts_on step.null st s r p rest k = standing s r p k
starts_on (boolean x) st s r p rest k = standing s r p k
starts_on (string x) st s r p rest k = standing s r p k
starts_on (negative n) st s r p rest k = standing s r p k
starts_on (nonnegative n) st s r p rest k = standing s r p k
starts_on (float x) st s r p rest k = standing s r p k
starts_on seq st s r p rest k = standing s r p k
starts_on map st s r p rest k = standing s r p k
starts_on element st s r p rest k = absurd p.is_part
starts_on (key x) st s r p rest k = absurd p.is_part
starts_on finish st s r p rest k = absurd p.is_part

-- after an opening bracket a container is open: the moment after a token fits the open containers
pub live_at : (o : Option Kind) (st : List Kind) → MomentFits (first_or_after (is_some o)) (with_opened o st)
live_at None st = tt
live_at (Some k) st = tt

head_length : (b r : List ℕ) (k : ℕ) → Head b k → length r < length (b ++ r)
head_length b r k h = let l : length (b ++ r) ≡ length ((h.byte ∷ h.rest) ++ r) = ap (λ z. length (z ++ r)) h.is in
    omega (arith, l, length-append h.rest r)

-- the text after the first token of a value is shorter than the text
pub start_less : (s : List ℕ) (e : Step) (r : List ℕ) → Starts s e r → length r < length s
start_less s e r p =
    let l = head_length p.0.part r (class e) (piece_head e p.0.part p.0.is_part) in
    omega (arith, l, ap length p.0.text, length-append p.0.space (p.0.part ++ r))
