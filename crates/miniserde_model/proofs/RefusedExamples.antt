-- Each of the examples of invalid texts has no tree. The proof takes the text apart up to the byte that no rule
-- allows: the first byte of a value (`at_front`), a byte of a number (`whole_number`), the start of an element
-- (`element_first`), or the first character of a string (`behind_quote`).
use Rattle.std.proofs.Common.{◌≡◌, ℕ, ◌<◌, false, List, [], ◌∷◌, ◌++◌, codes, length, length-append, refl}
use Rattle.std.proofs.Common.{sym, ap, subst, ◌∙◌, append_assoc, append-nil, arith, inl, inr}
use Rattle.std.specs.List.{AllByRecursion}
use Rattle.std.proofs.lemmas.Str.{char_from_byte}
use lib.Utf8.{scalar_cases}
use Rattle.miniserde_model.specs.Tree.{Tree, nonneg, neg, num, str, list}
use Rattle.miniserde_model.specs.Number.{IsDigit, IsInt, IsMinus, IsFraction, IsExponent, IsNumberText}
use Rattle.miniserde_model.specs.String.{quote, IsShortEscape, IsRaw, IsPiece, IsUnit, raw, short, unit, pair, ArePieces, IsString}
use Rattle.miniserde_model.specs.Whitespace.{IsWhitespace}
use Rattle.miniserde_model.specs.Value.{IsValue, IsJson, HasNoTree}
use Rattle.miniserde_model.specs.Bytes.{is_space, is_number_byte, StopsAt}
use Rattle.miniserde_model.specs.Step.{Step, element, finish, child_events}
use Rattle.miniserde_model.specs.Lexing.{IsByte}
use Rattle.miniserde_model.specs.declared.kind.Kind.{Kind}
use Rattle.miniserde_model.specs.declared.kind.Kind.TheVariants.{Seq}
use Rattle.miniserde_model.specs.private.Reading.{due, first, after, StandsThen, Spells}
use Rattle.miniserde_model.specs.Examples.{RefusedTexts}
use Rattle.miniserde_model.proofs.LongestRuns.{AllPass, same_run}
use Rattle.miniserde_model.proofs.Prefixes.{space_run, no_space_run, space_ends_number}
use Rattle.miniserde_model.proofs.Numbers.{number_run}
use Rattle.miniserde_model.proofs.Unique.{kind, leading_kind, kind_below, known_no_space, value_head, value_heads, same_value}
use Rattle.miniserde_model.proofs.TreeEvents.{front_byte_stops, json_spells}
use Rattle.miniserde_model.proofs.ReadBack.{find_value}
use Rattle.miniserde_model.proofs.Examples.{numeral_1, numeral_2}

-- where a text begins with no space, a value stands at its front
record AtFront (c : ℕ) (r : List ℕ) (t : Tree) : Type 0 where
  value : List ℕ
  space : List ℕ
  text : c ∷ r ≡ value ++ space
  is_value : IsValue t value
  white : IsWhitespace space
  of_kind : leading_kind c ≡ kind t

value_kind : (t : Tree) (c : ℕ) (r v x : List ℕ) → IsValue t v → c ∷ r ≡ v ++ x → leading_kind c ≡ kind t
value_kind t c r v x p e =
    let h = value_head t v p in
    let f : ◌≡◌ {A = List ℕ} (c ∷ r) (h.byte ∷ (h.rest ++ x)) = e ∙ ap (λ z. z ++ x) h.is in
    let same : c ≡ h.byte = cc in
    ap leading_kind same ∙ h.of_kind

at_front : (c : ℕ) (r : List ℕ) (t : Tree) → is_space c ≡ false → IsJson (c ∷ r) t → AtFront c r t
at_front c r t s p =
    let split = same_run (no_space_run (c ∷ r) s)
    (space_run p.text p.is_before ((value_heads t).no_space p.inner p.after p.is_inner)) in
    record {
      value = p.inner;
      space = p.after;
      text = split.1;
      is_value = p.is_inner;
      white =
          p.is_after;
      of_kind = value_kind t c r p.inner p.after p.is_inner split.1;
    }

-- a text whose first byte is no space and begins no value
no_value : (c : ℕ) (r : List ℕ) → is_space c ≡ false → leading_kind c ≡ 7 → HasNoTree (c ∷ r)
no_value c r s k t p = let f = at_front c r t s p in omega (arith, k, f.of_kind, kind_below t)

no_text : HasNoTree []
no_text t p =
    let h = value_head t p.inner p.is_inner in
    omega (arith, ap length p.text, length-append p.before (p.inner ++ p.after), length-append p.inner p.after, ap length h.is)

-- numbers

number_of : (t : Tree) (b : List ℕ) → 3 ≡ kind t → IsValue t b → IsNumberText b
number_of (nonneg n) b k p = p.0
number_of (neg z) b k p = p.0
number_of (num x) b k p = p.0
number_of _ b k p = absurd (omega arith)

-- a text of number bytes alone that has a tree is a number text
whole_number : (c : ℕ) (r : List ℕ) (t : Tree) → leading_kind c ≡ 3 → AllPass is_number_byte (c ∷ r)
    → IsJson (c ∷ r) t → IsNumberText (c ∷ r)
whole_number c r t k h p =
    let f = at_front c r t (known_no_space c (omega (arith, k))) p in
    let n = number_of t f.value (sym k ∙ f.of_kind) f.is_value in
    let ends = subst (StopsAt is_number_byte) (append-nil f.space) (space_ends_number f.space [] f.white tt) in
    let run = same_run (number_run f.text n ends) (record { text = sym (append-nil (c ∷ r)); pass = h; stops = tt }) in
    subst IsNumberText run.0 n

unsigned : (c : ℕ) (r m w : List ℕ) → IsMinus m → (c ≡ 45 → ⊥) → c ∷ r ≡ m ++ w → c ∷ r ≡ w
unsigned c r m w (inl h) n e = e ∙ ap (λ z. z ++ w) h
unsigned c r m w (inr h) n e =
    let f : ◌≡◌ {A = List ℕ} (c ∷ r) (45 ∷ w) = e ∙ ap (λ z. z ++ w) h in
    absurd (n (cc))

-- behind the whole part is no digit
no_digit_exponent : (c : ℕ) (r x : List ℕ) → IsExponent x → IsDigit c → c ∷ r ≡ x → ⊥
no_digit_exponent c r x (inl h) d e = cc
no_digit_exponent c r x (inr h) d e = let same : c ≡ h.0 = cc in elim (h.4) [ inl k ↦ omega arith | inr k ↦ omega arith ]

no_digit_behind : {c : ℕ} {r : List ℕ} (f x : List ℕ) → IsFraction f → IsExponent x → IsDigit c → c ∷ r ≡ f ++ x → ⊥
no_digit_behind {c = c} {r = r} f x (inl h) q d e = no_digit_exponent c r x q d (e ∙ ap (λ z. z ++ x) h)
no_digit_behind {c = c} {r = r} f x (inr h) q d e =
    let g : ◌≡◌ {A = List ℕ} (c ∷ r) (46 ∷ (h.0 ++ x)) = e ∙ ap (λ z. z ++ x) h.1 in
    let same : c ≡ 46 = cc in
    omega arith

zero_whole : (c : ℕ) (r w y : List ℕ) → IsInt w → 48 ∷ c ∷ r ≡ w ++ y → c ∷ r ≡ y
zero_whole c r [] y p e = absurd p
zero_whole c r (d ∷ ds) y (inl h) e = let f : c ∷ r ≡ ds ++ y = cc in f ∙ ap (λ z. z ++ y) h.1
zero_whole c r (d ∷ ds) y (inr h) e = let same : 48 ≡ d = cc in absurd (omega arith)

zero_alone : (c : ℕ) (r : List ℕ) → IsDigit c → IsNumberText (48 ∷ c ∷ r) → ⊥
zero_alone c r d n =
    let e = unsigned 48 (c ∷ r) n.minus (n.int ++ (n.fraction ++ n.exponent)) n.is_minus (λ k. omega arith) n.text in
    no_digit_behind n.fraction n.exponent n.is_fraction n.is_exponent d (zero_whole c r n.int (n.fraction ++ n.exponent) n.is_int e)

leading_zero : HasNoTree (codes "01")
leading_zero t p = zero_alone 49 [] (omega arith, omega arith) (whole_number 48 (codes "1") t refl (refl, (refl, tt)) p)

no_point_exponent : (x : List ℕ) → IsExponent x → 46 ∷ [] ≡ x → ⊥
no_point_exponent x (inl h) e = cc
no_point_exponent x (inr h) e = let same : 46 ≡ h.0 = cc in elim (h.4) [ inl k ↦ omega arith | inr k ↦ omega arith ]

lone_point : (f x : List ℕ) → IsFraction f → IsExponent x → 46 ∷ [] ≡ f ++ x → ⊥
lone_point f x (inl h) q e = no_point_exponent x q (e ∙ ap (λ z. z ++ x) h)
lone_point f x (inr h) q e =
    let g : ◌≡◌ {A = List ℕ} (46 ∷ []) (46 ∷ (h.0 ++ x)) = e ∙ ap (λ z. z ++ x) h.1 in
    omega (arith, ap length g, length-append h.0 x, h.2.0)

point_behind : (ds y : List ℕ) → AllByRecursion IsDigit ds → 46 ∷ [] ≡ ds ++ y → 46 ∷ [] ≡ y
point_behind [] y h e = e
point_behind (d ∷ ds) y h e = let same : 46 ≡ d = cc in absurd (omega (arith, h.0.0))

one_point : (w y : List ℕ) → IsInt w → 49 ∷ 46 ∷ [] ≡ w ++ y → 46 ∷ [] ≡ y
one_point [] y p e = absurd p
one_point (d ∷ ds) y (inl h) e = let same : ◌≡◌ {A = ℕ} 49 d = cc in absurd (omega arith)
one_point (d ∷ ds) y (inr h) e = let f : 46 ∷ [] ≡ ds ++ y = cc in point_behind ds y h.1 f

no_fraction_digits : HasNoTree (codes "1.")
no_fraction_digits t p =
    let n = whole_number 49 (codes ".") t refl (refl, (refl, tt)) p in
    let e = unsigned 49 (codes ".") n.minus (n.int ++ (n.fraction ++ n.exponent)) n.is_minus (λ k. omega arith) n.text in
    lone_point n.fraction n.exponent n.is_fraction n.is_exponent (one_point n.int (n.fraction ++ n.exponent) n.is_int e)

-- lists, one byte or value after another

front_byte : (c d : ℕ) (r : List ℕ) (K : List ℕ → Type 0) → is_space c ≡ false → is_space d ≡ false
    → StandsThen (IsByte d) K (c ∷ r) → (c ≡ d) × K r
front_byte c d r K hc hd p =
    let stop : StopsAt is_space (p.part ++ p.rest) = rw (p.is_part) hd in
    let split = same_run (no_space_run (c ∷ r) hc) (space_run p.text p.white stop) in
    let f : ◌≡◌ {A = List ℕ} (c ∷ r) (d ∷ p.rest) = split.1 ∙ ap (λ z. z ++ p.rest) p.is_part in
    let rest : r ≡ p.rest = cc in
    (cc, subst K (sym rest) p.is_rest)

no_value_due : (c : ℕ) (r : List ℕ) (es : List Step) (st : List Kind) → is_space c ≡ false → leading_kind c ≡ 7
    → Spells due es st (c ∷ r) → ⊥
no_value_due c r es st s k p =
    let v = find_value (length es) es st (c ∷ r) (omega arith) p in
    let split = same_run (no_space_run (c ∷ r) s)
    (space_run v.text v.white ((value_heads v.found).no_space v.value v.rest v.is_value)) in
    omega (arith, k, value_kind v.found c r v.value v.rest v.is_value split.1, kind_below v.found)

opened : (r : List ℕ) (t : Tree) → 5 ≡ kind t → IsJson (91 ∷ r) t → (es : List Step) × Spells first es (Seq ∷ []) r
opened r (list ts) k p = (child_events ts ++ finish ∷ [], (front_byte 91 91 r _ refl refl (json_spells (91 ∷ r) (list ts) p)).1)
opened r _ k p = absurd (omega arith)

-- behind `[`
list_opened : (r : List ℕ) (t : Tree) → IsJson (91 ∷ r) t → (es : List Step) × Spells first es (Seq ∷ []) r
list_opened r t p = opened r t (at_front 91 r t refl p).of_kind p

-- a byte that is no `]` begins an element
element_first : (c : ℕ) (r : List ℕ) (es : List Step) (st : List Kind) → is_space c ≡ false → (c ≡ 93 → ⊥)
    → Spells first es (Seq ∷ st) (c ∷ r) → (left : List Step) × Spells due left (Seq ∷ st) (c ∷ r)
element_first c r (element ∷ es) st s n p = (es, p)
element_first c r (finish ∷ es) st s n p = absurd (n (front_byte c 93 r _ s refl p).0)
element_first c r _ st s n p = absurd p

comma_after : (r : List ℕ) (es : List Step) (st : List Kind) → Spells after es (Seq ∷ st) (44 ∷ r)
    → (left : List Step) × Spells due left (Seq ∷ st) r
comma_after r (element ∷ es) st p = (es, (front_byte 44 44 r _ refl refl p).1)
comma_after r (finish ∷ es) st p = let same : ◌≡◌ {A = ℕ} 44 93 = (front_byte 44 93 r _ refl refl p).0 in absurd (omega arith)
comma_after r _ st p = absurd p

-- behind an element no number goes on
element_stops : (es : List Step) (st : List Kind) (b : List ℕ) → Spells after es (Seq ∷ st) b → StopsAt is_number_byte b
element_stops (element ∷ es) st b p = front_byte_stops 44 _ b refl p
element_stops (finish ∷ es) st b p = front_byte_stops 93 _ b refl p
element_stops _ st b p = absurd p

-- a value and a comma
value_comma : (t : Tree) (b r : List ℕ) (es : List Step) (st : List Kind) → IsValue t b
    → Spells due es (Seq ∷ st) (b ++ 44 ∷ r) → (left : List Step) × Spells due left (Seq ∷ st) r
value_comma t b r es st v p =
    let f = find_value (length es) es (Seq ∷ st) (b ++ 44 ∷ r) (omega arith) p in
    let front = same_run (no_space_run (b ++ 44 ∷ r) ((value_heads t).no_space b (44 ∷ r) v))
    (space_run f.text f.white ((value_heads f.found).no_space f.value f.rest f.is_value)) in
    let same = same_value t f.found b f.value (44 ∷ r) f.rest v f.is_value refl
    (element_stops f.left st f.rest f.is_rest) front.1 in
    comma_after r f.left st (subst (Spells after f.left (Seq ∷ st)) (sym same.1) f.is_rest)

wrong_bracket : HasNoTree (codes "[}")
wrong_bracket t p =
    let inside = list_opened (codes "}") t p in
    let f = element_first 125 [] inside.0 [] refl (λ e. omega arith) inside.1 in
    no_value_due 125 [] f.0 (Seq ∷ []) refl refl f.1

last_comma : HasNoTree (codes "[1,2,]")
last_comma t p =
    let inside = list_opened (codes "1,2,]") t p in
    let at_1 = element_first 49 (codes ",2,]") inside.0 [] refl (λ e. omega arith) inside.1 in
    let at_2 = value_comma (nonneg 1) (codes "1") (codes "2,]") at_1.0 [] numeral_1 at_1.1 in
    let at_end = value_comma (nonneg 2) (codes "2") (codes "]") at_2.0 [] numeral_2 at_2.1 in
    no_value_due 93 [] at_end.0 (Seq ∷ []) refl refl at_end.1

-- strings

string_of : (t : Tree) (b : List ℕ) → 4 ≡ kind t → IsValue t b → (s : List ℕ) × IsString b s
string_of (str s) b k p = (s, p)
string_of _ b k p = absurd (omega arith)

-- the first character of a string
record FirstPiece (b : List ℕ) : Type 0 where
  piece : List ℕ
  rest : List ℕ
  character : ℕ
  text : piece ++ rest ≡ b
  is_piece : IsPiece piece character

first_piece : {z : ℕ} {r : List ℕ} (y inside cs : List ℕ) → (z ≡ 34 → ⊥) → ArePieces inside cs → inside ++ 34 ∷ y ≡ z ∷ r
    → FirstPiece (z ∷ r)
first_piece {z = z} {r = r} y inside [] n p e = let f : ◌≡◌ {A = List ℕ} (34 ∷ y) (z ∷ r) = ap (λ w. w ++ 34 ∷ y) (sym p) ∙ e in
    let same : z ≡ 34 = cc in absurd (n same)
first_piece y inside (c ∷ cs) n p e =
    record {
      piece = p.0;
      rest = p.1 ++ 34 ∷ y;
      character = c;
      text =
          sym (append_assoc p.0 p.1 (34 ∷ y)) ∙ ap (λ w. w ++ 34 ∷ y) (sym p.2) ∙ e;
      is_piece = p.3;
    }

behind_quote : (z : ℕ) (r : List ℕ) (t : Tree) → (z ≡ 34 → ⊥) → IsJson (34 ∷ z ∷ r) t → FirstPiece (z ∷ r)
behind_quote z r t n p =
    let f = at_front 34 (z ∷ r) t refl p in
    let s = string_of t f.value f.of_kind f.is_value in
    let g : ◌≡◌ {A = List ℕ} (34 ∷ (s.1.inside ++ 34 ∷ f.space)) (34 ∷ z ∷ r) =
    ap (λ w. 34 ∷ w) (sym (append_assoc s.1.inside (34 ∷ []) f.space)) ∙ ap (λ w. w ++ f.space) (sym s.1.text)
    ∙ sym f.text in
    first_piece f.space s.1.inside s.1.characters n s.1.pieces (cc)

-- a character that stands for itself, where its first byte is ASCII
raw_byte : {a : List ℕ} (x : List ℕ) {r : List ℕ} {c : ℕ} (z : ℕ) → z < 128 → IsRaw a c → a ++ x ≡ z ∷ r → c ≡ z
raw_byte x {r = r} {c = c} z low p e = char_from_byte (z ∷ r) x c (sym e ∙ ap (λ w. w ++ x) p.text) low (omega arith)

control_no_piece : {a : List ℕ} (x : List ℕ) {r : List ℕ} {c : ℕ} (z : ℕ) → z < 32 → IsPiece a c → a ++ x ≡ z ∷ r → ⊥
control_no_piece x {r = r} {c = c} z low (raw p) e = let same = raw_byte x z (omega arith) p e in omega (arith, p.printable)
control_no_piece x {r = r} {c = c} z low (short l s k) e =
    let f : ◌≡◌ {A = List ℕ} (92 ∷ l ∷ x) (z ∷ r) = ap (λ w. w ++ x) (sym k) ∙ e in
    let same : 92 ≡ z = cc in
    omega arith
control_no_piece x {r = r} {c = c} z low (unit s p) e =
    let f : ◌≡◌ {A = List ℕ} (92 ∷ 117 ∷ p.d3 ∷ p.d2 ∷ p.d1 ∷ p.d0 ∷ x) (z ∷ r) = ap (λ w. w ++ x) (sym p.text) ∙ e in
    let same : 92 ≡ z = cc in
    omega arith
control_no_piece x {r = r} {c = c} z low (pair p) e =
    let u = p.is_first in
    let f : ◌≡◌ {A = List ℕ} (92 ∷ 117 ∷ u.d3 ∷ u.d2 ∷ u.d1 ∷ u.d0 ∷ (p.second ++ x)) (z ∷ r) =
    ap (λ w. w ++ (p.second ++ x)) (sym u.text) ∙ sym (append_assoc p.first p.second x) ∙ ap (λ w. w ++ x) (sym p.text) ∙ e in
    let same : 92 ≡ z = cc in
    omega arith

control_byte : HasNoTree (34 ∷ 0x1F ∷ 34 ∷ [])
control_byte t p = let f = behind_quote 31 (34 ∷ []) t (λ e. omega arith) p in
    control_no_piece f.rest 31 (omega arith) f.is_piece f.text

short_not_u : (l c : ℕ) → IsShortEscape l c → l ≡ 117 → ⊥
short_not_u l c quote e = omega arith
short_not_u l c _ e = omega arith

-- the escape `\ud800` stands for 0xD800
unit_value : {b : List ℕ} {u : ℕ} (p : IsUnit b u) → p.d3 ≡ 100 → p.d2 ≡ 56 → p.d1 ≡ 48 → p.d0 ≡ 48 → u ≡ 0xD800
unit_value p e3 e2 e1 e0 = rw (e3, e2, e1, e0) at p.value

no_lone_surrogate : (a x r : List ℕ) (c : ℕ) → IsPiece a c → a ++ x ≡ 92 ∷ 117 ∷ 100 ∷ 56 ∷ 48 ∷ 48 ∷ 34 ∷ r → ⊥
no_lone_surrogate a x r c (raw p) e = p.not_backslash (raw_byte x 92 (omega arith) p e)
no_lone_surrogate a x r c (short l s k) e =
    let f : ◌≡◌ {A = List ℕ} (92 ∷ l ∷ x) (92 ∷ 117 ∷ 100 ∷ 56 ∷ 48 ∷ 48 ∷ 34 ∷ r) = ap (λ w. w ++ x) (sym k) ∙ e in
    short_not_u l c s (cc)
no_lone_surrogate a x r c (unit s p) e =
    let f : ◌≡◌ {A = List ℕ} (92 ∷ 117 ∷ p.d3 ∷ p.d2 ∷ p.d1 ∷ p.d0 ∷ x) (92 ∷ 117 ∷ 100 ∷ 56 ∷ 48 ∷ 48 ∷ 34 ∷ r) =
    ap (λ w. w ++ x) (sym p.text) ∙ e in
    let value = unit_value p (cc) (cc) (cc) (cc) in
    elim (scalar_cases c s) [ inl low ↦ omega arith | inr high ↦ omega arith ]
no_lone_surrogate a x r c (pair p) e =
    let u = p.is_first in
    let v = p.is_second in
    let f : ◌≡◌ {A = List ℕ} (92 ∷ 117 ∷ u.d3 ∷ u.d2 ∷ u.d1 ∷ u.d0 ∷ (p.second ++ x))
    (92 ∷ 117 ∷ 100 ∷ 56 ∷ 48 ∷ 48 ∷ 34 ∷ r) =
    ap (λ w. w ++ (p.second ++ x)) (sym u.text) ∙ sym (append_assoc p.first p.second x) ∙ ap (λ w. w ++ x)
    (sym p.text) ∙ e in
    let rest : p.second ++ x ≡ 34 ∷ r = cc in
    let g : ◌≡◌ {A = List ℕ} (92 ∷ 117 ∷ v.d3 ∷ v.d2 ∷ v.d1 ∷ v.d0 ∷ x) (34 ∷ r) = ap (λ w. w ++ x) (sym v.text) ∙ rest in
    let same : ◌≡◌ {A = ℕ} 92 34 = cc in
    omega arith

lone_surrogate : HasNoTree (codes "\"\\ud800\"")
lone_surrogate t p = let f = behind_quote 92 (codes "ud800\"") t (λ e. omega arith) p in
    no_lone_surrogate f.piece f.rest [] f.character f.is_piece f.text

-- no text of `RefusedTexts` spells a tree
pub refused_texts : RefusedTexts
refused_texts = record {
  empty = no_text;
  form_feed = no_value 12 (49 ∷ []) refl refl;
  plus_sign = no_value 43 (codes "1") refl refl;
  no_whole_part = no_value 46 (codes "5") refl refl;
  leading_zero = leading_zero;
  no_fraction_digits = no_fraction_digits;
  wrong_bracket = wrong_bracket;
  last_comma = last_comma;
  lone_surrogate = lone_surrogate;
  control_byte = control_byte;
}
