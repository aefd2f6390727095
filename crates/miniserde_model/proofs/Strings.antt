-- A text begins with at most one string. By recursion over the characters: `same_piece` compares the two pieces at
-- the front, by their kinds, and no piece begins with a quote (`piece_no_quote`).
use Rattle.std.proofs.Common.{◌≡◌, ℕ, List, [], ◌∷◌, ◌++◌, refl, sym, ap, subst, ◌∙◌, append_assoc, arith, inl, inr}
use Rattle.std.specs.Char.{IsScalar}
use Rattle.std.proofs.lemmas.Str.{encode_same, char_from_byte}
use lib.Utf8.{scalar_cases}
use Rattle.miniserde_model.specs.String.{IsRaw, IsShortEscape, quote, backslash, slash, backspace, form_feed}
use Rattle.miniserde_model.specs.String.{line_feed, carriage_return, tab, IsUnit, IsPair, IsPiece, raw, short, unit}
use Rattle.miniserde_model.specs.String.{pair, ArePieces, IsString}
use Rattle.miniserde_model.proofs.Prefixes.{PrefixFree}

same_short : (l c d : ℕ) → IsShortEscape l c → IsShortEscape l d → c ≡ d
same_short l c d quote quote = refl
same_short l c d backslash backslash = refl
same_short l c d slash slash = refl
same_short l c d backspace backspace = refl
same_short l c d form_feed form_feed = refl
same_short l c d line_feed line_feed = refl
same_short l c d carriage_return carriage_return = refl
same_short l c d tab tab = refl

no_short_u : (l c : ℕ) → IsShortEscape l c → l ≡ 117 → ⊥
no_short_u l c quote e = omega arith
no_short_u l c _ e = omega arith

same_unit : (u v : ℕ) → PrefixFree (λ a. IsUnit a u) (λ b. IsUnit b v) (u ≡ v)
same_unit u v a b x y p q e =
    let f : ◌≡◌ {A = List ℕ} (92 ∷ 117 ∷ p.d3 ∷ p.d2 ∷ p.d1 ∷ p.d0 ∷ x) (92 ∷ 117 ∷ q.d3 ∷ q.d2 ∷ q.d1 ∷ q.d0 ∷ y) =
    ap (λ z. z ++ x) (sym p.text) ∙ e ∙ ap (λ z. z ++ y) q.text in
    let s3 : p.d3 ≡ q.d3 = cc in
    let s2 : p.d2 ≡ q.d2 = cc in
    let s1 : p.d1 ≡ q.d1 = cc in
    let s0 : p.d0 ≡ q.d0 = cc in
    (cc, cc)

same_pair : (c d : ℕ) → PrefixFree (λ a. IsPair a c) (λ b. IsPair b d) (c ≡ d)
same_pair c d a b x y p q e =
    let f : p.first ++ (p.second ++ x) ≡ q.first ++ (q.second ++ y) =
    sym (append_assoc p.first p.second x) ∙ ap (λ z. z ++ x) (sym p.text) ∙ e ∙ ap (λ z. z ++ y) q.text
    ∙ append_assoc q.first q.second y in
    let one = same_unit p.high q.high p.first q.first _ _ p.is_first q.is_first f in
    let two = same_unit p.low q.low p.second q.second _ _ p.is_second q.is_second one.1 in
    (cc, two.1)

-- a character that stands for itself begins no escape
raw_no_escape : (a x r : List ℕ) (c : ℕ) → IsRaw a c → a ++ x ≡ 92 ∷ r → ⊥
raw_no_escape a x r c p e = p.not_backslash (char_from_byte (92 ∷ r) x c (sym e ∙ ap (λ z. z ++ x) p.text) (omega arith) (omega arith))

-- a `\u` escape alone is no surrogate, and one of a pair is
unit_no_pair : {a b : List ℕ} (x y : List ℕ) {c d : ℕ} → IsScalar c → IsUnit a c → IsPair b d → a ++ x ≡ b ++ y → ⊥
unit_no_pair {a = a} x y {c = c} s p q e =
    let f : a ++ x ≡ q.first ++ (q.second ++ y) = e ∙ ap (λ z. z ++ y) q.text ∙ append_assoc q.first q.second y in
    let one = same_unit c q.high a q.first x (q.second ++ y) p q.is_first f in
    let same : c ≡ q.high = one.0 in
    elim (scalar_cases c s) [ inl low ↦ omega arith | inr high ↦ omega arith ]

-- what an escape is told by: its first two bytes
pub record Escape (l : ℕ) (a x : List ℕ) : Type 0 where
  tail : List ℕ
  is : a ++ x ≡ 92 ∷ l ∷ tail

unit_escape : (a x : List ℕ) (u : ℕ) → IsUnit a u → Escape 117 a x
unit_escape a x u p = record { tail = p.d3 ∷ p.d2 ∷ p.d1 ∷ p.d0 ∷ x; is = ap (λ z. z ++ x) p.text }

pair_escape : (a x : List ℕ) (c : ℕ) → IsPair a c → Escape 117 a x
pair_escape a x c p = record {
  tail = p.is_first.d3 ∷ p.is_first.d2 ∷ p.is_first.d1 ∷ p.is_first.d0 ∷ (p.second ++ x);
  is =
      ap (λ z. z ++ x) p.text ∙ append_assoc p.first p.second x ∙ ap (λ z. z ++ (p.second ++ x)) p.is_first.text;
}

short_no_u : {a b : List ℕ} (x : List ℕ) {y : List ℕ} {l c : ℕ} → IsShortEscape l c → a ≡ 92 ∷ l ∷ [] → Escape 117 b y → a ++ x ≡ b ++ y → ⊥
short_no_u x {l = l} {c = c} s t u e =
    let f : ◌≡◌ {A = List ℕ} (92 ∷ l ∷ x) (92 ∷ 117 ∷ u.tail) = ap (λ z. z ++ x) (sym t) ∙ e ∙ u.is in
    no_short_u l c s (cc)

-- if a stands for c and b for d, and `a ++ x` is `b ++ y`, then c is d and x is y
pub same_piece : (c d : ℕ) → PrefixFree (λ a. IsPiece a c) (λ b. IsPiece b d) (c ≡ d)
same_piece c d a b x y (raw p) (raw q) e = encode_same c d x y (ap (λ z. z ++ x) (sym p.text) ∙ e ∙ ap (λ z. z ++ y) q.text)
same_piece c d a b x y (raw p) (short l s t) e = absurd (raw_no_escape a x (l ∷ y) c p (e ∙ ap (λ z. z ++ y) t))
same_piece c d a b x y (raw p) (unit s q) e = absurd (raw_no_escape a x _ c p (e ∙ (unit_escape b y d q).is))
same_piece c d a b x y (raw p) (pair q) e = absurd (raw_no_escape a x _ c p (e ∙ (pair_escape b y d q).is))
same_piece c d a b x y (short l s t) (raw q) e = absurd (raw_no_escape b y (l ∷ x) d q (sym e ∙ ap (λ z. z ++ x) t))
same_piece c d a b x y (unit s p) (raw q) e = absurd (raw_no_escape b y _ d q (sym e ∙ (unit_escape a x c p).is))
same_piece c d a b x y (pair p) (raw q) e = absurd (raw_no_escape b y _ d q (sym e ∙ (pair_escape a x c p).is))
same_piece c d a b x y (short l s t) (short k r u) e =
    let f : ◌≡◌ {A = List ℕ} (92 ∷ l ∷ x) (92 ∷ k ∷ y) = ap (λ z. z ++ x) (sym t) ∙ e ∙ ap (λ z. z ++ y) u in
    let same : l ≡ k = cc in
    (same_short k c d (subst (λ z. IsShortEscape z c) same s) r, cc)
same_piece c d a b x y (short l s t) (unit r q) e = absurd (short_no_u x s t (unit_escape b y d q) e)
same_piece c d a b x y (short l s t) (pair q) e = absurd (short_no_u x s t (pair_escape b y d q) e)
same_piece c d a b x y (unit r p) (short l s t) e = absurd (short_no_u y s t (unit_escape a x c p) (sym e))
same_piece c d a b x y (pair p) (short l s t) e = absurd (short_no_u y s t (pair_escape a x c p) (sym e))
same_piece c d a b x y (unit s p) (unit r q) e = same_unit c d a b x y p q e
same_piece c d a b x y (unit s p) (pair q) e = absurd (unit_no_pair x y s p q e)
same_piece c d a b x y (pair p) (unit s q) e = absurd (unit_no_pair y x s q p (sym e))
same_piece c d a b x y (pair p) (pair q) e = same_pair c d a b x y p q e

-- no piece begins with a quote
piece_no_quote : (a x r : List ℕ) (c : ℕ) → IsPiece a c → a ++ x ≡ 34 ∷ r → ⊥
piece_no_quote a x r c (raw p) e = p.not_quote (char_from_byte (34 ∷ r) x c (sym e ∙ ap (λ z. z ++ x) p.text) (omega arith) (omega arith))
piece_no_quote a x r c (short l s t) e = let f : ◌≡◌ {A = List ℕ} (92 ∷ l ∷ x) (34 ∷ r) =
    ap (λ z. z ++ x) (sym t) ∙ e in let n : ◌≡◌ {A = ℕ} 92 34 = cc in omega arith
piece_no_quote a x r c (unit s p) e = let u = unit_escape a x c p in
    let f : ◌≡◌ {A = List ℕ} (92 ∷ 117 ∷ u.tail) (34 ∷ r) = sym u.is ∙ e in let n : ◌≡◌ {A = ℕ} 92 34 =
    cc in omega arith
piece_no_quote a x r c (pair p) e = let u = pair_escape a x c p in
    let f : ◌≡◌ {A = List ℕ} (92 ∷ 117 ∷ u.tail) (34 ∷ r) = sym u.is ∙ e in let n : ◌≡◌ {A = ℕ} 92 34 =
    cc in omega arith

pub same_pieces : (cs ds a b : List ℕ) {x y : List ℕ} → ArePieces a cs → ArePieces b ds → a ++ 34 ∷ x ≡ b ++ 34 ∷ y → (cs ≡ ds) × (x ≡ y)
same_pieces [] [] a b {x = x} {y = y} p q e =
    let f : ◌≡◌ {A = List ℕ} (34 ∷ x) (34 ∷ y) = ap (λ z. z ++ 34 ∷ x) (sym p) ∙ e ∙ ap (λ z. z ++ 34 ∷ y) q in
    (refl, cc)
same_pieces [] (d ∷ ds) a b {x = x} {y = y} p q e =
    absurd (piece_no_quote q.0 (q.1 ++ 34 ∷ y) x d q.3
    (sym (append_assoc q.0 q.1 (34 ∷ y)) ∙ ap (λ z. z ++ 34 ∷ y) (sym q.2) ∙ sym e ∙ ap (λ z. z ++ 34 ∷ x) p))
same_pieces (c ∷ cs) [] a b {x = x} {y = y} p q e =
    absurd (piece_no_quote p.0 (p.1 ++ 34 ∷ x) y c p.3
    (sym (append_assoc p.0 p.1 (34 ∷ x)) ∙ ap (λ z. z ++ 34 ∷ x) (sym p.2) ∙ e ∙ ap (λ z. z ++ 34 ∷ y) q))
same_pieces (c ∷ cs) (d ∷ ds) a b {x = x} {y = y} p q e =
    let f : p.0 ++ (p.1 ++ 34 ∷ x) ≡ q.0 ++ (q.1 ++ 34 ∷ y) =
    sym (append_assoc p.0 p.1 (34 ∷ x)) ∙ ap (λ z. z ++ 34 ∷ x) (sym p.2) ∙ e ∙ ap (λ z. z ++ 34 ∷ y) q.2
    ∙ append_assoc q.0 q.1 (34 ∷ y) in
    let one = same_piece c d p.0 q.0 _ _ p.3 q.3 f in
    let more = same_pieces cs ds p.1 q.1 p.4 q.4 one.1 in
    (cc, more.1)

-- no text that spells a string begins another
pub same_string : (s t : List ℕ) → PrefixFree (λ a. IsString a s) (λ b. IsString b t) (s ≡ t)
same_string s t a b x y p q e =
    let f : ◌≡◌ {A = List ℕ} (34 ∷ (p.inside ++ 34 ∷ x)) (34 ∷ (q.inside ++ 34 ∷ y)) =
    ap (λ z. 34 ∷ z) (sym (append_assoc p.inside (34 ∷ []) x)) ∙ ap (λ z. z ++ x) (sym p.text) ∙ e
    ∙ ap (λ z. z ++ y) q.text ∙ ap (λ z. 34 ∷ z) (append_assoc q.inside (34 ∷ []) y) in
    let g : p.inside ++ 34 ∷ x ≡ q.inside ++ 34 ∷ y = cc in
    let both = same_pieces p.characters q.characters p.inside q.inside p.pieces q.pieces g in
    (cc, both.1)
