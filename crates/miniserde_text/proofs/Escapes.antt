-- Reading an escape takes exactly the escapes of the grammar. By cases on the letter behind the backslash:
-- `escape_takes` shows that each escape read is a piece of the grammar, and `piece_cases` that each such piece is
-- read.
use Rattle.std.proofs.Common.{◌≡◌, ℕ, ◌+◌, ◌*◌, ◌<◌, ◌≤◌, ◌==◌, Bool, true, false, cond, List, [], ◌∷◌, ◌++◌}
use Rattle.std.proofs.Common.{length, drop, Some, None, refl, ap, sym, subst, ◌∙◌, inl, inr, arith, append_assoc}
use Rattle.std.proofs.Common.{eqb-true, ltb-true}
use Rattle.std.specs.Prelude.{◌⊎◌, ◌&&◌, ◌||◌, slice_index, option_and_then, option_map}
use Rattle.std.specs.Char.{digit_value, IsScalar, OutOfScalarRange}
use Rattle.std.proofs.lemmas.Bool.Decides.{nat_tests}
use Rattle.std.proofs.lemmas.Bool.{true≢false}
use Rattle.std.proofs.lemmas.List.{get_or_past}
use lib.Utf8.{scalar_cases}
use Rattle.miniserde_model.specs.String.{IsRaw, IsShortEscape, quote, backslash, slash, backspace, form_feed}
use Rattle.miniserde_model.specs.String.{line_feed, carriage_return, tab, IsUnit, IsPair, IsPiece, raw, short, unit}
use Rattle.miniserde_model.specs.String.{pair}
use Rattle.miniserde_text.specs.private.Reading.{is_hex, is_high, is_low, begins_code_unit, code_unit_at}
use Rattle.miniserde_text.specs.private.Reading.{begins_unicode_escape, pair_of, low_at, unicode_at, short_at}
use Rattle.miniserde_text.specs.private.Reading.{escape_at}
use Rattle.miniserde_text.proofs.ByteRuns.{or_true}
use Rattle.std.proofs.lemmas.Option.{cond_some, same_Some}
use Rattle.miniserde_text.proofs.Options.{chosen, none_if, then_if, map_some, bind_some, first_byte, and_parts}

-- ---- what is read

four : (s : List ℕ) → is_hex (slice_index s 0) ≡ true → is_hex (slice_index s 1) ≡ true
    → is_hex (slice_index s 2) ≡ true → is_hex (slice_index s 3) ≡ true
    → s ≡ slice_index s 0 ∷ slice_index s 1 ∷ slice_index s 2 ∷ slice_index s 3 ∷ drop 4 s
four [] a b c d = absurd (true≢false (sym a))
four (x ∷ []) a b c d = absurd (true≢false (sym b))
four (x ∷ y ∷ []) a b c d = absurd (true≢false (sym c))
four (x ∷ y ∷ z ∷ []) a b c d = absurd (true≢false (sym d))
four (x ∷ y ∷ z ∷ w ∷ s) a b c d = refl

abbrev value_of : List ℕ → ℕ
value_of s = digit_value (slice_index s 0) * 4096 + digit_value (slice_index s 1) * 256 + digit_value
    (slice_index s 2) * 16 + digit_value (slice_index s 3)

and_no : (b : Bool) → (b && false) ≡ false
and_no true = refl
and_no false = refl

-- fewer than four bytes are no unit
pub few_bytes : (s : List ℕ) → length s < 4 → code_unit_at s ≡ None
few_bytes s h =
    let three : is_hex (slice_index s 3) ≡ false = ap is_hex (get_or_past s 3 0 (omega arith)) in
    ap (λ b. cond b (Some (value_of s, drop 4 s)) None)
    (ap (λ b. is_hex (slice_index s 0) && is_hex (slice_index s 1) && is_hex (slice_index s 2) && b) three
    ∙ and_no _)

hex_of : (c : ℕ) → is_hex c ≡ true → digit_value c < 16
hex_of c h = ltb-true (digit_value c) 16 h

hex_passes : (c : ℕ) → digit_value c < 16 → is_hex c ≡ true
hex_passes c h = grind (arith, nat_tests)

small_if : (h : Bool) (v n : ℕ) → n ≡ cond h v 65536 → n < 65536 → (h ≡ true) × (n ≡ v)
small_if true v n e l = (refl, e)
small_if false v n e l = absurd (omega (arith, e, l))

small_entry : (c n : ℕ) → n ≡ cond (is_hex c) (digit_value c) 65536 → n < 65536 → (is_hex c ≡ true) × (n ≡ digit_value c)
small_entry c n e l = small_if (is_hex c) (digit_value c) n e l

digit_below : (c n : ℕ) → n ≡ cond (is_hex c) (digit_value c) 65536 → is_hex c ≡ true → n < 16
digit_below c n e h = omega (arith, e ∙ ap (λ b. cond b (digit_value c) 65536) h, hex_of c h)

-- Each of a, b, c and d is the value of a byte at the front of s if it is a hexadecimal digit, and else 65536. If their
-- sum is below 65536, all four are digits and the sum is the code unit (`unit_of`); if not, s begins with none
-- (`no_unit`).
module _ (s : List ℕ) (a b c d : ℕ) (ea : a ≡ cond (is_hex (slice_index s 0)) (digit_value (slice_index s 0)) 65536)
    (eb : b ≡ cond (is_hex (slice_index s 1)) (digit_value (slice_index s 1)) 65536)
    (ec : c ≡ cond (is_hex (slice_index s 2)) (digit_value (slice_index s 2)) 65536)
    (ed : d ≡ cond (is_hex (slice_index s 3)) (digit_value (slice_index s 3)) 65536) where
  pub unit_of : (r : List ℕ) → r ≡ drop 4 s → a * 4096 + b * 256 + c * 16 + d < 65536
      → Some (a * 4096 + b * 256 + c * 16 + d, r) ≡ code_unit_at s
  unit_of r e small =
      let pa = small_entry (slice_index s 0) a ea (omega (arith, small)) in
      let pb = small_entry (slice_index s 1) b eb (omega (arith, small)) in
      let pc = small_entry (slice_index s 2) c ec (omega (arith, small)) in
      let pd = small_entry (slice_index s 3) d ed (omega (arith, small)) in
      let same : a * 4096 + b * 256 + c * 16 + d ≡ value_of s = omega (arith, pa.1, pb.1, pc.1, pd.1) in
      let pair : Some (a * 4096 + b * 256 + c * 16 + d, r) ≡ Some (value_of s, drop 4 s) = cc (same, e) in
      rw (pa.0, pb.0, pc.0, pd.0) pair

  no_unit_if : (h : Bool) → begins_code_unit s ≡ h → 65536 ≤ a * 4096 + b * 256 + c * 16 + d → None ≡ code_unit_at s
  no_unit_if false e large = sym (ap (λ h. cond h (Some (value_of s, drop 4 s)) None) e)
  no_unit_if true e large =
      let three = and_parts _ (is_hex (slice_index s 3)) e in
      let two = and_parts _ (is_hex (slice_index s 2)) three.0 in
      let one = and_parts (is_hex (slice_index s 0)) (is_hex (slice_index s 1)) two.0 in
      absurd (omega (
        arith,
        large,
        digit_below (slice_index s 0) a ea one.0,
        digit_below (slice_index s 1) b eb one.1,
        digit_below (slice_index s 2) c ec two.1,
        digit_below (slice_index s 3) d ed three.1,
      ))

  pub no_unit : 65536 ≤ a * 4096 + b * 256 + c * 16 + d → None ≡ code_unit_at s
  no_unit large = no_unit_if (begins_code_unit s) refl large

-- four digits of u stand in front
record TakesUnit (s : List ℕ) (u : ℕ) (r : List ℕ) : Type 0 where
  digits : List ℕ
  is_unit : IsUnit (92 ∷ 117 ∷ digits) u
  text : s ≡ digits ++ r

unit_takes : (s : List ℕ) (u : ℕ) (r : List ℕ) → code_unit_at s ≡ Some (u, r) → TakesUnit s u r
unit_takes s u r e =
    let q = cond_some (begins_code_unit s) (value_of s, drop 4 s) (u, r) e in
    let c = and_parts _ (is_hex (slice_index s 3)) q.0 in
    let b = and_parts _ (is_hex (slice_index s 2)) c.0 in
    let a = and_parts (is_hex (slice_index s 0)) (is_hex (slice_index s 1)) b.0 in
    let one : IsUnit (92 ∷ 117 ∷ slice_index s 0 ∷ slice_index s 1 ∷ slice_index s 2 ∷ slice_index s 3 ∷ []) u = record {
      d3 = slice_index s 0;
      d2 = slice_index s 1;
      d1 = slice_index s 2;
      d0 = slice_index s 3;
      hex3 = hex_of (slice_index s 0) a.0;
      hex2 = hex_of (slice_index s 1) a.1;
      hex1 = hex_of (slice_index s 2) b.1;
      hex0 = hex_of (slice_index s 3) c.1;
      text = refl;
      value = sym (ap (λ x. x.0) q.1);
    } in
    record {
      digits = slice_index s 0 ∷ slice_index s 1 ∷ slice_index s 2 ∷ slice_index s 3 ∷ [];
      is_unit = one;
      text = four s a.0 a.1 b.1 c.1 ∙ ap (λ x. slice_index s 0 ∷ slice_index s 1 ∷ slice_index s 2 ∷ slice_index s 3 ∷ x.1) q.1;
    }

two : (s : List ℕ) → slice_index s 0 ≡ 92 → slice_index s 1 ≡ 117 → s ≡ 92 ∷ 117 ∷ drop 2 s
two [] a b = cc
two (x ∷ []) a b = cc
two (x ∷ y ∷ s) a b = ap (λ c. c ∷ y ∷ s) a ∙ ap (λ c. 92 ∷ c ∷ s) b

record TakesLow (u : ℕ) (s : List ℕ) (c : ℕ) (r : List ℕ) : Type 0 where
  low : ℕ
  unit : List ℕ
  is_unit : IsUnit unit low
  in_range : is_low low ≡ true
  character : c ≡ pair_of u low
  text : s ≡ unit ++ r

low_takes : (u : ℕ) (s : List ℕ) (c : ℕ) (r : List ℕ) → low_at u s ≡ Some (c, r) → TakesLow u s c r
low_takes u s c r e =
    let q = then_if (begins_unicode_escape s) _ (c, r) e in
    let b = and_parts (slice_index s 0 == 92) _ q.0 in
    let f = bind_some _ (code_unit_at (drop 2 s)) (c, r) q.1 in
    let g = cond_some (is_low f.0.0) (pair_of u f.0.0, f.0.1) (c, r) f.2 in
    let l = unit_takes (drop 2 s) f.0.0 f.0.1 f.1 in
    record {
      low = f.0.0;
      unit = 92 ∷ 117 ∷ l.digits;
      is_unit = l.is_unit;
      in_range = g.0;
      character = sym (ap (λ x. x.0) g.1);
      text = two s (eqb-true _ 92 b.0) (eqb-true _ 117 b.1) ∙ ap (λ x. 92 ∷ 117 ∷ x) (l.text ∙ ap (λ x. l.digits ++ x.1) g.1);
    }

unit_small : (h : List ℕ) (u : ℕ) → IsUnit h u → u < 65536
unit_small h u k = omega arith

unit_scalar : (c : ℕ) → c < 65536 → is_high c ≡ false → is_low c ≡ false → IsScalar c
unit_scalar c small high low = grind (arith, nat_tests)

high_range : (u : ℕ) → is_high u ≡ true → (0xD800 ≤ u) × (u ≤ 0xDBFF)
high_range u h = (grind (arith, nat_tests), grind (arith, nat_tests))

low_range : (u : ℕ) → is_low u ≡ true → (0xDC00 ≤ u) × (u ≤ 0xDFFF)
low_range u h = (grind (arith, nat_tests), grind (arith, nat_tests))

-- a piece in front, behind a backslash that is taken
abbrev pub Escaped : List ℕ → ℕ → List ℕ → Type 0
Escaped s c r = (q : List ℕ) × IsPiece (92 ∷ q) c × (s ≡ q ++ r)

unicode_takes : (s : List ℕ) (c : ℕ) (r : List ℕ) → unicode_at s ≡ Some (c, r) → (q : List ℕ) × IsPiece (92 ∷ 117 ∷ q) c × (s ≡ q ++ r)
unfolding unicode_at
unicode_takes s c r e =
    let f = bind_some _ (code_unit_at s) (c, r) e in
    let h = unit_takes s f.0.0 f.0.1 f.1 in
    elim (chosen (is_high f.0.0) _ _ _ f.2) [
      | inl p ↦
          let l = low_takes f.0.0 f.0.1 c r p.1 in (
            h.digits ++ l.unit,
            pair (record {
              first = 92 ∷ 117 ∷ h.digits;
              second = l.unit;
              high = f.0.0;
              low = l.low;
              text =
                  refl;
              is_first = h.is_unit;
              is_second = l.is_unit;
              is_high = high_range f.0.0 p.0;
              is_low =
                  low_range l.low l.in_range;
              character = l.character;
            }),
            h.text ∙ ap (λ x. h.digits ++ x) l.text ∙ sym (append_assoc h.digits l.unit r),
          )
      | inr p ↦
          let n = none_if (is_low f.0.0) _ _ p.1 in
          let same : f.0 ≡ (c, r) = same_Some _ _ n.1 in
          let at : f.0.0 ≡ c = ap (λ x. x.0) same in
          let one = subst (IsUnit (92 ∷ 117 ∷ h.digits)) at h.is_unit in (
            h.digits,
            unit (unit_scalar c (unit_small _ c one) (ap is_high (sym at) ∙ p.0)
                (ap is_low (sym at) ∙ n.0)) one,
            h.text ∙ ap (λ x. h.digits ++ x.1) same,
          )
    ]

low_unit : (u : ℕ) → u < 65536 → OutOfScalarRange u → is_high u ≡ false → is_low u ≡ true
low_unit u small (inl out) high = grind (arith, nat_tests)
low_unit u small (inr out) high = absurd (omega arith)

-- a code unit that is no character and no high surrogate begins no escape
pub no_partner : (s : List ℕ) (u : ℕ) (r : List ℕ) → code_unit_at s ≡ Some (u, r) → u < 65536 → OutOfScalarRange u
    → is_high u ≡ false → unicode_at s ≡ None
unfolding unicode_at
no_partner s u r e small out high =
    ap (option_and_then (λ x. cond (is_high x.0) (low_at x.0 x.1) (cond (is_low x.0) None (Some x)))) e
    ∙ ap (λ b. cond b (low_at u r) (cond (is_low u) None (Some (u, r)))) high
    ∙ ap (λ b. cond b None (Some (u, r))) (low_unit u small out high)

short_same : (x c : ℕ) → IsShortEscape x c → (y d : ℕ) → x ≡ y → c ≡ d → IsShortEscape y d
short_same x c h y d e f = subst (λ z. IsShortEscape z d) e (subst (IsShortEscape x) f h)

self_short : (x : ℕ) → ((x == 34) || ((x == 92) || (x == 47))) ≡ true → IsShortEscape x x
self_short x h = elim (or_true (x == 34) _ h) [
  | inl d ↦ let e = sym (eqb-true x 34 d) in short_same 34 34 quote x x e e
  | inr h ↦ elim (or_true (x == 92) (x == 47) h) [
    | inl d ↦ let e = sym (eqb-true x 92 d) in short_same 92 92 backslash x x e e
    | inr d ↦ let e = sym (eqb-true x 47 d) in short_same 47 47 slash x x e e
  ]
]

short_is : (x c : ℕ) → short_at x ≡ Some c → IsShortEscape x c
short_is x c e =
    elim (chosen ((x == 34) || ((x == 92) || (x == 47))) _ _ _ e) [
      | inl p ↦ subst (IsShortEscape x) (same_Some _ _ p.1) (self_short x p.0)
      | inr p ↦ elim (chosen (x == 98) _ _ _ p.1) [
        | inl p ↦ short_same 98 8 backspace x c (sym (eqb-true x 98 p.0)) (same_Some _ _ p.1)
        | inr p ↦ elim (chosen (x == 102) _ _ _ p.1) [
          | inl p ↦ short_same 102 12 form_feed x c (sym (eqb-true x 102 p.0)) (same_Some _ _ p.1)
          | inr p ↦ elim (chosen (x == 110) _ _ _ p.1) [
            | inl p ↦ short_same 110 10 line_feed x c (sym (eqb-true x 110 p.0)) (same_Some _ _ p.1)
            | inr p ↦ elim (chosen (x == 114) _ _ _ p.1) [
              | inl p ↦ short_same 114 13 carriage_return x c (sym (eqb-true x 114 p.0)) (same_Some _ _ p.1)
              | inr p ↦ elim (chosen (x == 116) (Some 9) None _ p.1) [
                | inl p ↦ short_same 116 9 tab x c (sym (eqb-true x 116 p.0)) (same_Some _ _ p.1)
                | inr p ↦ let never : None ≡ Some c = p.1 in cc
              ]
            ]
          ]
        ]
      ]
    ]

short_takes : (t : List ℕ) (c : ℕ) (r : List ℕ)
    → option_map {U = ℕ × List ℕ} (λ x. (x, drop 1 t)) (short_at (slice_index t 0)) ≡ Some (c, r) → Escaped t c r
short_takes [] c r e = cc
short_takes (x ∷ xs) c r e =
    let m = map_some (λ y. (y, xs)) (short_at x) (c, r) e in
    (x ∷ [], short x (short_is x c (m.1 ∙ ap (λ y. Some y.0) m.2)) refl, ap (λ y. x ∷ y.1) m.2)

-- if `escape_at` reads the character c from t and leaves r, t is an escape of c without its backslash, and then r
pub escape_takes : (t : List ℕ) (c : ℕ) (r : List ℕ) → escape_at t ≡ Some (c, r) → Escaped t c r
unfolding escape_at
escape_takes t c r e =
    elim (chosen (slice_index t 0 == 117) _ _ _ e) [
      | inl p ↦ let q = unicode_takes (drop 1 t) c r p.1 in (117 ∷ q.0, q.1, first_byte t 116 (eqb-true _ 117 p.0) ∙ ap (λ x. 117 ∷ x) q.2)
      | inr p ↦ short_takes t c r p.1
    ]

-- ---- what the grammar has is read

unit_only : (a : List ℕ) (u : ℕ) (h : IsUnit a u) (r : List ℕ) → code_unit_at (h.d3 ∷ h.d2 ∷ h.d1 ∷ h.d0 ∷ r) ≡ Some (u, r)
unit_only a u h r = rw (
  hex_passes h.d3 h.hex3,
  hex_passes h.d2 h.hex2,
  hex_passes h.d1 h.hex1,
  hex_passes h.d0 h.hex0,
) (ap (λ x. Some (x, r)) (sym h.value))

scalar_no_surrogate : (c : ℕ) → IsScalar c → (is_high c ≡ false) × (is_low c ≡ false)
scalar_no_surrogate c s = elim (scalar_cases c s) [
  | inl h ↦ (grind (arith, nat_tests), grind (arith, nat_tests))
  | inr h ↦ (grind (arith, nat_tests), grind (arith, nat_tests))
]

high_passes : (u : ℕ) → 0xD800 ≤ u → u ≤ 0xDBFF → is_high u ≡ true
high_passes u l h = grind (arith, nat_tests)

low_passes : (u : ℕ) → 0xDC00 ≤ u → u ≤ 0xDFFF → is_low u ≡ true
low_passes u l h = grind (arith, nat_tests)

unicode_unit : (a : List ℕ) (c : ℕ) (h : IsUnit a c) (t : List ℕ) → IsScalar c → unicode_at (h.d3 ∷ h.d2 ∷ h.d1 ∷ h.d0 ∷ t) ≡ Some (c, t)
unfolding unicode_at
unicode_unit a c h t s =
    let n = scalar_no_surrogate c s in
    ap (option_and_then (λ x. cond (is_high x.0) (low_at x.0 x.1) (cond (is_low x.0) None (Some x)))) (unit_only a c h t)
    ∙ ap (λ b. cond b (low_at c t) (cond (is_low c) None (Some (c, t)))) n.0 ∙ ap (λ b. cond b None (Some (c, t))) n.1

low_only : (u : ℕ) {a : List ℕ} {v : ℕ} (h : IsUnit a v) (t : List ℕ) → is_low v ≡ true
    → low_at u (92 ∷ 117 ∷ h.d3 ∷ h.d2 ∷ h.d1 ∷ h.d0 ∷ t) ≡ Some (pair_of u v, t)
low_only u {a = a} {v = v} h t m =
    ap (option_and_then (λ x. cond (is_low x.0) (Some (pair_of u x.0, x.1)) None)) (unit_only a v h t)
    ∙ ap (λ b. cond b (Some (pair_of u v, t)) None) m

unicode_pair : {a b : List ℕ} {u v : ℕ} (h : IsUnit a u) (l : IsUnit b v) (t : List ℕ) → is_high u ≡ true → is_low v ≡ true
    → unicode_at (h.d3 ∷ h.d2 ∷ h.d1 ∷ h.d0 ∷ 92 ∷ 117 ∷ l.d3 ∷ l.d2 ∷ l.d1 ∷ l.d0 ∷ t) ≡ Some (pair_of u v, t)
unfolding unicode_at
unicode_pair {a = a} {u = u} h l t n m =
    let rest : List ℕ = 92 ∷ 117 ∷ l.d3 ∷ l.d2 ∷ l.d1 ∷ l.d0 ∷ t in
    ap (option_and_then (λ x. cond (is_high x.0) (low_at x.0 x.1) (cond (is_low x.0) None (Some x)))) (unit_only a u h rest)
    ∙ ap (λ b. cond b (low_at u rest) (cond (is_low u) None (Some (u, rest)))) n ∙ low_only u l t m

escape_u : (t : List ℕ) → escape_at (117 ∷ t) ≡ unicode_at t
unfolding escape_at
escape_u t = refl

escape_short : (x c : ℕ) (t : List ℕ) → IsShortEscape x c → escape_at (x ∷ t) ≡ Some (c, t)
unfolding escape_at
escape_short x c t quote = refl
escape_short x c t backslash = refl
escape_short x c t slash = refl
escape_short x c t backspace = refl
escape_short x c t form_feed = refl
escape_short x c t line_feed = refl
escape_short x c t carriage_return = refl
escape_short x c t tab = refl

-- a piece that is no character for itself: behind the backslash it is read
abbrev pub IsEscape : List ℕ → ℕ → Type 0
IsEscape p c = (q : List ℕ) × (p ≡ 92 ∷ q) × ((t : List ℕ) → escape_at (q ++ t) ≡ Some (c, t))

unit_escape : (p : List ℕ) (c : ℕ) → IsScalar c → IsUnit p c → IsEscape p c
unit_escape p c s h = (117 ∷ h.d3 ∷ h.d2 ∷ h.d1 ∷ h.d0 ∷ [], h.text, λ t. escape_u _ ∙ unicode_unit p c h t s)

pair_escape : (p : List ℕ) (c : ℕ) → IsPair p c → IsEscape p c
pair_escape p c h =
    let a = h.is_first in
    let b = h.is_second in
    let text : p ≡ 92 ∷ 117 ∷ a.d3 ∷ a.d2 ∷ a.d1 ∷ a.d0 ∷ 92 ∷ 117 ∷ b.d3 ∷ b.d2 ∷ b.d1 ∷ b.d0 ∷ [] =
    h.text ∙ ap (λ x. x ++ h.second) a.text ∙ ap (λ x. 92 ∷ 117 ∷ a.d3 ∷ a.d2 ∷ a.d1 ∷ a.d0 ∷ x) b.text in (
      117 ∷ a.d3 ∷ a.d2 ∷ a.d1 ∷ a.d0 ∷ 92 ∷ 117 ∷ b.d3 ∷ b.d2 ∷ b.d1 ∷ b.d0 ∷ [],
      text,
      λ t. escape_u _ ∙ unicode_pair a b t
          (high_passes h.high h.is_high.0 h.is_high.1) (low_passes h.low h.is_low.0 h.is_low.1)
          ∙ ap (λ x. Some (x, t)) (sym h.character),
    )

-- a piece of a character is the character unescaped, or an escape that is read
pub piece_cases : (p : List ℕ) (c : ℕ) → IsPiece p c → IsRaw p c ⊎ IsEscape p c
piece_cases p c (raw h) = inl h
piece_cases p c (short x s e) = inr (x ∷ [], e, λ t. escape_short x c t s)
piece_cases p c (unit s h) = inr (unit_escape p c s h)
piece_cases p c (pair h) = inr (pair_escape p c h)
