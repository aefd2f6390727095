-- The words of a stack hold the kinds of the open containers, one bit for each level. Opening a container sets the
-- bit of its level and keeps those below (`stack_opened`); the last bit is the kind of the innermost container
-- (`stack_top`).
use Rattle.std.proofs.Common.{◌≡◌, ℕ, zero, suc, ◌+◌, ◌*◌, ◌/◌, ◌%◌, ◌^◌, ◌<◌, ◌≤◌, ◌≢◌, inl, inr, List, [], ◌∷◌}
use Rattle.std.proofs.Common.{◌++◌, Some, is_some, true≢false, get_or, set, length, bit_and, refl, sym, ap, ◌∙◌}
use Rattle.std.proofs.Common.{arith}
use Rattle.std.specs.Int.{bit_at}
use Rattle.std.proofs.lemmas.Bool.{cases_eq}
use Rattle.std.proofs.lemmas.List.{get_or-set_same, get_or-set_other, get_or_default}
use Rattle.std.proofs.lemmas.Grind.{get_or-set_at}
use Rattle.std.proofs.lemmas.Nat.{and_mask}
use Rattle.std.proofs.lemmas.Nat.Bits.{shr_and_one}
use Rattle.miniserde_model.specs.declared.kind.Kind.{Kind}
use Rattle.miniserde_model.specs.declared.kind.Kind.TheVariants.{Seq, Map}
use Rattle.miniserde_text.specs.private.Stack.{bit_of, kind_by, kind_at, stack_of, SetsBit, innermost, outer}

-- of the words only the kinds at the levels count
same_kinds : (ws vs : List ℕ) (n : ℕ) → ((i : ℕ) → i < n → kind_at ws i ≡ kind_at vs i) → stack_of ws n ≡ stack_of vs n
same_kinds ws vs zero h = refl
same_kinds ws vs (suc n) h =
    let here : kind_at ws n ≡ kind_at vs n = h n (omega arith) in
    let rest : stack_of ws n ≡ stack_of vs n = same_kinds ws vs n (λ i l. h i (omega arith)) in
    ap (λ k. k ∷ stack_of ws n) here ∙ ap (λ st. kind_at vs n ∷ st) rest

kind_by_bit : (k : Kind) → kind_by (bit_of k) ≡ k
kind_by_bit Seq = refl
kind_by_bit Map = refl

-- `&` with 63 is the remainder by 64
place : (n : ℕ) → bit_and n 63 ≡ n % 64
place n = and_mask n 6

word_grown : (ws : List ℕ) (i : ℕ) → get_or (ws ++ 0 ∷ []) i 0 ≡ get_or ws i 0
word_grown [] zero = refl
word_grown [] (suc i) = refl
word_grown (w ∷ ws) zero = refl
word_grown (w ∷ ws) (suc i) = word_grown ws i

-- a word of zeros past the end changes nothing
pub stack_grown : (ws : List ℕ) (n : ℕ) → stack_of (ws ++ 0 ∷ []) n ≡ stack_of ws n
stack_grown ws n = same_kinds (ws ++ 0 ∷ []) ws n (λ i l. ap (λ w. kind_by (bit_at w (i % 64))) (word_grown ws (i / 64)))

-- w has the bits of the word x of level n but for that level's own: the levels below stay
below_stays : (ws : List ℕ) (n w : ℕ) → n / 64 < length ws
    → ((i : ℕ) → i < 64 → i ≢ n % 64 → bit_at w i ≡ bit_at (get_or ws (n / 64) 0) i) → (i : ℕ) → i < n
    → kind_at (set ws (n / 64) w) i ≡ kind_at ws i
below_stays ws n w l h i b =
    elim (cases_eq (i / 64) (n / 64)) [
      | inl e ↦
          let apart : i % 64 ≢ n % 64 = λ q. omega (arith, e, q, b) in
          ap kind_by (ap (λ z. bit_at z (i % 64)) (get_or-set_at ws (n / 64) (i / 64) w 0 e l)
          ∙ h (i % 64) (omega arith) apart ∙ ap (λ z. bit_at (get_or ws z 0) (i % 64)) (sym e))
      | inr e ↦ ap (λ z. kind_by (bit_at z (i % 64))) (get_or-set_other ws (n / 64) (i / 64) w 0 e)
    ]

-- level n is opened by its bit
opened : (ws : List ℕ) (n : ℕ) {w : ℕ} {k : Kind} → n / 64 < length ws → SetsBit (get_or ws (n / 64) 0) (n % 64) k w
    → stack_of (set ws (n / 64) w) (suc n) ≡ k ∷ stack_of ws n
opened ws n {w = w} {k = k} l b =
    let here : kind_at (set ws (n / 64) w) n ≡ k =
    ap (λ z. kind_by (bit_at z (n % 64))) (get_or-set_same ws (n / 64) w 0 l) ∙ ap kind_by b.here ∙ kind_by_bit k in
    let rest : stack_of (set ws (n / 64) w) n ≡ stack_of ws n = same_kinds (set ws (n / 64) w) ws n (below_stays ws n w l b.others) in
    ap (λ z. z ∷ stack_of (set ws (n / 64) w) n) here ∙ ap (λ st. k ∷ st) rest

-- the same by the word x that was read
pub stack_opened : (ws : List ℕ) (n x : ℕ) {w : ℕ} {k : Kind} → n / 64 < length ws → x ≡ get_or ws (n / 64) x
    → SetsBit x (bit_and n 63) k w → stack_of (set ws (n / 64) w) (n + 1) ≡ k ∷ stack_of ws n
stack_opened ws n x {w = w} {k = k} l r b =
    let next : n + 1 ≡ suc n = omega arith in
    let word : x ≡ get_or ws (n / 64) 0 = r ∙ get_or_default ws (n / 64) x 0 l in
    rw next (opened ws n l (rw (← word, ← place n) b))

top_at : (ws : List ℕ) (n m : ℕ) → m + 1 ≡ n → innermost (stack_of ws n) ≡ Some (kind_at ws m)
top_at ws zero m e = absurd (omega arith)
top_at ws (suc n) m e = let same : n ≡ m = omega arith in ap (λ z. Some (kind_at ws z)) same

-- the innermost kind is that of the last level's bit in its word x
pub stack_top : (ws : List ℕ) (n m x : ℕ) → m + 1 ≡ n → n ≤ 64 * length ws → x ≡ get_or ws (m / 64) x
    → Some (kind_by (bit_and (x / 2 ^ bit_and m 63) 1)) ≡ innermost (stack_of ws n)
stack_top ws n m x e f r =
    let l : m / 64 < length ws = omega (arith, e, f) in
    let word : x ≡ get_or ws (m / 64) 0 = r ∙ get_or_default ws (m / 64) x 0 l in
    let bit : bit_and (x / 2 ^ bit_and m 63) 1 ≡ bit_at (get_or ws (m / 64) 0) (m % 64) =
    shr_and_one x (bit_and m 63) ∙ ap (bit_at x) (place m) ∙ ap (λ z. bit_at z (m % 64)) word in
    ap (λ z. Some (kind_by z)) bit ∙ sym (top_at ws n m e)

-- a bit that isn't 1
pub bit_clear : (a : ℕ) → (bit_and a 1 ≡ 1 → ⊥) → bit_and a 1 ≡ 0
bit_clear a h =
    let bit : bit_and a 1 ≡ a % 2 = and_mask a 1 in
    elim (cases_eq (a % 2) 1) [ inl e ↦ absurd (h (bit ∙ e)) | inr e ↦ bit ∙ omega arith ]

-- ---- an innermost container

-- a stack whose innermost kind is k is k and then the outer kinds
pub split_top : (st : List Kind) (k : Kind) → innermost st ≡ Some k → st ≡ k ∷ outer st
split_top [] k h = absurd (true≢false (ap is_some (sym h)))
split_top (c ∷ st) k h = let e : c ≡ k = cc in ap (λ z. z ∷ st) e
