-- Each turn of the loop in `counted` lowers the number of looks left by one, and the sizes of the values add up. By
-- cases: the value in hand has no child, the current value has none, or the current value is replaced in the one in
-- hand.
use Rattle.std.proofs.Common.{◌≡◌, suc, ◌+◌, List, [], ◌∷◌, ◌++◌, map, refl, sym, ap, ◌∙◌, arith}
use Rattle.std.specs.Prelude.{IsTrue, false}
use Rattle.miniserde_value.specs.declared.json.value.Value.{Value}
use Rattle.miniserde_value.specs.Values.{children, IsBare}
use Rattle.miniserde_value.specs.Looks.{value_size, ReplacesFirst}
use Rattle.miniserde_value.proofs.ContentTrees.{sizes, size_children, sizes_append}
use Rattle.miniserde_value.proofs.Costs.{Cost, cost_of, cost, looks_left, looks_from, cost_out, besides_append}

-- a bare value has size 1
pub bare_size : (v : Value) → IsBare v → value_size v ≡ 1
bare_size v h = size_children v ∙ ap (λ (vs : List Value). 1 + sizes vs) h

-- no look is to come for a bare value, beside another or alone
pub bare_cost : (v : Value) → IsBare v → cost v ≡ record { beside = 0; alone = 0 }
bare_cost v h = cost_out v ∙ ap (λ (vs : List Value). cost_of (map cost vs)) h

pub bare_beside : (v : Value) → IsBare v → (cost v).beside ≡ 0
bare_beside v h = ap (λ (k : Cost). k.beside) (bare_cost v h)

pub bare_alone : (v : Value) → IsBare v → (cost v).alone ≡ 0
bare_alone v h = ap (λ (k : Cost). k.alone) (bare_cost v h)

pub left_bare : (c h : Value) → IsBare c → looks_left c h ≡ (cost h).alone
left_bare c h b = ap (λ (vs : List Value). looks_from vs (cost c) (cost h)) b

from_full : (vs : List Value) (c h : Cost) → (vs ≡ [] → ⊥) → looks_from vs c h ≡ c.alone + h.beside
from_full [] c h b = absurd (b refl)
from_full (v ∷ vs) c h b = refl

pub left_full : (c h : Value) → (IsBare c → ⊥) → looks_left c h ≡ (cost c).alone + (cost h).beside
left_full c h b = from_full (children c) (cost c) (cost h) b

-- the last child is taken out of c, which is then d
pub taken_size : (c d last : Value) → children c ≡ children d ++ last ∷ [] → value_size c ≡ value_size d + value_size last
taken_size c d last e =
    let s = ap sizes e in
    omega (arith, s, size_children c, size_children d, sizes_append (children d) (last ∷ []))

taken_from : (vs : List Value) (d last : Value) → vs ≡ children d → (cost_of (map cost (vs ++ last ∷ []))).alone
    ≡ suc (looks_from vs (cost d) (cost last))
taken_from [] d last e = omega arith
taken_from (v ∷ vs) d last e =
    let k = ap (λ (k : Cost). k.alone) (cost_out d ∙ ap (λ (ws : List Value). cost_of (map cost ws)) (sym e)) in
    omega (arith, k, besides_append vs (last ∷ []))

-- if d is c without its last child, the looks for c alone are one more than those left for d and the child
pub taken_looks : (c d last : Value) → children c ≡ children d ++ last ∷ [] → (cost c).alone ≡ suc (looks_left d last)
taken_looks c d last e = ap (λ (k : Cost). k.alone) (cost_out c ∙ ap (λ (ws : List Value). cost_of (map cost ws)) e)
    ∙ taken_from (children d) d last refl

-- the value p is replaced in h, which is then d, and x stood there
pub parked_size : (p x h d : Value) → ReplacesFirst p x (children h) (children d)
    → value_size d + value_size x ≡ value_size p + value_size h
parked_size p x h d r =
    let a = ap sizes r.1 in
    let b = ap sizes r.2 in
    omega (arith, a, b, size_children h, size_children d)

pub parked_looks : (p x h d : Value) → ReplacesFirst p x (children h) (children d) → (cost p).alone + (cost h).beside ≡ suc (looks_left d x)
parked_looks p x h d r =
    let a = ap (λ (k : Cost). k.beside) (cost_out h ∙ ap (λ (ws : List Value). cost_of (map cost ws)) r.1) in
    let b = ap (λ (k : Cost). k.alone) (cost_out d ∙ ap (λ (ws : List Value). cost_of (map cost ws)) r.2) in
    let l = ap (λ (vs : List Value). looks_from vs (cost d) (cost x)) r.2 in
    omega (arith, a, b, l)

not_nil : {A : Type 0} (xs : List A) (y : A) → xs ++ y ∷ [] ≡ [] → ⊥
not_nil [] y e = cc
not_nil (x ∷ xs) y e = cc

-- the value in hand was let go, and the next is taken from the current one
pub looks_next : (c h d last : Value) → IsBare h → children c ≡ children d ++ last ∷ [] → looks_left c h ≡ suc (looks_left d last)
looks_next c h d last b e =
    let full : IsBare c → ⊥ = λ n. not_nil (children d) last (sym e ∙ n) in
    omega (arith, left_full c h full, bare_beside h b, taken_looks c d last e)

-- the current one was let go, and the next is taken from the one in hand
pub looks_over : (c h d last : Value) → IsBare c → children h ≡ children d ++ last ∷ [] → looks_left c h ≡ suc (looks_left d last)
looks_over c h d last b e = omega (arith, left_bare c h b, taken_looks h d last e)

-- the current one was replaced in the one in hand
pub looks_replaced : (c h d x : Value) → (IsBare c → ⊥) → ReplacesFirst c x (children h) (children d)
    → looks_left c h ≡ suc (looks_left d x)
looks_replaced c h d x n r = omega (arith, left_full c h n, parked_looks c x h d r)

-- both were let go
pub looks_end : (c h : Value) → IsBare c → IsBare h → looks_left c h ≡ 0
looks_end c h b e = omega (arith, left_bare c h b, bare_alone h e)

-- `false` is not true
pub false_true : IsTrue false → ⊥
false_true e = cc
