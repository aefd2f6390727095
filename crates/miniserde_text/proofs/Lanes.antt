-- The mask of the bytes in some lanes that pass a test p shows where a run of bytes that do not pass ends. If the mask
-- is 0, the run continues past the lanes (`through`); else its trailing zeros count up to the first byte that passes
-- (`stops`).
use Rattle.std.proofs.Common.{◌≡◌, ℕ, suc, get_or, ◌+◌, ◌*◌, ◌%◌, ◌^◌, ◌<◌, ◌≤◌, ltb, Bool, true, false, not, cond}
use Rattle.std.proofs.Common.{eqb, List, [], ◌∷◌, map, length, drop, replicate, refl, sym, ap, ap₂, ◌∙◌, arith}
use Rattle.std.specs.Prelude.{◌||◌}
use Rattle.std.specs.List.{position_or_len}
use Rattle.std.proofs.lemmas.Simd.{zip2_splat, zip2_of_maps, mask_l-mod, chunk-drop, length-chunk, leading_from_mask_l, trailing_mask_l}
use Rattle.std.proofs.lemmas.List.{drop-drop, length-map}
use Rattle.std.proofs.lemmas.List.Folds.{prefix_len-append}
use Rattle.std.proofs.lemmas.List.Sums.{prefix_len-le-length, prefix_len_stops}
use Rattle.std.proofs.lemmas.Bool.{eq-eqb, ne_eqb}
use lib.Bits.{bit_and, bit_or}
use lib.Lanes.{zip2, mask_l, top, chunk}
use lib.Count.{count_trailing_zeros}
use Rattle.std.specs.Str.{IsCharBoundary}
use Rattle.std.proofs.lemmas.Bool.Decides.{nat_tests}
use Rattle.miniserde_model.specs.Bytes.{is_special}
use Rattle.miniserde_text.specs.private.Reading.{after_run, is_not_space}

-- a lane of `simd_eq`: 255 if the two bytes are equal, and else 0
abbrev pub equal : ℕ → ℕ → ℕ
equal a b = cond (eqb a b) 255 0

-- a lane of `simd_ne`: 255 if the two bytes differ, and else 0
abbrev pub differ : ℕ → ℕ → ℕ
differ a b = cond (not (eqb a b)) 255 0

-- a lane of `simd_lt`: 255 if the first byte is below the second, and else 0
abbrev pub below : ℕ → ℕ → ℕ
below a b = cond (ltb a b) 255 0

none_fails : (b : Bool) (n l m : ℕ) → n ≤ l → cond (not b) (1 + n) 0 ≡ 1 + l → (n ≡ l → m ≡ 0) → cond b 1 0 + 2 * m ≡ 0
none_fails true n l m le e ih = let never : ⊥ = omega arith in absurd never
none_fails false n l m le e ih = let z = ih (omega arith) in omega arith

-- ---- a run of bytes that do not pass p ends at the first byte that passes

module _ (p : ℕ → Bool) where
  split : (n : ℕ) (d : List ℕ) (i : ℕ) → position_or_len p (drop i d)
      ≡ cond (eqb (position_or_len p (chunk i n d)) (length (chunk i n d)))
      (length (chunk i n d) + position_or_len p (drop (i + n) d)) (position_or_len p (chunk i n d))
  split n d i = ap (position_or_len p) (chunk-drop i n d) ∙ prefix_len-append (λ x. not (p x)) (chunk i n d) (drop (i + n) d)

  -- if the mask of the n bytes from i on is 0, the run from i on is n longer than that from i + n on
  pub through : (n : ℕ) (d : List ℕ) (i : ℕ) → i + n ≤ length d → mask_l (map p (chunk i n d)) ≡ 0
      → position_or_len p (drop i d) ≡ n + position_or_len p (drop (i + n) d)
  through n d i room none =
      let c = chunk i n d in
      split n d i ∙ ap (λ b. cond b (length c + position_or_len p (drop (i + n) d)) (position_or_len p c))
      (eq-eqb _ _ (leading_from_mask_l p c none))
      ∙ ap (λ k. k + position_or_len p (drop (i + n) d)) (length-chunk i n d room)

  all_pass : (xs : List ℕ) → position_or_len p xs ≡ length xs → mask_l (map p xs) ≡ 0
  all_pass [] e = refl
  all_pass (x ∷ xs) e = none_fails (p x) _ (length xs) _ (prefix_len-le-length (λ y. not (p y)) xs) (omega arith) (all_pass xs)

  -- if the mask of the n bytes from i on is not 0, its trailing zeros count the run from i on
  pub stops : (n : ℕ) (d : List ℕ) (i : ℕ) → n ≤ 64 → i + n ≤ length d → 0 < mask_l (map p (chunk i n d))
      → position_or_len p (drop i d) ≡ count_trailing_zeros 64 (mask_l (map p (chunk i n d)))
  stops n d i few room some =
      let c = chunk i n d in
      split n d i ∙ ap (λ b. cond b (length c + position_or_len p (drop (i + n) d)) (position_or_len p c))
      (ne_eqb _ _ (λ (e : position_or_len p c ≡ length c). omega (arith, all_pass c e)))
      ∙ sym (trailing_mask_l p 64 c (omega (arith, length-chunk i n d room)) some)

  tops : (lane : ℕ → ℕ) (v : List ℕ) → ((x : ℕ) → top 7 (lane x) ≡ p x) → map (top 7) (map lane v) ≡ map p v
  tops lane [] each = refl
  tops lane (x ∷ xs) each = ap₂ (λ a b. a ∷ b) (each x) (tops lane xs each)

  -- if the top bit of each byte's lane says whether the byte passes, so do the bits of the mask of the lanes
  pub mask_of_lanes : (lane : ℕ → ℕ) (v : List ℕ) → ((x : ℕ) → top 7 (lane x) ≡ p x) → length v ≤ 64
      → mask_l (map (top 7) (map lane v)) % 2 ^ 64 ≡ mask_l (map p v)
  mask_of_lanes lane v each few =
      ap (λ l. mask_l l % 2 ^ 64) (tops lane v each) ∙ mask_l-mod (map p v) 64 (omega (arith, length-map v p))

-- ---- such a run as a recursion on the list

module _ (p q : ℕ → Bool) (opposite : (c : ℕ) → q c ≡ not (p c)) where
  run_step : (b : Bool) (c n : ℕ) (cs : List ℕ) → q c ≡ b → after_run q cs ≡ drop n cs
      → cond (q c) (after_run q cs) (c ∷ cs) ≡ drop (cond b (1 + n) 0) (c ∷ cs)
  run_step false c n cs e ih = ap (λ b. cond b (after_run q cs) (c ∷ cs)) e
  run_step true c n cs e ih =
      let one : suc n ≡ 1 + n = omega arith in
      ap (λ b. cond b (after_run q cs) (c ∷ cs)) e ∙ ih ∙ ap (λ k. drop k (c ∷ cs)) one

  -- after the run of bytes that pass q, which are those that do not pass p, a text goes on at the first that passes p
  after_run_is : (s : List ℕ) → after_run q s ≡ drop (position_or_len p s) s
  after_run_is [] = refl
  after_run_is (c ∷ cs) = run_step (not (p c)) c (position_or_len p cs) cs (opposite c) (after_run_is cs)

  -- if j is the index of the first byte from i on that passes p, the run from i on ends at j
  pub run_from : (s : List ℕ) (i j : ℕ) → j ≡ i + position_or_len p (drop i s) → drop j s ≡ after_run q (drop i s)
  run_from s i j e =
      let t = drop i s in
      ap (λ k. drop k s) e ∙ sym (drop-drop (position_or_len p t) i s) ∙ sym (after_run_is t)

-- ---- bytes that are no whitespace

neither : (a b : Bool) → bit_and (cond (not a) 255 0) (cond (not b) 255 0) ≡ cond (not (a || b)) 255 0
neither true true = refl
neither true false = refl
neither false true = refl
neither false false = refl

top_set : (b : Bool) → top 7 (cond b 255 0) ≡ b
top_set true = refl
top_set false = refl

none_of : (a b c d : Bool) → top 7 (bit_and (bit_and (bit_and (cond (not a) 255 0) (cond (not b) 255 0))
    (cond (not c) 255 0)) (cond (not d) 255 0)) ≡ not (a || b || c || d)
none_of a b c d =
    ap (λ x. top 7 (bit_and (bit_and x (cond (not c) 255 0)) (cond (not d) 255 0))) (neither a b)
    ∙ ap (λ x. top 7 (bit_and x (cond (not d) 255 0))) (neither (a || b) c)
    ∙ ap (top 7) (neither (a || b || c) d) ∙ top_set (not (a || b || c || d))

-- the mask of the n bytes that differ from 32, 9, 10 and 13 is the mask of the bytes that are no whitespace
pub space_mask_is : (n : ℕ) (v : List ℕ) → n ≤ 64 → length v ≡ n
    → mask_l (map (top 7) (zip2 bit_and (zip2 bit_and (zip2 bit_and (zip2 differ v (replicate n 32))
    (zip2 differ v (replicate n 9))) (zip2 differ v (replicate n 10))) (zip2 differ v (replicate n 13)))) % 2 ^ 64
    ≡ mask_l (map is_not_space v)
space_mask_is n v few long =
    let lanes =
    zip2_of_maps bit_and (λ x. bit_and (bit_and (differ x 32) (differ x 9)) (differ x 10)) (λ x. differ x 13) v
    (zip2_of_maps bit_and (λ x. bit_and (differ x 32) (differ x 9)) (λ x. differ x 10) v
    (zip2_of_maps bit_and (λ x. differ x 32) (λ x. differ x 9) v (zip2_splat differ v n 32 long)
    (zip2_splat differ v n 9 long)) (zip2_splat differ v n 10 long)) (zip2_splat differ v n 13 long) in
    ap (λ l. mask_l (map (top 7) l) % 2 ^ 64) lanes
    ∙ mask_of_lanes is_not_space
    (λ x. bit_and (bit_and (bit_and (differ x 32) (differ x 9)) (differ x 10)) (differ x 13)) v
    (λ x. none_of (eqb x 32) (eqb x 9) (eqb x 10) (eqb x 13)) (omega (arith, long))

-- ---- bytes that must be escaped

joined : (a b c : Bool) → top 7 (bit_or (bit_or (cond a 255 0) (cond b 255 0)) (cond c 255 0)) ≡ (a || b || c)
joined true true true = refl
joined true true false = refl
joined true false true = refl
joined true false false = refl
joined false true true = refl
joined false true false = refl
joined false false true = refl
joined false false false = refl

-- the mask of the n bytes that are below 32, equal to 34 or equal to 92 is the mask of the special bytes
pub mask_is : (n : ℕ) (v : List ℕ) → n ≤ 64 → length v ≡ n
    → mask_l (map (top 7) (zip2 bit_or (zip2 bit_or (zip2 below v (replicate n 32)) (zip2 equal v (replicate n 34)))
    (zip2 equal v (replicate n 92)))) % 2 ^ 64 ≡ mask_l (map is_special v)
mask_is n v few long =
    let lanes =
    zip2_of_maps bit_or (λ x. bit_or (below x 32) (equal x 34)) (λ x. equal x 92) v
    (zip2_of_maps bit_or (λ x. below x 32) (λ x. equal x 34) v (zip2_splat below v n 32 long)
    (zip2_splat equal v n 34 long)) (zip2_splat equal v n 92 long) in
    ap (λ l. mask_l (map (top 7) l) % 2 ^ 64) lanes
    ∙ mask_of_lanes is_special (λ x. bit_or (bit_or (below x 32) (equal x 34)) (equal x 92)) v
    (λ x. joined (ltb x 32) (eqb x 34) (eqb x 92)) (omega (arith, long))

special_ascii : (c : ℕ) → not (is_special c) ≡ false → c < 128
special_ascii c h = grind (arith, nat_tests)

-- the index of the first special byte, or else the length, is a character boundary
pub boundary : (s : List ℕ) (n : ℕ) → n ≡ position_or_len is_special s → IsCharBoundary s n
boundary s n e = (
  omega (arith, prefix_len-le-length (λ x. not (is_special x)) s),
  λ within large.
      absurd (omega (
        arith,
        special_ascii (get_or s n 0)
            (ap (λ k. not (is_special (get_or s k 0))) e ∙ prefix_len_stops (λ x. not (is_special x)) s 0
            (omega arith)),
      )),
)
