-- The indices to which the lexer moves are in order, and they are character boundaries. An index behind an ASCII byte
-- is a boundary (`follows_boundary`), and so is the end of a run without special bytes (`special_boundary`).
use Rattle.std.proofs.Common.{◌≡◌, ℕ, ◌+◌, ◌-◌, ◌≤◌, ◌<◌, List, length, drop, get_or, refl, ap, sym, subst, ◌∙◌}
use Rattle.std.proofs.Common.{arith, length-append, length-drop}
use Rattle.std.specs.List.{position_or_len}
use Rattle.std.specs.Str.{IsUtf8, IsCharBoundary}
use Rattle.std.proofs.lemmas.Str.{IsCharBoundary-after_ascii, IsCharBoundary-from_rest}
use Rattle.miniserde_model.specs.Bytes.{is_special}
use Rattle.miniserde_text.specs.private.Reading.{after_run, is_unescaped, FollowsAscii, EndsWith}
use Rattle.miniserde_text.proofs.Lanes.{run_from, boundary}

-- if the byte at i is ASCII, i + 1 follows an ASCII byte
pub follows_more : (s : List ℕ) (i : ℕ) → i < length s → get_or s i 0 < 128 → FollowsAscii s (i + 1)
follows_more s i h ascii = let e : i + 1 - 1 ≡ i = omega arith in (omega arith, omega arith, subst (λ k. get_or s k 0 < 128) (sym e) ascii)

-- in UTF-8, an index that follows an ASCII byte is a character boundary
pub follows_boundary : (s : List ℕ) (i : ℕ) → IsUtf8 s → FollowsAscii s i → IsCharBoundary s i
follows_boundary s i u h =
    let e : i - 1 + 1 ≡ i = omega arith in
    subst (IsCharBoundary s) e (IsCharBoundary-after_ascii s (i - 1) u (omega arith) h.2)

-- the suffix from j is a suffix of that from i
pub ends_order : (s : List ℕ) (i j : ℕ) → i ≤ length s → j ≤ length s → EndsWith (drop i s) (drop j s) → i ≤ j
ends_order s i j h k (b, e) = omega (arith, ap length e ∙ length-append b (drop j s), length-drop i s, length-drop j s)

-- ---- the run of a string

-- if j is the index of the first special byte from i on, the run of unescaped bytes from i on ends at j
pub unescaped_from : (s : List ℕ) (i j : ℕ) → j ≡ i + position_or_len is_special (drop i s) → drop j s ≡ after_run is_unescaped (drop i s)
unescaped_from = run_from is_special is_unescaped (λ c. refl)

-- the index j of the first special byte from i on, or else the length, is a character boundary
pub special_boundary : (s : List ℕ) (i j : ℕ) → i ≤ length s → j ≡ i + position_or_len is_special (drop i s) → IsCharBoundary s j
special_boundary s i j h e =
    let t = drop i s in
    subst (IsCharBoundary s) (sym e)
    (IsCharBoundary-from_rest s i (position_or_len is_special t) h
    (boundary t (position_or_len is_special t) refl))
