-- Bytes that no mask of their lanes has are not special.
use Rattle.std.proofs.Common.{◌≡◌, ℕ, ◌+◌, ◌-◌, ◌<◌, ◌≤◌, false, length, drop, get_or, map, List, arith, ap, sym, ◌∙◌}
use Rattle.std.specs.List.{position_or_len}
use Rattle.std.proofs.lemmas.List.{get_or-drop}
use Rattle.std.proofs.lemmas.List.Sums.{fails_before_first}
use lib.Lanes.{mask_l, chunk}
use Rattle.miniserde_model.specs.Bytes.{is_special}
use Rattle.miniserde_text.specs.private.Escape.{IsPlainRun}
use Rattle.miniserde_text.proofs.Lanes.{through}

-- no byte of a run before the first special one is special
pub before_first : (xs : List ℕ) (i : ℕ) → IsPlainRun xs i (i + position_or_len is_special (drop i xs))
before_first xs i k h l =
    let e : i + (k - i) ≡ k = omega arith in
    ap (λ n. is_special (get_or xs n 0)) (sym e) ∙ ap is_special (sym (get_or-drop i xs (k - i) 0))
    ∙ fails_before_first is_special (drop i xs) (k - i) 0 (omega arith)

-- if the mask of the n bytes from i on is 0, none of these bytes is special
pub lanes_plain : (n : ℕ) (xs : List ℕ) (i : ℕ) → i + n ≤ length xs → mask_l (map is_special (chunk i n xs)) ≡ 0
    → IsPlainRun xs i (i + n)
lanes_plain n xs i room none k h l = before_first xs i k h (omega (arith, through is_special n xs i room none))
