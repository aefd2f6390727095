-- What is copied where a number is written: its digits, and zeros behind them.
use Rattle.std.proofs.Common.{◌≡◌, ℕ, ◌+◌, ◌-◌, ◌<◌, ◌≤◌, ◌^◌, ◌++◌, List, length, take, decimal, arith, ap, ◌∙◌}
use Rattle.std.specs.Str.{IsAscii, IsUtf8}
use Rattle.std.proofs.lemmas.Fmt.{IsAscii-decimal}
use Rattle.std.proofs.lemmas.Str.{IsAscii-append, IsAscii-take, IsUtf8-from_ascii}
use Rattle.std.proofs.Math.Seq.{take-append_seam, take-append-add}

-- any beginning of it is UTF-8
pub copied_utf8 : (n k : ℕ) (copied zeros : List ℕ) → n < 2 ^ 64 → IsAscii zeros → copied ≡ decimal n ++ zeros → IsUtf8 (take k copied)
copied_utf8 n k copied zeros fits z h =
    rw h (IsUtf8-from_ascii _
    (IsAscii-take (decimal n ++ zeros) k (IsAscii-append (decimal n) zeros (IsAscii-decimal n fits) z)))

-- if the first k of the bytes d and zeros are appended to old, and all of d is among them, a cut behind d leaves old and d
pub cut_behind : (old d zeros : List ℕ) (k at : ℕ) → length d ≤ k → at ≡ length old + length d
    → take at (old ++ take k (d ++ zeros)) ≡ old ++ d
cut_behind old d zeros k at few place =
    let rest : k ≡ length d + (k - length d) = omega (arith, few) in
    let some : take k (d ++ zeros) ≡ d ++ take (k - length d) zeros =
    ap (λ m. take m (d ++ zeros)) rest ∙ take-append-add d zeros (k - length d) in
    rw (place, some, take-append-add old (d ++ take (k - length d) zeros) (length d))
    (ap (λ b. old ++ b) (take-append_seam d (take (k - length d) zeros)))
