-- How many bits std's signed integers have.
use Rattle.std.proofs.Common.{◌≡◌, ◌≤◌, ◌-◌, ◌^◌, ℕ, refl, arith}
use mir.Syntax.{Width, w8, w16, w32, w64}
use mir.Val.{hbits}

-- integers of the toolchain's width w have so many bits, with the sign, and at most 64
pub record HasBits (w : Width) (bits : ℕ) : Type 0 where
  pub besides_sign : hbits w ≡ bits - 1
  pub at_most_64 : 2 ^ hbits w ≤ 2 ^ 63

-- the bits of each signed type; `isize` has those of `i64`
pub i8_bits : HasBits w8 8
i8_bits = record { besides_sign = refl; at_most_64 = omega arith }

pub i16_bits : HasBits w16 16
i16_bits = record { besides_sign = refl; at_most_64 = omega arith }

pub i32_bits : HasBits w32 32
i32_bits = record { besides_sign = refl; at_most_64 = omega arith }

pub i64_bits : HasBits w64 64
i64_bits = record { besides_sign = refl; at_most_64 = omega arith }
