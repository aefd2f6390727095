-- The integers that trees mean, for a type of any number of bits (RFC 8259, section 6).
use Rattle.std.specs.Prelude.{◌≡◌, ◌<◌, ◌-◌, ◌^◌, ℕ, ℤ, pos, negsuc, Bool, true, Option, Some, None, nat_lt, if◌then◌else◌, refl}
use Rattle.miniserde_model.specs.Tree.{Tree, nonneg, neg}

-- whether the integer is at least - 2 ^ (bits - 1) and below 2 ^ (bits - 1)
abbrev pub fits_signed : ℕ → ℤ → Bool
fits_signed bits (pos n) = nat_lt n (2 ^ (bits - 1))
fits_signed bits (negsuc n) = nat_lt n (2 ^ (bits - 1))

-- the integer that the tree is, if it is written without a minus and is below 2 ^ bits
abbrev pub unsigned_of : ℕ → Tree → Option ℤ
unsigned_of bits (nonneg n) = if nat_lt n (2 ^ bits) then Some (pos n) else None
unsigned_of bits _ = None

-- the integer that the tree is, with a minus or without, if it fits a signed type of so many bits
abbrev pub signed_of : ℕ → Tree → Option ℤ
signed_of bits (nonneg n) = if fits_signed bits (pos n) then Some (pos n) else None
signed_of bits (neg z) = if fits_signed bits z then Some z else None
signed_of bits _ = None

-- the tree is the number n, written without a minus, and n is below 2 ^ bits
abbrev pub ReadsUnsigned : ℕ → Tree → ℕ → Type 0
ReadsUnsigned bits t n = (t ≡ nonneg n) × (n < 2 ^ bits)

-- the tree is the integer z, with a minus or without, and z fits a signed type of so many bits
abbrev pub ReadsSigned : ℕ → Tree → ℤ → Type 0
ReadsSigned bits (nonneg n) z = (pos n ≡ z) × (fits_signed bits z ≡ true)
ReadsSigned bits (neg m) z = (m ≡ z) × (fits_signed bits z ≡ true)
ReadsSigned bits _ z = ⊥

-- Worked cases: 255 is a `u8`, 256 is none, and -128 is an `i8`.
pub largest_u8 : unsigned_of 8 (nonneg 255) ≡ Some (pos 255)
largest_u8 = refl

pub no_u8 : unsigned_of 8 (nonneg 256) ≡ None
no_u8 = refl

pub smallest_i8 : signed_of 8 (neg (negsuc 127)) ≡ Some (negsuc 127)
smallest_i8 = refl
