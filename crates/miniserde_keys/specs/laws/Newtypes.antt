-- The laws of std's types of keys, for newtypes of them: the impl of a newtype cannot cite the impl of the type inside.
use Rattle.std.proofs.Common.{◌≡◌, ◌<◌, ◌≤◌, ◌^◌, ℕ, Bool, true, false, List, Option, Some, None, cond, nat_eq}
use Rattle.std.proofs.Common.{refl, sym, ap, ◌∙◌, arith}
use Rattle.std.specs.Prelude.{⊤, decimal, option_and_then}
use Rattle.std.specs.Bool.{beq}
use Rattle.std.specs.Char.{IsScalar, encode_utf8}
use Rattle.std.specs.Ordering.{int_eq}
use Rattle.std.specs.Int.{w8, w16, w32, w64}
use Rattle.std.specs.Int.RustNames.{FitsSigned}
use Rattle.std.specs.Fmt.{signed_decimal}
use Rattle.std.specs.Str.{bytes_eq}
use mir.Syntax.{Width}
use Rattle.miniserde_keys.specs.Keys.{Key, of_nat, of_int, of_bool, read_unsigned, read_signed, read_bool, read_char, bool_text}
use Rattle.miniserde_keys.specs.laws.Bits.{HasBits, i8_bits, i16_bits, i32_bits, i64_bits}
use Rattle.miniserde_keys.specs.laws.Keys.{nat-alike, nat-text, unsigned-back, int-alike, int-same, signed-back}
use Rattle.miniserde_keys.specs.laws.Keys.{bool-alike, bool-text, char_some, ReadsOneName}

-- the laws of a type of keys of which `Eq` compares the whole content
pub record KeyLaws {K : Type 0} (eq : K → K → Bool) (valid : K → Type 0) (content : K → Key)
    (read : List ℕ → Option Key) (text : K → List ℕ) : Type 0 where
  -- keys are equal exactly if their contents are
  pub alike : (a b : K) → eq a b ≡ bytes_eq (content a) (content b)
  -- a valid key's text is read as its content
  pub back : (k : K) → valid k → read (text k) ≡ Some (content k)
  -- equal keys have the same text
  pub one_text : (a b : K) → content a ≡ content b → text a ≡ text b

-- the laws of unsigned integers of so many bits
abbrev pub UnsignedLaws : ℕ → Type 0
UnsignedLaws bits = KeyLaws nat_eq (λ n. n < 2 ^ bits) of_nat (read_unsigned bits) decimal

unsigned_key : (bits : ℕ) → 2 ^ bits ≤ 2 ^ 64 → UnsignedLaws bits
unsigned_key bits h = record { alike = nat-alike; back = unsigned-back bits h; one_text = nat-text decimal }

pub u8_key_laws : UnsignedLaws 8
u8_key_laws = unsigned_key 8 (omega arith)

pub u16_key_laws : UnsignedLaws 16
u16_key_laws = unsigned_key 16 (omega arith)

pub u32_key_laws : UnsignedLaws 32
u32_key_laws = unsigned_key 32 (omega arith)

pub u64_key_laws : UnsignedLaws 64
u64_key_laws = unsigned_key 64 (omega arith)

pub usize_key_laws : UnsignedLaws 64
usize_key_laws = u64_key_laws

-- the laws of signed integers of `bits` bits as keys; w is the toolchain's width of as many bits
abbrev pub SignedLaws : ℕ → Width → Type 0
SignedLaws bits w = KeyLaws int_eq (FitsSigned w) of_int (read_signed bits) signed_decimal

signed_key : {bits : ℕ} {w : Width} → HasBits w bits → SignedLaws bits w
signed_key has = record {
  alike = int-alike;
  back = signed-back has;
  one_text = λ a b same. ap signed_decimal (int-same a b same);
}

-- each signed type's laws, by its width
pub i8_key_laws : SignedLaws 8 w8
i8_key_laws = signed_key i8_bits

pub i16_key_laws : SignedLaws 16 w16
i16_key_laws = signed_key i16_bits

pub i32_key_laws : SignedLaws 32 w32
i32_key_laws = signed_key i32_bits

pub i64_key_laws : SignedLaws 64 w64
i64_key_laws = signed_key i64_bits

pub isize_key_laws : SignedLaws 64 w64
isize_key_laws = i64_key_laws

bool_read : (b : Bool) → read_bool (bool_text b) ≡ Some (of_bool b)
bool_read true = refl
bool_read false = refl

-- the laws of `bool`
pub bool_key_laws : KeyLaws beq (λ _. ⊤) of_bool read_bool bool_text
bool_key_laws = record { alike = bool-alike; back = λ b r. bool_read b; one_text = bool-text }

-- the laws of `char`
pub char_key_laws : KeyLaws nat_eq IsScalar of_nat read_char encode_utf8
char_key_laws = record { alike = nat-alike; back = char_some; one_text = nat-text encode_utf8 }

-- a key that the check accepts is read from its text as its content, if it is read so without the check
pub checked-back : (accepts : Key → Bool) (o : Option Key) (c : Key) → o ≡ Some c → accepts c ≡ true
    → option_and_then (λ c. cond (accepts c) (Some c) None) o ≡ Some c
checked-back accepts o c e h = rw (e, h) refl

only : {C : Type 0} (b : Bool) (c d : C) → cond b (Some c) None ≡ Some d → c ≡ d
only true c d e = cc
only false c d e = absurd (cc)

-- names that are read as equal texts which the check accepts are equal
pub checked-exact : (accepts : Key → Bool) → ReadsOneName (λ n. cond (accepts n) (Some n) None) (λ c. c)
checked-exact accepts n m c d p q e = only (accepts n) n c p ∙ e ∙ sym (only (accepts m) m d q)
