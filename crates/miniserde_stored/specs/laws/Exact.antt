-- Exact keys, `String`, `bool` and `char`: names that are read as equal keys are equal.
use Rattle.std.proofs.Common.{◌≡◌, ℕ, Bool, true, false, cond, List, [], ◌∷◌, Option, Some, None, refl, sym, ◌∙◌, append-nil}
use Rattle.std.specs.Prelude.{bytes_eq}
use Rattle.std.specs.Char.{encode_utf8}
use Rattle.std.specs.Str.{chars, encode_utf8_all, is_utf8}
use Rattle.std.proofs.lemmas.Slice.Eq.{bytes_eq-Decides}
use Rattle.std.proofs.lemmas.Str.{IsUtf8-from_is_utf8, encodes-chars}
use Rattle.miniserde_keys.specs.Keys.{Key, of_nat, of_bool, bool_text, read_bool, single_char, read_char}
use Rattle.miniserde_keys.specs.laws.Keys.{bool-text, nat-text, ReadsOneName}

-- names that are read as equal `String` keys are equal
pub text-exact : ReadsOneName (λ n. Some n) (λ c. c)
text-exact n m c d p q e = cc

bool-named : (n : List ℕ) (c : Key) → read_bool n ≡ Some c → (b : Bool) × (n ≡ bool_text b) × (c ≡ of_bool b)
bool-named n c e = elim (bytes_eq n (bool_text true))
    as (λ a. bytes_eq n (bool_text true) ≡ a
    → cond a (Some (of_bool true)) (cond (bytes_eq n (bool_text false)) (Some (of_bool false)) None) ≡ Some c
    → (b : Bool) × (n ≡ bool_text b) × (c ≡ of_bool b)) [
      | true ↦ λ a f. let same : of_bool true ≡ c = cc in (true, (bytes_eq-Decides n (bool_text true)).0 a, sym same)
      | false ↦ λ a. elim (bytes_eq n (bool_text false))
          as (λ a. bytes_eq n (bool_text false) ≡ a → cond a (Some (of_bool false)) None ≡ Some c
          → (b : Bool) × (n ≡ bool_text b) × (c ≡ of_bool b)) [
            | true ↦ λ a f. let same : of_bool false ≡ c = cc in (false, (bytes_eq-Decides n (bool_text false)).0 a, sym same)
            | false ↦ λ a f. absurd (cc)
          ] refl
    ] refl e

-- names that are read as equal `bool` keys are equal
pub bool-exact : ReadsOneName read_bool (λ c. c)
bool-exact n m c d p q e =
    let a = bool-named n c p in
    let b = bool-named m d q in
    a.1 ∙ bool-text a.0 b.0 (sym a.2 ∙ e ∙ b.2) ∙ sym b.1

only-named : (bs cs : List ℕ) (c : Key) → encode_utf8_all cs ≡ bs → single_char cs ≡ Some c
    → (x : ℕ) × (bs ≡ encode_utf8 x) × (c ≡ of_nat x)
only-named bs [] c s e = absurd (cc)
only-named bs (x ∷ []) c s e = let same : of_nat x ≡ c = cc in (x, sym s ∙ append-nil (encode_utf8 x), sym same)
only-named bs (x ∷ y ∷ xs) c s e = absurd (cc)

char-named : (n : List ℕ) (c : Key) → read_char n ≡ Some c → (x : ℕ) × (n ≡ encode_utf8 x) × (c ≡ of_nat x)
unfolding read_char
char-named n c e = elim (is_utf8 n) as (λ b. is_utf8 n ≡ b → cond b (single_char (chars n)) None ≡ Some c
    → (x : ℕ) × (n ≡ encode_utf8 x) × (c ≡ of_nat x)) [
      | true ↦ λ b f. only-named n (chars n) c (encodes-chars n (IsUtf8-from_is_utf8 n b)) f
      | false ↦ λ b f. absurd (cc)
    ] refl e

-- names that are read as equal `char` keys are equal
pub char-exact : ReadsOneName read_char (λ c. c)
char-exact n m c d p q e =
    let a = char-named n c p in
    let b = char-named m d q in
    a.1 ∙ nat-text encode_utf8 a.0 b.0 (sym a.2 ∙ e ∙ b.2) ∙ sym b.1
