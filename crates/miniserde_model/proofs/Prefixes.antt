-- If a text splits in two ways into a part that the grammar derives and a rest, both parts stand for the same value
-- and both rests are equal. `Prefix` states this for two predicates, and one lemma carries it through each construct:
-- surrounding whitespace, a name with its colon, a sequence, and a pair of brackets.
use Rattle.std.proofs.Common.{◌≡◌, ℕ, Bool, true, false, ◌||◌, List, [], ◌∷◌, ◌++◌, refl, sym, ap, ◌∙◌}
use Rattle.std.proofs.Common.{append_assoc, arith, inl, inr, true≢false}
use Rattle.std.proofs.lemmas.Bool.Decides.{nat_tests}
use Rattle.miniserde_model.specs.Whitespace.{IsSpace, IsWhitespace}
use Rattle.miniserde_model.specs.Value.{Spaced, Named, Then, Between}
use Rattle.miniserde_model.specs.Bytes.{is_space, StopsAt, is_number_byte}
use Rattle.miniserde_model.proofs.LongestRuns.{AllPass, LongestRun, same_run}

-- a byte that may stand behind a value and belong to it, or to the space around it
abbrev pub goes_on : ℕ → Bool
goes_on c = is_space c || is_number_byte c

-- if a of P with x behind it equals b of Q with y behind it, and Stop holds of x and y, then R holds and x is y
abbrev pub Prefix : (P Q Stop : List ℕ → Type 0) (R : Type 0) → Type 0
Prefix P Q Stop R = (a b x y : List ℕ) → P a → Q b → Stop x → Stop y → a ++ x ≡ b ++ y → R × (x ≡ y)

-- if a of P with x behind it equals b of Q with y behind it, then R holds and x is y
abbrev pub PrefixFree : (P Q : List ℕ → Type 0) (R : Type 0) → Type 0
PrefixFree P Q R = (a b x y : List ℕ) → P a → Q b → a ++ x ≡ b ++ y → R × (x ≡ y)

-- the text is empty, or begins with a byte that is neither whitespace nor a byte of a number
abbrev pub AtEnd : List ℕ → Type 0
AtEnd x = StopsAt goes_on x

-- the text begins with the byte z
abbrev pub Closes : ℕ → List ℕ → Type 0
Closes z x = (rest : List ℕ) × (x ≡ z ∷ rest)

-- P's texts begin with no whitespace, whatever stands behind them
pub record Heads (P : List ℕ → Type 0) : Type 0 where
  pub no_space : (b rest : List ℕ) → P b → StopsAt is_space (b ++ rest)

-- no text of P begins with the byte z, with any text behind it
abbrev pub BeginsNot : ℕ → (List ℕ → Type 0) → Type 0
BeginsNot z P = (b rest x : List ℕ) → P b → b ++ rest ≡ z ∷ x → ⊥

space_passes : (c : ℕ) → IsSpace c → is_space c ≡ true
space_passes c h = grind (arith, nat_tests)

-- each byte of whitespace passes `is_space`
pub whitespace_passes : (w : List ℕ) → IsWhitespace w → AllPass is_space w
whitespace_passes [] h = tt
whitespace_passes (c ∷ cs) h = (space_passes c h.0, whitespace_passes cs h.1)

-- if s is the whitespace w and then x, which begins with none, w is the longest run of whitespace
pub space_run : {s w x : List ℕ} → s ≡ w ++ x → IsWhitespace w → StopsAt is_space x → LongestRun is_space s w x
space_run {w = w} e h k = record { text = e; pass = whitespace_passes w h; stops = k }

-- the longest run of whitespace of a text that begins with none is empty
pub no_space_run : (s : List ℕ) → StopsAt is_space s → LongestRun is_space s [] s
no_space_run s h = record { text = refl; pass = tt; stops = h }

space_no_number : (c : ℕ) → IsSpace c → is_number_byte c ≡ false
space_no_number c (inl h) = rw h refl
space_no_number c (inr (inl h)) = rw h refl
space_no_number c (inr (inr (inl h))) = rw h refl
space_no_number c (inr (inr (inr h))) = rw h refl

either : (p q : Bool) → (p || q) ≡ false → (p ≡ false) × (q ≡ false)
either true q e = absurd (true≢false e)
either false q e = (refl, e)

pub end_no_space : (x : List ℕ) → AtEnd x → StopsAt is_space x
end_no_space [] h = tt
end_no_space (c ∷ cs) h = (either (is_space c) (is_number_byte c) h).0

pub end_no_number : (x : List ℕ) → AtEnd x → StopsAt is_number_byte x
end_no_number [] h = tt
end_no_number (c ∷ cs) h = (either (is_space c) (is_number_byte c) h).1

-- whitespace followed by a text for which `AtEnd` holds begins with no byte of a number
pub space_ends_number : (w x : List ℕ) → IsWhitespace w → AtEnd x → StopsAt is_number_byte (w ++ x)
space_ends_number [] x h s = end_no_number x s
space_ends_number (c ∷ w) x h s = space_no_number c h.0

regroup : (a x : List ℕ) {P : List ℕ → Type 0} (p : Spaced P a) → a ++ x ≡ p.before ++ (p.inner ++ (p.after ++ x))
regroup a x p = ap (λ z. z ++ x) p.text ∙ append_assoc p.before (p.inner ++ p.after) x ∙ ap (λ z. p.before ++ z)
    (append_assoc p.inner p.after x)

-- `Prefix` holds of P and Q with whitespace around, if it holds of P and Q and they begin with no whitespace
pub same_spaced : {P Q : List ℕ → Type 0} {R : Type 0} → Heads P → Heads Q → Prefix P Q (StopsAt is_number_byte) R
    → Prefix (Spaced P) (Spaced Q) AtEnd R
same_spaced hp hq same a b x y p q sx sy e =
    let one = same_run (space_run (regroup a x p) p.is_before (hp.no_space p.inner (p.after ++ x) p.is_inner))
    (space_run (e ∙ regroup b y q) q.is_before (hq.no_space q.inner (q.after ++ y) q.is_inner)) in
    let two = same p.inner q.inner _ _ p.is_inner q.is_inner (space_ends_number p.after x p.is_after sx)
    (space_ends_number q.after y q.is_after sy) one.1 in
    let three = same_run (space_run refl p.is_after (end_no_space x sx)) (space_run two.1 q.is_after (end_no_space y sy)) in
    (two.0, three.1)

-- `Prefix` holds of names, colons and values, if it holds of the names and of the values
pub same_named : {N M V U : List ℕ → Type 0} {R S : Type 0} → Prefix (Spaced N) (Spaced M) AtEnd R
    → Prefix (Spaced V) (Spaced U) AtEnd S → Prefix (Named N V) (Named M U) AtEnd (R × S)
same_named names values a b x y p q sx sy e =
    let f : p.name ++ 58 ∷ (p.value ++ x) ≡ q.name ++ 58 ∷ (q.value ++ y) =
    sym (append_assoc p.name (58 ∷ p.value) x) ∙ ap (λ z. z ++ x) (sym p.text) ∙ e ∙ ap (λ z. z ++ y) q.text
    ∙ append_assoc q.name (58 ∷ q.value) y in
    let one = names p.name q.name _ _ p.is_name q.is_name refl refl f in
    let g : p.value ++ x ≡ q.value ++ y = cc (one.1) in
    let two = values p.value q.value x y p.is_value q.is_value sx sy g in
    ((one.0, two.0), two.1)

-- `Prefix` holds of first parts with rests before the byte z, if it holds of the first parts and of the rests
pub same_then : {P Q M N : List ℕ → Type 0} {R S : Type 0} (z : ℕ)
    → ((b x : List ℕ) → M b → Closes z x → AtEnd (b ++ x)) → ((b x : List ℕ) → N b → Closes z x → AtEnd (b ++ x))
    → Prefix P Q AtEnd R → Prefix M N (Closes z) S → Prefix (Then P M) (Then Q N) (Closes z) (R × S)
same_then z em en first rest a b x y p q sx sy e =
    let f : p.first ++ (p.rest ++ x) ≡ q.first ++ (q.rest ++ y) =
    sym (append_assoc p.first p.rest x) ∙ ap (λ z. z ++ x) (sym p.text) ∙ e ∙ ap (λ z. z ++ y) q.text
    ∙ append_assoc q.first q.rest y in
    let one = first p.first q.first _ _ p.is_first q.is_first (em p.rest x p.is_rest sx) (en q.rest y q.is_rest sy) f in
    let two = rest p.rest q.rest x y p.is_rest q.is_rest sx sy one.1 in
    ((one.0, two.0), two.1)

-- `Prefix` holds of texts between the bytes `left` and `right`, if it holds of them before `right`
pub same_between : {M N : List ℕ → Type 0} {S : Type 0} (left right : ℕ) → Prefix M N (Closes right) S
    → Prefix (Between left M right) (Between left N right) (StopsAt is_number_byte) S
same_between left right same a b x y p q sx sy e =
    let f : ◌≡◌ {A = List ℕ} (left ∷ (p.inside ++ right ∷ x)) (left ∷ (q.inside ++ right ∷ y)) =
    ap (λ z. left ∷ z) (sym (append_assoc p.inside (right ∷ []) x)) ∙ ap (λ z. z ++ x) (sym p.text) ∙ e
    ∙ ap (λ z. z ++ y) q.text ∙ ap (λ z. left ∷ z) (append_assoc q.inside (right ∷ []) y) in
    let g : p.inside ++ right ∷ x ≡ q.inside ++ right ∷ y = cc in
    let one = same p.inside q.inside (right ∷ x) (right ∷ y) p.is_inside q.is_inside (x, refl) (y, refl) g in
    (one.0, cc (one.1))

-- the byte z is no whitespace, and no text of P begins with whitespace or with z
pub record StandsApart (z : ℕ) (P : List ℕ → Type 0) : Type 0 where
  pub byte_no_space : is_space z ≡ false
  pub heads : Heads P
  pub begins_not : BeginsNot z P

-- whitespace and a closing bracket are no value
pub space_no_piece : {Q : List ℕ → Type 0} {z : ℕ} → StandsApart z Q → (a : List ℕ) {b : List ℕ} (x y : List ℕ)
    → IsWhitespace a → Spaced Q b → a ++ z ∷ x ≡ b ++ y → ⊥
space_no_piece {z = z} apart a {b = b} x y w q e =
    let one = same_run (space_run refl w apart.byte_no_space)
    (space_run (e ∙ regroup b y q) q.is_before (apart.heads.no_space q.inner (q.after ++ y) q.is_inner)) in
    apart.begins_not q.inner (q.after ++ y) x q.is_inner (sym one.1)
