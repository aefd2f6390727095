-- A longest run of bytes that pass a test ends at one place.
use Rattle.std.proofs.Common.{◌≡◌, ℕ, Bool, true, List, [], ◌∷◌, ◌++◌, refl, sym, ap, ◌∙◌, true≢false}
use Rattle.std.specs.List.{AllByRecursion}
use Rattle.miniserde_model.specs.Bytes.{StopsAt}

-- each byte of the text passes the test p
abbrev pub AllPass : (ℕ → Bool) → List ℕ → Type 0
AllPass p xs = AllByRecursion (λ c. p c ≡ true) xs

clash : (p : ℕ → Bool) (c : ℕ) (cs x : List ℕ) → p c ≡ true → StopsAt p x → x ≡ c ∷ cs → ⊥
clash p c cs [] h s e = cc
clash p c cs (d ∷ x) h s e = let same : d ≡ c = cc in true≢false (sym h ∙ ap p (sym same) ∙ s)

-- the text s is the run a, whose bytes pass the test p, and then x, which begins with no byte that passes
pub record LongestRun (p : ℕ → Bool) (s a x : List ℕ) : Type 0 where
  pub text : s ≡ a ++ x
  pub pass : AllPass p a
  pub stops : StopsAt p x

-- a text has one longest run of bytes that pass the test p, and one rest after it
pub same_run : {p : ℕ → Bool} {s a b x y : List ℕ} → LongestRun p s a x → LongestRun p s b y → (a ≡ b) × (x ≡ y)
same_run {a = []} {b = []} g h = (refl, sym g.text ∙ h.text)
same_run {p = p} {a = []} {b = d ∷ b} {x = x} {y = y} g h =
    absurd (clash p d (b ++ y) x h.pass.0 g.stops (sym g.text ∙ h.text))
same_run {p = p} {a = c ∷ a} {b = []} {x = x} {y = y} g h =
    absurd (clash p c (a ++ x) y g.pass.0 h.stops (sym h.text ∙ g.text))
same_run {p = p} {a = c ∷ a} {b = d ∷ b} {x = x} {y = y} g h =
    let both : ◌≡◌ {A = List ℕ} (c ∷ (a ++ x)) (d ∷ (b ++ y)) = sym g.text ∙ h.text in
    let rest : a ++ x ≡ b ++ y = cc in
    let one : LongestRun p (a ++ x) a x = record { text = refl; pass = g.pass.1; stops = g.stops } in
    let two : LongestRun p (a ++ x) b y = record { text = rest; pass = h.pass.1; stops = h.stops } in
    let more = same_run one two in
    (cc (more.0), more.1)

-- if each byte of a and of b passes the test p, each byte of `a ++ b` does
pub pass_append : (p : ℕ → Bool) (a b : List ℕ) → AllPass p a → AllPass p b → AllPass p (a ++ b)
pass_append p [] b ha hb = hb
pass_append p (c ∷ a) b ha hb = (ha.0, pass_append p a b ha.1 hb)
