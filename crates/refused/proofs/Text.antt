-- The text for the characters of a name with one more (`one-char`), and for the names of a path with one more
-- (`one-name`).
use Rattle.std.proofs.Common.{◌≡◌, ℕ, ◌+◌, ◌<◌, false, suc, List, [], ◌∷◌, ◌++◌, length, nat_eq, append-nil, append_assoc}
use Rattle.std.proofs.Common.{map, flat_map, take, get_or, Bor, refl, sym, ap, subst, ◌∙◌, true≢false, arith}
use Rattle.std.specs.Str.{chars}
use Rattle.std.proofs.lemmas.Grind.{flat_map-append}
use Rattle.std.proofs.lemmas.List.{map-append, take_more}
use Rattle.miniserde_model.specs.Ascii.{decimal_point}
use Rattle.refused.specs.Text.{char_text, name_text, path_text}

pub one-char : (cs : List ℕ) (c : ℕ) → flat_map char_text cs ++ char_text c ≡ flat_map char_text (cs ++ c ∷ [])
one-char cs c = sym (flat_map-append char_text cs (c ∷ []) ∙ ap (λ l. flat_map char_text cs ++ l) (append-nil (char_text c)))

-- the text for a name that is not empty
pub name_text-other : (n cs : List ℕ) → nat_eq (length n) 0 ≡ false → chars n ≡ cs → flat_map char_text cs ≡ name_text n
name_text-other [] cs e a = absurd (true≢false e)
name_text-other (b ∷ bs) cs e a = ap (flat_map char_text) (sym a)

-- the text for a name behind another
abbrev pub later_text : List ℕ → List ℕ
later_text n = decimal_point ∷ name_text n

-- the text for the first name and i later ones, with one more
pub one-name : (names : List (Bor (List ℕ))) (first : Bor (List ℕ)) (later : List (Bor (List ℕ))) → names ≡ first ∷ later
    → (i : ℕ) (d : Bor (List ℕ)) → i < length later
    → path_text (map (λ s. s.now) (take (1 + i) names)) ++ later_text (get_or later i d).now
    ≡ path_text (map (λ s. s.now) (take (1 + (i + 1)) names))
one-name names first later is i d below =
    let done = map (λ s. s.now) (take i later) in
    let m = (get_or later i d).now in
    let before : suc i ≡ 1 + i = omega arith in
    let after : suc (i + 1) ≡ 1 + (i + 1) = omega arith in
    let at : path_text (map (λ s. s.now) (take (1 + i) (first ∷ later))) ≡ name_text first.now ++ flat_map later_text done =
    subst (λ k. path_text (map (λ s. s.now) (take k (first ∷ later))) ≡ name_text first.now ++ flat_map later_text done)
    before refl in
    let then : path_text (map (λ s. s.now) (take (1 + (i + 1)) (first ∷ later)))
    ≡ name_text first.now ++ flat_map later_text (map (λ s. s.now) (take (i + 1) later)) =
    subst (λ k. path_text (map (λ s. s.now) (take k (first ∷ later)))
    ≡ name_text first.now ++ flat_map later_text (map (λ s. s.now) (take (i + 1) later))) after refl in
    let more : flat_map later_text (map (λ s. s.now) (take (i + 1) later)) ≡ flat_map later_text done ++ later_text m =
    ap (λ l. flat_map later_text (map (λ s. s.now) l)) (take_more later i d below)
    ∙ ap (flat_map later_text) (map-append (λ s. s.now) (take i later) (get_or later i d ∷ []))
    ∙ flat_map-append later_text done (m ∷ [])
    ∙ ap (λ l. flat_map later_text done ++ l) (append-nil (later_text m)) in
    subst (λ names. path_text (map (λ s. s.now) (take (1 + i) names)) ++ later_text m
    ≡ path_text (map (λ s. s.now) (take (1 + (i + 1)) names))) (sym is)
    (ap (λ l. l ++ later_text m) at ∙ append_assoc (name_text first.now) (flat_map later_text done) (later_text m)
    ∙ ap (λ l. name_text first.now ++ l) (sym more) ∙ sym then)
