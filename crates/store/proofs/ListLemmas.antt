-- What a loop over the pairs of a query has still to look at, and an object of one entry more.
use Rattle.std.proofs.Common.{◌≡◌, ◌<◌, ◌+◌, ◌==◌, ℕ, zero, suc, List, [], ◌∷◌, ◌++◌, length, map, take, Bool, true, false, if◌then◌else◌}
use Rattle.std.proofs.Common.{Option, Some, None, refl, sym, ap, ◌∙◌, arith, append_assoc, append-nil}
use Rattle.std.specs.Prelude.{bytes_eq, codes, option_map}
use Rattle.std.specs.List.{slice_index_or, find, join_by, flat_map}
use Rattle.std.specs.Str.Lossy.{utf8_lossy}
use Rattle.std.proofs.lemmas.Bool.{ne_eqb}
use Rattle.std.proofs.lemmas.Grind.{flat_map-append}
use Rattle.std.proofs.lemmas.List.{map_more}
use Rattle.form_urlencoded.specs.Form.{decode, DecodesTo}
use Rattle.store.specs.Lists.{first_value, member_text}

-- ---- parameters

-- the parameters of pairs that are still encoded
abbrev pub texts : List (List ℕ × List ℕ) → List (List ℕ × List ℕ)
texts raw = map (λ (p : List ℕ × List ℕ). (utf8_lossy p.0, utf8_lossy p.1)) (map (λ (name, value). (decode name, decode value)) raw)

module _ (name : List ℕ) (raw rest : List (List ℕ × List ℕ)) (n v given value : List ℕ) (is : raw ≡ (n, v) ∷ rest) where
  abbrev Chosen : Bool → Option (List ℕ)
  Chosen b = option_map (λ p. p.1) (if b then Some (utf8_lossy (decode n), utf8_lossy (decode v))
      else find (λ p. bytes_eq p.0 name) (texts rest))

  chosen : (b : Bool) → DecodesTo n given → bytes_eq given name ≡ b → first_value name (texts raw) ≡ Chosen b
  chosen b named same = ap (λ l. first_value name (texts l)) is ∙ ap Chosen (ap (λ t. bytes_eq t name) (sym named.2) ∙ same)

  -- the next pair has the name
  pub met : DecodesTo n given → DecodesTo v value → bytes_eq given name ≡ true → first_value name (texts raw) ≡ Some value
  met named valued same = chosen true named same ∙ ap Some (sym valued.2)

  -- the next pair has another name
  pub unmet : DecodesTo n given → bytes_eq given name ≡ false → first_value name (texts raw) ≡ first_value name (texts rest)
  unmet named other = chosen false named other

-- no pair is left
pub none_left : (name : List ℕ) (raw : List (List ℕ × List ℕ)) → raw ≡ [] → first_value name (texts raw) ≡ None
none_left name raw is = ap (λ l. first_value name (texts l)) is

-- ---- objects

module _ {X : Type 0} (f : X → List ℕ) (separator : List ℕ) where
  -- what stands before one more piece
  abbrev Between : List X → List ℕ
  Between [] = []
  Between (x ∷ xs) = separator

  joined_more : (xs : List X) (y : X) → join_by f separator (xs ++ y ∷ []) ≡ join_by f separator xs ++ Between xs ++ f y
  joined_more [] y = append-nil (f y)
  joined_more (x ∷ xs) y =
      ap (λ l. f x ++ l) (flat_map-append (λ z. separator ++ f z) xs (y ∷ []) ∙ ap (λ l. flat_map (λ z. separator ++ f z) xs ++ l)
      (append-nil (separator ++ f y)))
      ∙ sym (append_assoc (f x) (flat_map (λ z. separator ++ f z) xs) (separator ++ f y))
      ∙ sym (append_assoc (f x ++ flat_map (λ z. separator ++ f z) xs) separator (f y))

module _ {X : Type 0} (f : X → List ℕ × List ℕ) where
  between : (i : ℕ) (entries : List X) → i < length entries
      → Between member_text (codes ",") (map f (take i entries)) ≡ (if i == 0 then [] else codes ",")
  between zero entries low = refl
  between (suc j) [] low = absurd (omega arith)
  between (suc j) (x ∷ xs) low = sym (ap (λ b. if b then [] else codes ",") (ne_eqb (suc j) 0 (λ e. omega (arith, e))))

  -- an object with the members of the first entries, which is still open
  abbrev pub Opened : ℕ → List X → List ℕ
  Opened i entries = codes "{" ++ join_by member_text (codes ",") (map f (take i entries))

  opened_more : (i : ℕ) (entries : List X) (x : X) → i < length entries → x ≡ slice_index_or entries i x
      → Opened i entries ++ (if i == 0 then [] else codes ",") ++ member_text (f x) ≡ Opened (i + 1) entries
  opened_more i entries x low is =
      let so_far = map f (take i entries) in
      let all = join_by member_text (codes ",") so_far in
      ap (λ l. l ++ member_text (f x)) (append_assoc (codes "{") all (if i == 0 then [] else codes ","))
      ∙ append_assoc (codes "{") (all ++ (if i == 0 then [] else codes ",")) (member_text (f x))
      ∙ ap (λ l. codes "{" ++ l) (
      ap (λ b. all ++ b ++ member_text (f x)) (sym (between i entries low))
      ∙ sym (joined_more member_text (codes ",") so_far (f x))
      ∙ ap (join_by member_text (codes ",")) (ap (λ y. so_far ++ f y ∷ []) is ∙ sym (map_more f entries i x low))
      )

  there : (i : ℕ) (entries : List X) → i < length entries → (x : X) × (x ≡ slice_index_or entries i x)
  there i [] low = absurd (omega arith)
  there zero (x ∷ xs) low = (x, refl)
  there (suc j) (x ∷ xs) low = there j xs (omega arith)

  -- one more member was appended to this text
  pub appended : (i : ℕ) (entries : List X) (old new : List ℕ) → i < length entries
      → ((x : X) → x ≡ slice_index_or entries i x → new ≡ old ++ (if i == 0 then [] else codes ",") ++ member_text (f x))
      → old ≡ Opened i entries → new ≡ Opened (i + 1) entries
  appended i entries old new low more is =
      let (x, at) = there i entries low in
      more x at ∙ ap (λ l. l ++ (if i == 0 then [] else codes ",") ++ member_text (f x)) is ∙ opened_more i entries x low at
