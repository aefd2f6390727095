-- The text of a path: its names with dots between them, each written so that a name with a dot is told from two names.
use Rattle.std.specs.Prelude.{◌≡◌, ℕ, ◌==◌, ◌||◌, List, [], ◌∷◌, ◌++◌, flat_map, if◌then◌else◌, codes, refl}
use Rattle.std.specs.Char.{encode_utf8}
use Rattle.std.specs.Str.{chars}
use Rattle.miniserde_model.specs.Ascii.{decimal_point, quotation_mark, reverse_solidus}

-- the bytes for one character of a name: itself, with a backslash before a dot, a quotation mark or a backslash
abbrev pub char_text : ℕ → List ℕ
char_text c =
    if (c == decimal_point) || (c == quotation_mark) || (c == reverse_solidus) then reverse_solidus ∷ encode_utf8 c
    else encode_utf8 c

-- the text for a name: that of each character, or two quotation marks for the empty name
abbrev pub name_text : List ℕ → List ℕ
name_text [] = quotation_mark ∷ quotation_mark ∷ []
name_text (b ∷ bs) = flat_map char_text (chars (b ∷ bs))

-- the text for the names, with dots between them
abbrev pub path_text : List (List ℕ) → List ℕ
path_text [] = []
path_text (n ∷ ns) = name_text n ++ flat_map (λ n. decimal_point ∷ name_text n) ns

-- Worked cases: a path of two names, one name with a dot, the empty name, and the empty path.
pub two_names : path_text (codes "a" ∷ codes "b" ∷ []) ≡ codes "a.b"
unfolding chars encode_utf8
two_names = refl

pub one_name : path_text (codes "a.b" ∷ []) ≡ codes "a\\.b"
unfolding chars encode_utf8
one_name = refl

pub empty_name : path_text ([] ∷ []) ≡ codes "\"\""
empty_name = refl

pub no_name : path_text [] ≡ []
no_name = refl
