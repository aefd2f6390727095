-- The values of `()`, `bool` and `String` that trees mean (RFC 8259, sections 3 and 7).
use Rattle.std.specs.Prelude.{ℕ, Bool, List, Option, Some, None, ◌≡◌, true, codes, refl}
use Rattle.miniserde_model.specs.Tree.{Tree, null, truth, str}

-- the content of `()`, if the tree is null
abbrev pub unit_of : Tree → Option (Unit {0})
unit_of null = Some tt
unit_of _ = None

-- the boolean, if the tree is `true` or `false`
abbrev pub boolean_of : Tree → Option Bool
boolean_of (truth b) = Some b
boolean_of _ = None

-- the text, if the tree is a string
abbrev pub string_of : Tree → Option (List ℕ)
string_of (str s) = Some s
string_of _ = None

-- Worked cases: `true` is a `bool`, and the string `"true"` is none.
pub word_is_boolean : boolean_of (truth true) ≡ Some true
word_is_boolean = refl

pub string_is_no_boolean : boolean_of (str (codes "true")) ≡ None
string_is_no_boolean = refl
