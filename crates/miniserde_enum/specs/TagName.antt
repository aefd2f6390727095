-- The value of an internally tagged enum's tag: a string that may be the name of a variant.
use Rattle.std.specs.Prelude.{◌≡◌, List, [], ◌∷◌, Option, Some, None, option_map, bytes_eq, if◌then◌else◌}
use Rattle.miniserde_model.specs.Tree.{Tree}
use Rattle.miniserde_read.specs.Meaning.{Meaning, meaning_with}
use Rattle.miniserde_read.specs.types.Objects.{Name}
use Rattle.miniserde_read.specs.types.Words.{string_of}

-- the first of the names that is equal to n, if there is one
abbrev pub name_among : List Name → Name → Option Name
name_among [] n = None
name_among (m ∷ ms) n = if bytes_eq n m then Some m else name_among ms n

-- for a string, `Some` of the name that is equal to it, or `Some` of `None` if no name is; for any
-- other tree, `None`
abbrev pub tag_name_of : List Name → Tree → Option (Option Name)
tag_name_of names t = option_map (name_among names) (string_of t)

-- The meaning of the value of a tag, by the variants' names: each string means such a value. `name`
-- returns the variant's name that the value is, or `None` if it is no variant's.
abbrev pub tag_name_meaning : {W : Type 0} → List Name → (W → Option Name) → Meaning W
tag_name_meaning names name =
    meaning_with name (tag_name_of names) (λ t w. tag_name_of names t ≡ Some (name w)) (λ t w. (λ e. e, λ e. e))
