-- The optional values that trees mean: `null` means `None`, and any other tree what it means for the inner type.
use Rattle.std.specs.Prelude.{◌≡◌, ◌≢◌, Option, Some, None, option_map, true, refl}
use Rattle.miniserde_model.specs.Tree.{Tree, null, truth, list, no_trees}
use Rattle.miniserde_read.specs.types.Words.{boolean_of}

-- the tree is null and the value `None`, or the tree is not null and by R means the value inside
abbrev pub OptionReads : {T : Type 0} → (Tree → T → Type 0) → Tree → Option T → Type 0
OptionReads R t None = t ≡ null
OptionReads R t (Some x) = (t ≢ null) × R t x

-- the content of the optional value that a tree means: that of `None` for null, and what `of`
-- returns for any other tree
abbrev pub option_of : {C : Type 0} → (Tree → Option C) → Tree → Option (Option C)
option_of of null = Some None
option_of of t = option_map Some (of t)

-- Worked cases: `null` is `None`, `true` is `Some(true)`, and `[]` is no optional boolean.
pub null_is_none : option_of boolean_of null ≡ Some None
null_is_none = refl

pub word_is_some : option_of boolean_of (truth true) ≡ Some (Some true)
word_is_some = refl

pub list_is_no_boolean : option_of boolean_of (list no_trees) ≡ None
list_is_no_boolean = refl
