-- Untagged enums: which variant a tree means, and the tree of a variant.
use Rattle.std.specs.Prelude.{◌≡◌, true, Option, Some, None, option_map, codes, refl}
use Rattle.miniserde_model.specs.Tree.{Tree, null, truth, str, list, no_trees}
use Rattle.miniserde_read.specs.types.Words.{boolean_of, string_of}
use Rattle.miniserde_enum.specs.declared.one_of.OneOf.{OneOf}
use Rattle.miniserde_enum.specs.declared.one_of.OneOf.TheVariants.{First, Later}

-- the first content, if there is one, and else the second
abbrev pub first_content : {C D : Type 0} → Option C → Option D → Option (OneOf C D)
first_content (Some c) o = Some (First c)
first_content None o = option_map Later o

-- the content that a tree gives for the first variant, by f, or else for a later one, by g
abbrev pub first_of : {C D : Type 0} → (Tree → Option C) → (Tree → Option D) → Tree → Option (OneOf C D)
first_of f g t = first_content (f t) (g t)

-- the tree means the value: as `one` says if it is of the first variant; if it is of a later one, as `later` says, and
-- the tree gives no content for the first variant, by `of`
abbrev pub FirstReads : {T W C : Type 0} → (Tree → T → Type 0) → (Tree → Option C) → (Tree → W → Type 0) → Tree → OneOf T W → Type 0
FirstReads one of later t (First x) = one t x
FirstReads one of later t (Later w) = (of t ≡ None) × later t w

-- the tree of the data: by f if the value is of the first variant, and else by g
abbrev pub either_tree : {T W : Type 0} → (T → Tree) → (W → Tree) → OneOf T W → Tree
either_tree f g (First x) = f x
either_tree f g (Later w) = g w

-- the tree of the value v of an untagged enum: `tree` returns the tree of the variant's value, which `values` returns
abbrev pub untagged_tree : {V W : Type 0} → (V → Tree) → (W → V) → W → Tree
untagged_tree tree values v = tree (values v)

-- Worked cases: of a boolean and a string `true` is the first variant and `"a"` the second; `[]` is none.
pub true_is_first : first_of boolean_of string_of (truth true) ≡ Some (First true)
true_is_first = refl

pub text_is_later : first_of boolean_of string_of (str (codes "a")) ≡ Some (Later (codes "a"))
text_is_later = refl

pub list_is_none : first_of boolean_of string_of (list no_trees) ≡ None
list_is_none = refl
