-- The variants of an enum one after another: their content, their trees and their values, by their names.
-- The data of a variant are a tree, or `None` if it has none. The names are a list in the order of the variants.
use Rattle.std.specs.Prelude.{◌≡◌, List, [], ◌∷◌, Option, Some, None, option_map, option_and_then, bytes_eq, if◌then◌else◌}
use Rattle.miniserde_model.specs.Tree.{Tree, null}
use Rattle.miniserde_read.specs.types.Objects.{Name}
use Rattle.miniserde_enum.specs.declared.one_of.OneOf.{OneOf}
use Rattle.miniserde_enum.specs.declared.one_of.Never.{Never}
use Rattle.miniserde_enum.specs.declared.one_of.OneOf.TheVariants.{First, Later}
use Rattle.miniserde_enum.specs.Tagging.{Tagging, external, internal, IsVariant, variant_of_tree, variant_tree}

-- ---- the content of a variant, by a name and its data

-- the content for the name k and the data o, by the variants' names: what `first` returns for the
-- data if k is the first variant's name, and else what `later` returns; `None` if there are no names
abbrev pub variant_content : {C D : Type 0} → (Option Tree → Option C) → (List Name → Name → Option Tree → Option D)
    → List Name → Name → Option Tree → Option (OneOf C D)
variant_content first later [] k o = None
variant_content first later (n ∷ ns) k o = if bytes_eq k n then option_map First (first o) else option_map Later (later ns k o)

-- the content of a variant without data, if there are no data
abbrev pub unit_content : Option Tree → Option (Unit {0})
unit_content None = Some tt
unit_content (Some t) = None

-- the content that `of` returns for the data, if there are data
abbrev pub data_content : {C : Type 0} → (Tree → Option C) → Option Tree → Option C
data_content of o = option_and_then of o

-- what f, which takes data or none, returns for the data t
abbrev pub with_data : {C : Type 0} → (Option Tree → Option C) → Tree → Option C
with_data f t = f (Some t)

-- ---- which trees mean which variant

-- by the variants' names, the tree t means the value v: as `one` says if v is of the first variant, and else as `later`
-- says; without names it means none
abbrev pub CaseReads : {T W : Type 0} → (Name → Tree → T → Type 0) → (List Name → Tree → W → Type 0) → List Name → Tree → OneOf T W → Type 0
CaseReads one later [] t v = ⊥
CaseReads one later (n ∷ ns) t (First x) = one n t x
CaseReads one later (n ∷ ns) t (Later w) = later ns t w

-- by the tagging, the tree is the variant of the name n without data
abbrev pub UnitReads : Tagging → Name → Tree → Unit {0} → Type 0
UnitReads tagging n t u = IsVariant tagging t n None

-- by the tagging, the tree is the variant of the name n with data, and by `reads` the data mean the value x
abbrev pub DataReads : {T : Type 0} → (Tree → T → Type 0) → Tagging → Name → Tree → T → Type 0
DataReads reads tagging n t x = (u : Tree) × IsVariant tagging t n (Some u) × reads u x

-- ---- the tree of a value, by its tagging

-- by the tagging, the tree of the variant of the name n without data, whose value is the unit
abbrev pub unit_tree : Tagging → Name → Unit {0} → Tree
unit_tree tagging n u = variant_tree tagging n None

-- by the tagging, the tree of the variant of the name n with the data x, whose own tree f returns
abbrev pub data_tree : {T : Type 0} → Tagging → (T → Tree) → Name → T → Tree
data_tree tagging f n x = variant_tree tagging n (Some (f x))

-- the tree of the value v, by the variants' names: `one` returns it for the first variant's name
-- and value, and `later` for the later names and a later variant's value; null if there are no names
abbrev pub case_tree : {T W : Type 0} → (Name → T → Tree) → (List Name → W → Tree) → List Name → OneOf T W → Tree
case_tree one later [] v = null
case_tree one later (n ∷ ns) (First x) = one n x
case_tree one later (n ∷ ns) (Later w) = later ns w

-- the tree of the value v of an externally tagged enum, by the variants' names: `tree` returns the
-- tree of the variant's value, which `values` returns
abbrev pub enum_tree : {V W : Type 0} → List Name → (Tagging → List Name → V → Tree) → (W → V) → W → Tree
enum_tree names tree values v = tree external names (values v)

-- the tree of the value v of an enum that is tagged by `tag`, by the variants' names: `tree`
-- returns the tree of the variant's value, which `values` returns
abbrev pub tagged_tree : {V W : Type 0} → Name → List Name → (Tagging → List Name → V → Tree) → (W → V) → W → Tree
tagged_tree tag names tree values v = tree (internal tag) names (values v)

-- by the tagging, the tree that is written for a name without data gives back that name and no data
abbrev pub UnitFits : Tagging → Type 0
UnitFits tagging = (n : Name) → variant_of_tree tagging (variant_tree tagging n None) ≡ Some (n, None)

-- by the tagging, the tree that is written for a name with valid data gives back that name and the tree of the data
abbrev pub DataFits : {T : Type 0} → (T → Type 0) → (T → Tree) → Tagging → Type 0
DataFits {T} valid tree tagging = (n : Name) (x : T) → valid x
    → variant_of_tree tagging (variant_tree tagging n (Some (tree x))) ≡ Some (n, Some (tree x))

-- ---- values

-- the value of the first variant with the data x
abbrev pub first_case : {T W : Type 0} → T → OneOf T W
first_case x = First x

-- the value w of a later variant
abbrev pub later_case : {T W : Type 0} → W → OneOf T W
later_case w = Later w

-- the value is valid: by `one` if it is of the first variant, and else by `later`
abbrev pub CaseValid : {T W : Type 0} → (T → Type 0) → (W → Type 0) → OneOf T W → Type 0
CaseValid one later (First x) = one x
CaseValid one later (Later w) = later w

-- the content of the value: by f if it is of the first variant, and else by g
abbrev pub case_content : {T W C D : Type 0} → (T → C) → (W → D) → OneOf T W → OneOf C D
case_content f g (First x) = First (f x)
case_content f g (Later w) = Later (g w)

-- f of the data if the value is of the first variant, and else g of the later variant's value
abbrev pub each_case : {T W : Type 0} (P : OneOf T W → Type 0) → ((x : T) → P (First x)) → ((w : W) → P (Later w)) → (v : OneOf T W) → P v
each_case P f g (First x) = f x
each_case P f g (Later w) = g w

-- every property holds of the value v of `Never`, since there is none
pub any_of_never : (P : Never → Type 0) → (v : Never) → P v
any_of_never P v = elim v [ ]
