-- Names that rise by their bytes, and members that are written with trees in normal form.
use Rattle.std.specs.Prelude.{◌≡◌, ◌&&◌, Bool, true, false, List, [], ◌∷◌, codes, refl}
use Rattle.std.specs.Ordering.{is_lt}
use Rattle.miniserde_model.specs.Tree.{Members}
use Rattle.miniserde_model.specs.Normal.{text_cmp}
use Rattle.miniserde_ser.specs.Trees.{TreesAreNormal}
use Rattle.miniserde_ser.specs.Writer.{WriterView}
use Rattle.miniserde_read.specs.types.Objects.{Name}

-- whether n is less than the first of the names, if there is one
abbrev pub is_before : Name → List Name → Bool
is_before n [] = true
is_before n (m ∷ ms) = is_lt (text_cmp n m)

-- whether the names strictly rise by their bytes
abbrev pub names_rise : List Name → Bool
names_rise [] = true
names_rise (n ∷ ns) = is_before n ns && names_rise ns

-- the members ms were written: if the writer's flag `normal` is true, it was true before, and the tree of each of them
-- is in normal form
abbrev pub KeepsTreesNormal : WriterView → Members → WriterView → Type 0
KeepsTreesNormal old ms new = new.normal ≡ true → (old.normal ≡ true) × TreesAreNormal ms

-- Worked cases: "a", "ab", "b" rise, and neither "b", "a" nor "a", "a" do.
pub three_rise : names_rise (codes "a" ∷ codes "ab" ∷ codes "b" ∷ []) ≡ true
three_rise = refl

pub two_fall : names_rise (codes "b" ∷ codes "a" ∷ []) ≡ false
two_fall = refl

pub equal_names_do_not_rise : names_rise (codes "a" ∷ codes "a" ∷ []) ≡ false
equal_names_do_not_rise = refl
