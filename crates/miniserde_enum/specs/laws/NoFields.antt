-- A tree gives content to a variant without fields exactly if it is an object.
use Rattle.std.proofs.Common.{◌≡◌, Some, refl}
use Rattle.std.specs.Prelude.{◌↔◌}
use Rattle.miniserde_model.specs.Tree.{Tree, members}
use Rattle.miniserde_read.specs.types.Objects.{object_of}
use Rattle.miniserde_enum.specs.Objects.{IsObject}

-- a tree is an object exactly if `object_of` returns the unit for it, whatever its members
pub any-object : (t : Tree) → IsObject t ↔ (object_of (λ ms. Some (tt {0})) t ≡ Some tt)
any-object (members ms) = (λ h. refl, λ e. tt)
any-object t = (λ h. absurd h, λ e. absurd (cc))
