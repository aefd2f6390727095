-- A tree is a variant by `IsVariant` exactly if `variant_of_tree` returns the variant's name and data.
use Rattle.std.specs.Prelude.{◌≡◌, ◌↔◌, Option, Some}
use Rattle.miniserde_model.specs.Tree.{Tree}
use Rattle.miniserde_read.specs.types.Objects.{Name}
use Rattle.miniserde_enum.specs.Tagging.{Tagging, external, internal, IsVariant, variant_of_tree}
use Rattle.miniserde_enum.specs.laws.External.{external-agrees}
use Rattle.miniserde_enum.specs.laws.Internal.{internal-agrees}

-- by the tagging, t is the variant of the name n and the data o exactly if `variant_of_tree` returns n and o
pub tagging-agrees : (tagging : Tagging) (t : Tree) (n : Name) (o : Option Tree) → IsVariant tagging t n o
    ↔ (variant_of_tree tagging t ≡ Some (n, o))
tagging-agrees external = external-agrees
tagging-agrees (internal tag) = internal-agrees tag
