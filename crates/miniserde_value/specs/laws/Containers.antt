-- Two proofs that the open containers of a builder fit are equal.
use Rattle.std.specs.Prelude.{ℕ, List, [], ◌∷◌, reverse, length}
use Rattle.std.specs.Coded.{×_prop, Unit-prop, le_prop}
use Rattle.miniserde_value.specs.declared.json.value.Value.{Value}
use Rattle.miniserde_value.specs.declared.json.builder.OpenObject.{OpenObject}
use Rattle.miniserde_value.specs.declared.json.builder.OpenContainer.{OpenContainer}
use Rattle.miniserde_value.specs.declared.json.builder.OpenContainer.TheVariants as container
use Rattle.miniserde_value.specs.Containers.{outer_objects, Fits, ContainersFit}

pub fits-once : (n : ℕ) (os : List OpenObject) (ms : List OpenContainer) → IsProp (Fits n os ms)
fits-once n os [] = Unit-prop
fits-once n os (container.Array v ∷ ms) = ×_prop le_prop (fits-once v os ms)
fits-once n os (container.Object ∷ ms) = ×_prop le_prop (fits-once n (outer_objects os) ms)

-- `ContainersFit` has at most one proof
pub containers-fit-once : (vs : List Value) (os : List OpenObject) (ms : List OpenContainer) → IsProp (ContainersFit vs os ms)
containers-fit-once vs os ms = fits-once (length vs) (reverse os) (reverse ms)
