-- The hole that a builder of documents has so far.
use Rattle.std.specs.Prelude.{map, reverse}
use Rattle.miniserde_value.specs.declared.json.builder.Builder.{Builder}
use Rattle.miniserde_value.specs.Hole.{Hole}
use Rattle.miniserde_value.specs.Values.{content_of}
use Rattle.miniserde_value.specs.Containers.{hole_of}

-- the hole that the builder has so far; its open objects and open containers stand outermost first, and `hole_of` takes
-- them innermost first
abbrev pub hole_in : Builder → Hole
hole_in b = hole_of (map content_of b.values.items) (reverse b.objects.items) (reverse b.containers.items)
