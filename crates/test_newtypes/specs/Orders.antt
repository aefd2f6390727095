-- The check of a span, of its content: its fields' contents, in their order.
use Rattle.std.specs.Prelude.{ℤ, int_le, Bool}

-- the first is at most the second
abbrev pub is_ordered : ℤ × (ℤ × Unit {0}) → Bool
is_ordered c = int_le c.0 c.1.0
