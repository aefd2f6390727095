-- Orders, and what becomes of them.
use Rattle.std.specs.Prelude.{ℕ, ◌+◌, ◌-◌, ◌^◌, min, true, nat_lt, if◌then◌else◌}
use Rattle.examples.specs.declared.order.Order.{Order}

-- the order, paid
abbrev pub settled_of : Order → Order
settled_of v = record v { paid = true }

-- the order, of one more, and at most 2 ^ 32 - 1
abbrev pub one_more_of : Order → Order
one_more_of v = record v { quantity = min (v.quantity + 1) (2 ^ 32 - 1) }

-- how many pieces the order is of
abbrev pub quantity_of : Order → ℕ
quantity_of v = v.quantity

-- the order, paid if it is of fewer than ten pieces
abbrev pub paid_if_small : Order → Order
paid_if_small v = if nat_lt v.quantity 10 then settled_of v else v
