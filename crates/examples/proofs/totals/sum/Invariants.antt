-- The total so far is the sum of the quantities before this one.
use Rattle.std.proofs.Common.{◌≡◌, ◌<◌, ◌^◌, take}
use Rattle.std.specs.List.{sum_by}
use Rattle.examples.specs.Orders.{quantity_of}
use Rattle.examples.proofs.totals.sum.Given as goal

abbrev pub invariant-loop-order : goal.invariant-loop-order
invariant-loop-order l = (l.total ≡ sum_by quantity_of (take l.order-index l.orders.items)) × (l.total < 2 ^ 32)
