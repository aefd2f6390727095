-- The orders before this one are paid, and the others are as they were.
use Rattle.std.proofs.Common.{◌≡◌, ◌++◌, map, take, drop}
use Rattle.examples.specs.Orders.{settled_of}
use Rattle.examples.proofs.batches.mark_all_paid.Given as goal

abbrev pub invariant-loop-order : goal.invariant-loop-order
invariant-loop-order l = l.order-items ≡ map settled_of (take l.order-index l.fn.orders.items) ++ drop l.order-index l.fn.orders.items
